-- The output so far: lines and records, and their bytes. Of the lines before, a form remembers only the last one placed, so its worlds
-- count pages from there, and what is stated about an output holds for every line that may have been placed before.
use Rattle.std.specs.Prelude.{◌≡◌, ℕ, ◌+◌, List, [], ◌∷◌, ◌++◌, Option}
use Rattle.std.specs.Ordering.{nat_cmp}
use Rattle.std.specs.declared.cmp.Ordering.{Ordering}
use Rattle.rpg_paper.specs.Form.{line_of, page_or_1}
use Rattle.rpg_paper.specs.Paper.{Position, Placed, bytes_from, last_position_from}
use Rattle.rpg_program.specs.Effect.{Effect}
use Rattle.rpg_program.specs.Ends.{End}
use Rattle.rpg_program.specs.World.{World}

-- the bytes of the printer and those of the disk
pub record Bytes : Type 0 where
  pub print : List ℕ
  pub disk : List ℕ

-- the disk's bytes: records with a line feed each
abbrev pub disk_bytes : List (List ℕ) → List ℕ
disk_bytes [] = []
disk_bytes (text ∷ texts) = text ++ 10 ∷ disk_bytes texts

-- the bytes of lines after the line placed last, and of records
abbrev pub with_output : Option Position → List Placed → List (List ℕ) → Bytes → Bytes
with_output previous lines records old = record { print = old.print ++ bytes_from previous lines; disk = old.disk ++ disk_bytes records }

-- the world whose pages were counted from the line placed last, with its place on the paper
abbrev pub on_paper : {K : Type 0} {R : K → K → Ordering} → Option Position → World R → World R
on_paper previous w = record w { paper = record w.paper { here = record { page = page_or_1 previous + w.paper.here.page; line = w.paper.here.line } } }

-- what a machine holds of a paper: the line placed last, and the world whose pages are counted from there
pub record Held : Type 0 where
  pub last : Option ℕ
  pub world : World nat_cmp

-- what is held at the end is what an effect left after its lines, and their bytes were appended
pub record IsLeft (previous : Option Position) (after : Effect nat_cmp) (old : Bytes) (e : End) (v : Held) (new : Bytes) : Type 0 where
  pub ending : e ≡ after.ending
  pub world : on_paper (last_position_from previous after.lines) v.world ≡ after.world
  pub last : v.last ≡ line_of (last_position_from previous after.lines)
  pub bytes : new ≡ with_output previous after.lines after.records old

-- an effect was done, whatever was placed before: how it ended, what it left, and its lines' bytes appended
pub record IsDone (effect : World nat_cmp → Effect nat_cmp) (w : Held) (old : Bytes) (e : End) (v : Held) (new : Bytes) : Type 0 where
  pub following : (previous : Option Position) → w.last ≡ line_of previous → IsLeft previous (effect (on_paper previous w.world)) old e v new
