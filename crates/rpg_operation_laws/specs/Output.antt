-- Lines: which are put out, where the paper is then, and blank after.
use Rattle.std.specs.Prelude.{◌≡◌, ◌<◌, ◌≤◌, ◌+◌, ℕ, zero, suc, pos, Bool, true, false, ◌&&◌, if◌then◌else◌, List, [], ◌∷◌, ◌++◌, replicate, Option, Some}
use Rattle.std.specs.FinSet as set
use Rattle.std.specs.List.{list_any}
use Rattle.std.specs.Ordering.{eq_by_cmp, nat_cmp}
use Rattle.std.specs.declared.cmp.Ordering.{Ordering}
use Rattle.rpg_paper.specs.Paper.{Position, skipped, spaced}
use Rattle.rpg_paper.specs.declared.form.Page.{Page}
use Rattle.rpg_program.specs.Effect.{Effect, Leaves, then_go}
use Rattle.rpg_program.specs.Ends.{Continues}
use Rattle.rpg_program.specs.Entries.{position_of}
use Rattle.rpg_program.specs.Lines.{Draft, Line, after_space, assembled, blank_line, exception_output, line_out, put_on, with_field}
use Rattle.rpg_program.specs.Values.{Value, Number, Text, entry_cmp}
use Rattle.rpg_program.specs.World.{Fields, World, all_hold, three_hold, value_in}
use Rattle.rpg_program.specs.declared.form.FieldForm.{FieldForm}
use Rattle.rpg_program.specs.declared.line.File.TheVariants.{Printer}
use Rattle.rpg_program.specs.declared.line.LineField.{LineField}
use Rattle.rpg_program.specs.declared.line.Spacing.{Spacing}
use Rattle.rpg_program.specs.declared.line.Time.{Time}
use Rattle.rpg_program.specs.declared.rows.Overflow.{Overflow}
use Rattle.rpg_program.specs.declared.line.Time.TheVariants.{Exception}

-- ---- the paper

-- to the next such line of a page that isn't before the present one; 0 is no skip
abbrev pub skipped_if_any : ℕ → Position → Position
skipped_if_any zero p = p
skipped_if_any (suc n) p = skipped (suc n) p

-- the paper skips, and then spaces
abbrev pub moved_on : Page → (skip space : ℕ) → Position → Position
moved_on page skip space p = spaced page space (skipped_if_any skip p)

-- the paper moves, the line is printed there, and the paper moves again
pub record Prints {K : Type 0} {R : K → K → Ordering} (page : Page) (s : Spacing) (text : List ℕ) (w : World R) (e : Effect R) : Type 0 where
  pub goes_on : e.ending ≡ Continues
  pub line : e.lines ≡ record { at = moved_on page s.skip_before s.space_before w.paper.here; text = text } ∷ []
  pub record_none : e.records ≡ []
  pub rests : e.world.paper.here ≡ moved_on page s.skip_after s.space_after (moved_on page s.skip_before s.space_before w.paper.here)

-- printed lines, for any page and overflow indicator
abbrev pub LinesMovePaper : {K : Type 0} → (K → K → Ordering) → Type 0
LinesMovePaper R = (overflow : Overflow) (s : Spacing) (text : List ℕ) (w : World R) → Prints overflow.page s text w (put_on overflow Printer s text w)

-- ---- overflow

-- line by line, the paper turns the overflow indicator on at the page's overflow line, and above it changes none
pub record TurnsOn {K : Type 0} {R : K → K → Ordering} (overflow : Overflow) (n : ℕ) (w : World R) : Type 0 where
  pub at : w.paper.here.line + 1 ≡ overflow.page.overflow_line → set.contains (after_space overflow 1 w).data.on n ≡ true
  pub above : w.paper.here.line + 1 < overflow.page.overflow_line → (after_space overflow 1 w).data.on ≡ w.data.on

-- on any page with its overflow line
abbrev pub LinesTurnOn : {K : Type 0} → (K → K → Ordering) → Type 0
LinesTurnOn R = (overflow : Overflow) (n : ℕ) (w : World R) → overflow.page.overflow_line ≤ overflow.page.lines → overflow.indicator ≡ Some n → TurnsOn overflow n w

-- ---- EXCPT

-- an exception line
abbrev pub is_exception : Time → Bool
is_exception Exception = true
is_exception _ = false

-- EXCPT goes through all lines in order. It puts out the exception lines of which all conditions of an alternative hold.
pub record PutsExceptions {K : Type 0} {R : K → K → Ordering} (forms : K → Option FieldForm) (words : K → List ℕ) (overflow : Overflow) (l : Line K) (ls : List (Line K)) (w : World R) : Type 0 where
  pub no_lines : exception_output forms words overflow [] w ≡ Leaves w
  pub next_line : exception_output forms words overflow (l ∷ ls) w
      ≡ then_go (if is_exception l.time && list_any (all_hold w.data.on) l.alternatives then line_out forms words overflow l w else Leaves w)
      (exception_output forms words overflow ls)

-- lines at EXCPT, for any fields, words, page and overflow indicator
abbrev pub ExceptionsAreDue : {K : Type 0} → (K → K → Ordering) → Type 0
ExceptionsAreDue {K} R = (forms : K → Option FieldForm) (words : K → List ℕ) (overflow : Overflow) (l : Line K) (ls : List (Line K)) (w : World R)
    → PutsExceptions forms words overflow l ls w

-- ---- blank after

-- zero, or blanks
pub data IsBlank : Option Value → Type 0 where
  Zero : IsBlank (Some (Number (pos 0)))
  Blanks : (n : ℕ) → IsBlank (Some (Text (replicate n 32)))

-- a field of a line: with blank after, its entry is noted, if its conditions hold and nothing is wrong
abbrev pub FieldsAreNoted : {K : Type 0} → (K → K → Ordering) → Type 0
FieldsAreNoted {K} R = (forms : K → Option FieldForm) (words : K → List ℕ) (on : set.FinSet nat_cmp) (len : ℕ) (d : Draft R) (f : LineField K) (p : ℕ)
    → three_hold on f.conditions ≡ true → position_of forms d.fields f.operand ≡ Some p → (with_field forms words on len d f).ending ≡ Continues
    → (with_field forms words on len d f).draft.to_blank ≡ (if f.is_blanked then d.to_blank ++ (f.operand.field, p) ∷ [] else d.to_blank)

-- a line with these entries noted, and the values after it
pub record BlanksNoted {K : Type 0} {R : K → K → Ordering} (d : Draft R) (after : Fields R) : Type 0 where
  pub blanked : (es fs : List (K × ℕ)) (e : K × ℕ) → d.to_blank ≡ es ++ e ∷ fs → IsBlank (value_in after e)
  pub others : (e : K × ℕ) → list_any (eq_by_cmp (entry_cmp R) e) d.to_blank ≡ false → value_in after e ≡ value_in d.fields e

-- each line that doesn't halt
abbrev pub LinesBlankNoted : {K : Type 0} → (K → K → Ordering) → Type 0
LinesBlankNoted {K} R = (forms : K → Option FieldForm) (words : K → List ℕ) (overflow : Overflow) (l : Line K) (w : World R)
    → (line_out forms words overflow l w).ending ≡ Continues
    → BlanksNoted (assembled forms words w.data.on l.len l.fields (blank_line l.len w)).draft (line_out forms words overflow l w).world.data.fields
