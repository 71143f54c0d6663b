-- Match values were read in order. So the last value of each file is enough to find a match.
use Rattle.std.specs.Prelude.{◌≡◌, ℕ, Bool, true, false, not, ◌&&◌, ◌||◌, List, [], ◌∷◌, Option, None, Some, is_none, is_some, if◌then◌else◌}
use Rattle.rpg_program.specs.declared.input.InputFile.{InputFile}
use Rattle.rpg_program.specs.declared.input.InputFile.TheVariants.{Primary, Secondary}
use Rattle.rpg_program.specs.Object.{Object, has_file}
use Rattle.rpg_cycle_records.specs.Earlier.{Selected, file_at, last_value, left_by, match_value, or_before}
use Rattle.rpg_cycle_records.specs.Matching.{exceeds}
use Rattle.rpg_cycle_records.specs.Waiting.{InputState, Inputs, chosen, finds_match, has_match, other_file, waiting_in, waiting_value}

-- A value, if there is one, is no greater than this one; if this one is missing, so is the value.
abbrev pub IsUpTo : Option (List ℕ) → Option (List ℕ) → Type 0
IsUpTo None m = m ≡ None
IsUpTo (Some v) m = exceeds m (Some v) ≡ false

-- so are the match values of all these records
abbrev pub IsTopOf : Object → Option (List ℕ) → List Selected → Type 0
IsTopOf p v [] = Unit {0}
IsTopOf p v (s ∷ ss) = IsUpTo v (match_value p s) × IsTopOf p v ss

-- a record without a match value may come anywhere
abbrev pub IsTopIfAny : Object → Option (List ℕ) → List Selected → Type 0
IsTopIfAny p None ss = Unit {0}
IsTopIfAny p (Some v) ss = IsTopOf p (Some v) ss

-- the match values of both files together ascend from record to record, given last first
abbrev pub IsMerged : Object → List Selected → Type 0
IsMerged p [] = Unit {0}
IsMerged p (s ∷ ss) = IsTopIfAny p (match_value p s) ss × IsMerged p ss

-- the file has no more records
abbrev pub is_spent : Object → InputFile → InputState → Bool
is_spent p f i = is_none i.waiting && (not (has_file p f) || i.is_over)

-- the match value that the file has reached
abbrev pub front : Object → List Selected → InputFile → InputState → Option (List ℕ)
front p earlier f i = or_before (last_value p f earlier) (waiting_value p f i.waiting)

-- a record that waits in a file is of the file
abbrev pub IsFromFile : Object → InputFile → Option Selected → Type 0
IsFromFile p f None = Unit {0}
IsFromFile p f (Some s) = file_at p s ≡ f

-- a file that still has records has reached a match value no lower than any that was selected
pub record IsFileOrderly (p : Object) (earlier : List Selected) (f : InputFile) (i : InputState) : Type 0 where
  pub own : IsFromFile p f i.waiting
  pub top : is_spent p f i ≡ false → IsTopOf p (front p earlier f i) earlier

-- what holds between any two cycles of a job
pub record AreMergedInOrder (p : Object) (earlier : List Selected) (i : Inputs) : Type 0 where
  pub merged : IsMerged p earlier
  pub primary : IsFileOrderly p earlier Primary i.primary
  pub secondary : IsFileOrderly p earlier Secondary i.secondary

-- The law: if match values were selected in order, testing the last values is the same as testing all records that were read.
abbrev pub LastValuesTellMatches : Type 0
LastValuesTellMatches =
    (p : Object) (earlier : List Selected) (i : Inputs) (s : Selected)
    → IsMerged p earlier → IsTopIfAny p (match_value p s) earlier → has_match p earlier i s ≡ finds_match p (left_by p earlier) i s

-- whether a record comes after the cut, by the greatest match value of the file that ends the job alone. If it has none: after the
-- primary file no secondary record is left; before the end of the secondary file stand the primary records up to the first with a value
abbrev pub is_cut_off : InputFile → Option (List ℕ) → Option (List ℕ) → Bool
is_cut_off Primary None v = true
is_cut_off Secondary None v = is_some v
is_cut_off f (Some w) v = exceeds v (Some w)

-- The law: once a file that ends the job alone has ended, the other file is cut before its first record whose match value is greater than
-- the ending file's greatest, which is its last one.
abbrev pub TheEndIsACut : Type 0
TheEndIsACut =
    (p : Object) (earlier : List Selected) (i : Inputs) (f : InputFile) (s : Selected) → AreMergedInOrder p earlier i → p.ends ≡ Some f → waiting_in i f ≡ None → waiting_in i (other_file f) ≡ Some s
    → chosen p (left_by p earlier) (waiting_in i Primary) (waiting_in i Secondary) ≡ (if is_cut_off f (last_value p f earlier) (match_value p s) then None else Some (other_file f))
