-- The records of earlier cycles, and what is left of them.
use Rattle.std.specs.Prelude.{ℕ, ◌-◌, Bool, true, false, ◌||◌, List, [], ◌∷◌, map, slice_get, slice_index_or, Option, None, Some, if◌then◌else◌}
use Rattle.std.specs.Option.{option_map_or}
use Rattle.rpg_cycle_records.specs.Levels.{level_bytes}
use Rattle.rpg_cycle_records.specs.Identifying.{same_file}
use Rattle.rpg_cycle_records.specs.Matching.{agrees, match_value_in}
use Rattle.rpg_program.specs.Input.{TypeRow}
use Rattle.rpg_program.specs.declared.input.ControlField.{ControlField}
use Rattle.rpg_program.specs.declared.input.InputFile.{InputFile}
use Rattle.rpg_program.specs.declared.input.InputFile.TheVariants.{Primary, Secondary}
use Rattle.rpg_program.specs.Object.{Object}

-- a record that was read: its type (the first row is 0), and its text, padded to the length of its file's records
pub record Selected : Type 0 where
  pub type : ℕ
  pub text : List ℕ

-- the control fields of a row
abbrev pub levels_of : Option (TypeRow ℕ) → List ControlField
levels_of None = []
levels_of (Some t) = t.levels

-- the control fields of a type
abbrev pub control_fields : Object → ℕ → List ControlField
control_fields p t = levels_of (slice_get p.types t)

-- the match fields of a row
abbrev pub row_match_fields : Option (TypeRow ℕ) → List ControlField
row_match_fields None = []
row_match_fields (Some t) = t.matches

-- the match fields of a type
abbrev pub match_fields : Object → ℕ → List ControlField
match_fields p t = row_match_fields (slice_get p.types t)

-- the file of a row
abbrev pub file_of : Option (TypeRow ℕ) → InputFile
file_of t = option_map_or (λ t. t.file) t Primary

-- the file that a record came from
abbrev pub file_at : Object → Selected → InputFile
file_at p s = file_of (slice_get p.types s.type)

-- the match value of a record, if it has one
abbrev pub match_value : Object → Selected → Option (List ℕ)
match_value p s = match_value_in (match_fields p s.type) s.text

-- the list isn't empty
abbrev pub is_any : {A : Type 0} → List A → Bool
is_any [] = false
is_any (x ∷ xs) = true

-- one of these records had control fields
abbrev pub any_control : Object → List Selected → Bool
any_control p [] = false
any_control p (s ∷ ss) = any_control p ss || is_any (control_fields p s.type)

-- the later of two, if there is one
abbrev pub or_before : Option (List ℕ) → Option (List ℕ) → Option (List ℕ)
or_before before None = before
or_before before (Some now) = Some now

-- the bytes of a level in the last of these records whose type has it; the records are given last first
abbrev pub last_bytes : Object → ℕ → List Selected → Option (List ℕ)
last_bytes p level [] = None
last_bytes p level (s ∷ ss) = or_before (last_bytes p level ss) (level_bytes (control_fields p s.type) s.text level)

-- the match value of a record, if it is of this file
abbrev pub value_from : Object → InputFile → Selected → Option (List ℕ)
value_from p f s = if same_file (file_at p s) f then match_value p s else None

-- the match value of the last of these records that is of this file and has one
abbrev pub last_value : Object → InputFile → List Selected → Option (List ℕ)
last_value p f [] = None
last_value p f (s ∷ ss) = or_before (last_value p f ss) (value_from p f s)

-- one of these records is of this file and has that match value
abbrev pub any_agrees : Object → InputFile → Option (List ℕ) → List Selected → Bool
any_agrees p f v [] = false
any_agrees p f v (s ∷ ss) = agrees v (value_from p f s) || any_agrees p f v ss

-- the nine levels
abbrev pub nine : List ℕ
nine = 1 ∷ 2 ∷ 3 ∷ 4 ∷ 5 ∷ 6 ∷ 7 ∷ 8 ∷ 9 ∷ []

-- what is left of earlier records: whether there were any, whether one had control fields, the last bytes of each level, L1 first, and the
-- last match value of each file
pub record Left : Type 0 where
  pub any : Bool
  pub control : Bool
  pub bytes : List (Option (List ℕ))
  pub primary : Option (List ℕ)
  pub secondary : Option (List ℕ)

-- what is left of these records, given last first
abbrev pub left_by : Object → List Selected → Left
left_by p earlier = record {
  any = is_any earlier;
  control = any_control p earlier;
  bytes = map (λ level. last_bytes p level earlier) nine;
  primary = last_value p Primary earlier;
  secondary = last_value p Secondary earlier;
}

-- the last bytes of a level
abbrev pub last_of_level : Left → ℕ → Option (List ℕ)
last_of_level l level = slice_index_or l.bytes (level - 1) None

-- the last match value of a file
abbrev pub last_of_file : Left → InputFile → Option (List ℕ)
last_of_file l Primary = l.primary
last_of_file l Secondary = l.secondary

-- the earlier records, the last first, preceded by the one that a cycle selected
abbrev pub with_record : Option Selected → List Selected → List Selected
with_record None earlier = earlier
with_record (Some s) earlier = s ∷ earlier
