-- What the cycle requires of record types: their columns are those of their file's records, and there are few.
use Rattle.std.specs.Prelude.{◌≡◌, ℕ, ◌≤◌, All, List, length, slice_get, true}
use Rattle.std.specs.Option.{ForSome}
use Rattle.rpg_cycle_records.specs.Earlier.{file_of}
use Rattle.rpg_cycle_records.specs.Identifying.{same_file}
use Rattle.rpg_program.specs.Input.{TypeRow}
use Rattle.rpg_program.specs.declared.input.ControlField.{ControlField}
use Rattle.rpg_program.specs.declared.input.InputFile.{InputFile}
use Rattle.rpg_program.specs.declared.input.RecordCode.{RecordCode}
use Rattle.rpg_program.specs.Kept.{IsIndicator}
use Rattle.rpg_program.specs.Object.{Object, input_length}

-- the position of a code is within a record of that length
pub record IsCodeIn (len : ℕ) (c : RecordCode) : Type 0 where
  pub low : 1 ≤ c.position
  pub high : c.position ≤ len

-- so are the columns of a control field or a match field
pub record IsControlIn (len : ℕ) (f : ControlField) : Type 0 where
  pub low : 1 ≤ f.from
  pub order : f.from ≤ f.to
  pub high : f.to ≤ len

-- a record type that fits records of that length
pub record IsTypeIn (len : ℕ) (t : TypeRow ℕ) : Type 0 where
  pub indicator : ForSome t.indicator IsIndicator
  pub codes : All (IsCodeIn len) t.codes
  pub few_codes : length t.codes ≤ 100
  pub levels : All (IsControlIn len) t.levels
  pub few_levels : length t.levels ≤ 100
  pub matches : All (IsControlIn len) t.matches
  pub few_matches : length t.matches ≤ 9

-- a type of that file fits records of that length
abbrev pub IsTypeOf : InputFile → ℕ → TypeRow ℕ → Type 0
IsTypeOf f len t = same_file t.file f ≡ true → IsTypeIn len t

-- a type fits the records of its file
abbrev pub IsTypeFit : Object → TypeRow ℕ → Type 0
IsTypeFit p t = IsTypeIn (input_length p t.file) t

-- a text has the length of the records in the file of that type
abbrev pub IsFilledAs : Object → ℕ → List ℕ → Type 0
IsFilledAs p t text = length text ≡ input_length p (file_of (slice_get p.types t))
