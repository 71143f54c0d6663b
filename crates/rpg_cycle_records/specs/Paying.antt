-- What is charged for record types besides trying their codes.
use Rattle.std.specs.Prelude.{◌≡◌, ◌≤◌, ℕ, ◌+◌, List, length, slice_get, Option, None, Some}
use Rattle.rpg_cycle_records.specs.Earlier.{file_of, row_match_fields}
use Rattle.rpg_cycle_records.specs.Identifying.{trial_weight}
use Rattle.rpg_program.specs.Input.{TypeRow}
use Rattle.rpg_program.specs.Weights.{types_weight}
use Rattle.rpg_program.specs.declared.input.InputFile.{InputFile}
use Rattle.rpg_program.specs.declared.input.InputFile.TheVariants.{Primary, Secondary}

-- the match fields of a row
abbrev pub match_field_count : List (TypeRow ℕ) → ℕ → ℕ
match_field_count ts k = length (row_match_fields (slice_get ts k))

-- the control fields and the input fields of a row
abbrev pub moved_of : Option (TypeRow ℕ) → ℕ
moved_of None = 0
moved_of (Some t) = length t.levels + length t.inputs

-- a record of a file is read: its types are tried on a text, and it is of that row
abbrev pub taken_weight : List (TypeRow ℕ) → InputFile → List ℕ → ℕ → ℕ
taken_weight ts f text k = trial_weight f ts text + match_field_count ts k

-- The law: a record read from each file, one of them selected and its fields filled, weigh no more than all types.
abbrev pub TypesArePaid : Type 0
TypesArePaid =
    (ts : List (TypeRow ℕ)) (x y : List ℕ) (j k n : ℕ) → file_of (slice_get ts j) ≡ Primary → file_of (slice_get ts k) ≡ Secondary
    → taken_weight ts Primary x j + taken_weight ts Secondary y k + moved_of (slice_get ts n) ≤ types_weight ts
