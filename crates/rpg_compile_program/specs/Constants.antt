-- The fields of constants, each where it comes first.
use Rattle.std.specs.Prelude.{◌≡◌, ℕ, ◌++◌, ◌∷◌, [], List, All, map, take}
use Rattle.rpg_cards.specs.Constants.{constant_form, is_same, IsConstant}
use Rattle.rpg_cards.specs.Insertions.{insert_all}
use Rattle.rpg_cards.specs.declared.constants.Constant.{Constant}
use Rattle.rpg_compile_program.specs.Data.{constant_values}
use Rattle.rpg_compile_program.specs.Held.{held_values}
use Rattle.rpg_compile_program.specs.declared.names.FieldRows.{FieldRows}

-- the different ones among the first n constants
abbrev pub different : List Constant → ℕ → List Constant
different all n = insert_all is_same [] (take n all)

-- the fields of these constants go after the others, and each constant keeps the limits
pub record AddsConstants (constants : List Constant) (old new : FieldRows) : Type 0 where
  pub forms : new.forms.items ≡ old.forms.items ++ map constant_form constants
  pub values : held_values new.values.items ≡ held_values old.values.items ++ map constant_values constants
  pub kept : All IsConstant constants

-- the field of one more constant goes after the others
abbrev pub AddsConstant : Constant → FieldRows → FieldRows → Type 0
AddsConstant constant old new = AddsConstants (constant ∷ []) old new

-- the different ones up to a place become those up to a later one
abbrev pub AddsDifferent : List Constant → ℕ → ℕ → FieldRows → FieldRows → Type 0
AddsDifferent all i j old new = (first : FieldRows) → AddsConstants (different all i) first old → AddsConstants (different all j) first new
