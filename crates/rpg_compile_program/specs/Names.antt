-- The fields of the names that cards define.
use Rattle.std.specs.Prelude.{◌≡◌, ℕ, ◌++◌, ◌∷◌, [], List, map, take}
use Rattle.rpg_cards.specs.Names.{definitions}
use Rattle.rpg_cards.specs.declared.spec_card.SpecCard.{SpecCard}
use Rattle.rpg_compile_program.specs.Data.{Loaded, field_values}
use Rattle.rpg_compile_program.specs.Held.{held_values}
use Rattle.rpg_compile_program.specs.Table.{name_forms, with_definitions}
use Rattle.rpg_compile_program.specs.declared.names.FieldRows.{FieldRows}
use Rattle.rpg_program.specs.declared.form.FieldForm.{FieldForm}
use Rattle.rpg_symbols.specs.Fields.{NamedForms, given}

-- the names that every program has, and those of the first n definitions
abbrev pub names_up_to : List SpecCard → ℕ → NamedForms
names_up_to cards n = with_definitions given (take n (definitions cards))

-- the forms and the values of these names, in the order of their numbers
pub record AreFieldsOf (loaded : List Loaded) (names : NamedForms) (fields : FieldRows) : Type 0 where
  pub forms : fields.forms.items ≡ name_forms names
  pub values : held_values fields.values.items ≡ map (field_values loaded) names

-- the field of this name goes after the others
pub record AddsField (loaded : List Loaded) (name : List ℕ) (form : FieldForm) (old new : FieldRows) : Type 0 where
  pub forms : new.forms.items ≡ old.forms.items ++ form ∷ []
  pub values : held_values new.values.items ≡ held_values old.values.items ++ field_values loaded (name, form) ∷ []

-- the fields of the names up to a place become those up to a later one
abbrev pub AddsNames : List Loaded → List SpecCard → ℕ → ℕ → FieldRows → FieldRows → Type 0
AddsNames loaded cards i j old new = AreFieldsOf loaded (names_up_to cards i) old → AreFieldsOf loaded (names_up_to cards j) new
