-- Where every definition has a form, the fields of the names are the names with their first definitions.
use Rattle.std.proofs.Common.{◌≡◌, ℕ, ◌+◌, Bool, true, false, cond, map, List, [], ◌∷◌, ◌++◌, Option, None, Some, refl, sym, ap, ◌∙◌}
use Rattle.std.proofs.lemmas.List.{map-append}
use Rattle.std.specs.Prelude.{is_some}
use Rattle.rpg_cards.proofs.FieldLemmas.{known_fields}
use Rattle.rpg_cards.specs.Insertions.{insert_all, insert_key}
use Rattle.rpg_cards.specs.Names.{defined_field, definitions, names, same_name}
use Rattle.rpg_cards.specs.Plain.{Each}
use Rattle.rpg_cards.specs.declared.names.Definition.{Definition}
use Rattle.rpg_cards.specs.declared.spec_card.SpecCard.{SpecCard}
use Rattle.rpg_program.specs.declared.form.FieldForm.{FieldForm}
use Rattle.rpg_symbols.specs.Fields.{NamedForms, defined_form, given}
use Rattle.rpg_compile_program.specs.Defined.{AreDefined, DefinesForm, IsForm}
use Rattle.rpg_compile_program.specs.Table.{defined_fields, with_definition, with_definitions, with_form}

abbrev with_its_form : List ℕ → Option FieldForm → Definition
with_its_form name o = record { name = name; form = o }

one_name : (fs : NamedForms) (d : Definition) → DefinesForm d → insert_key same_name (map defined_field fs) d ≡ map defined_field (with_definition fs d)
one_name fs d valid = by_form d.form refl valid
  where
    by_cases : (b : Bool) (form : FieldForm) → cond b (map defined_field fs) (map defined_field fs ++ defined_field (d.name, form) ∷ []) ≡ map defined_field (cond b fs (fs ++ (d.name, form) ∷ []))
    by_cases true form = refl
    by_cases false form = sym (map-append defined_field fs ((d.name, form) ∷ []))

    by_form : (o : Option FieldForm) → d.form ≡ o → IsForm o → insert_key same_name (map defined_field fs) d ≡ map defined_field (with_form fs d.name o)
    by_form None e valid = absurd valid
    by_form (Some form) e valid =
        ap (λ b. cond b (map defined_field fs) (map defined_field fs ++ d ∷ [])) (known_fields fs d.name)
        ∙ ap (λ (o : Option FieldForm). cond (is_some (defined_form fs d.name)) (map defined_field fs) (map defined_field fs ++ with_its_form d.name o ∷ [])) e ∙ by_cases (is_some (defined_form fs d.name)) form

pub names_with : (fs : NamedForms) (ds : List Definition) → Each DefinesForm ds → insert_all same_name (map defined_field fs) ds ≡ map defined_field (with_definitions fs ds)
names_with fs [] valid = refl
names_with fs (d ∷ ds) valid = ap (λ (known : List Definition). insert_all same_name known ds) (one_name fs d valid.0) ∙ names_with (with_definition fs d) ds valid.1

-- the fields of the names of cards are these names
pub names_are : (cards : List SpecCard) → AreDefined cards → names cards ≡ map defined_field (defined_fields cards)
names_are cards valid = names_with given (definitions cards) valid
