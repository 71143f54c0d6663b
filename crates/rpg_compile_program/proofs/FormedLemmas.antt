-- Names that have a form, with one more definition.
use Rattle.std.proofs.Common.{◌≡◌, Bool, true, cond, List, [], ◌∷◌, ◌++◌, Option, None, Some, ap, ◌∙◌}
use Rattle.std.specs.List.{list_all}
use Rattle.std.specs.Prelude.{is_some, ◌&&◌}
use Rattle.rpg_card_index.specs.Index.{has_some_form}
use Rattle.rpg_cards.specs.Plain.{Each}
use Rattle.rpg_cards.specs.declared.names.Definition.{Definition}
use Rattle.rpg_compile_program.specs.Defined.{DefinesForm, IsForm}
use Rattle.rpg_compile_program.specs.Table.{with_definition, with_form}
use Rattle.rpg_program.specs.declared.form.FieldForm.{FieldForm}
use Rattle.rpg_symbols.specs.Fields.{NamedForms, defined_form}

-- each definition has a form, by a test of all
pub all_formed : (ds : List Definition) → list_all has_some_form ds ≡ true → Each DefinesForm ds
all_formed [] e = tt
all_formed (d ∷ ds) e = by_form d.form e (all_formed ds)
  where
    by_form : (o : Option FieldForm) → (is_some o && list_all has_some_form ds) ≡ true → (list_all has_some_form ds ≡ true → Each DefinesForm ds) → IsForm o × Each DefinesForm ds
    by_form None e more = absurd cc
    by_form (Some form) e more = (tt, more e)

-- a definition with a form adds its name, unless that is known
pub form_adds : (fields : NamedForms) (d : Definition) (form : FieldForm) (known : Bool) → d.form ≡ Some form → is_some (defined_form fields d.name) ≡ known → with_definition fields d ≡ cond known fields (fields ++ (d.name, form) ∷ [])
form_adds fields d form known e is = ap (with_form fields d.name) e ∙ ap (λ b. cond b fields (fields ++ (d.name, form) ∷ [])) is
