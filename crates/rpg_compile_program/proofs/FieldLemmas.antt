-- The fields of some names, with one more.
use Rattle.std.proofs.Common.{◌≡◌, ℕ, ◌++◌, ◌∷◌, [], ◌∙◌, List, ap, map, sym}
use Rattle.std.proofs.lemmas.List.{map-append}
use Rattle.rpg_compile_program.specs.Data.{Loaded, field_values}
use Rattle.rpg_compile_program.specs.Names.{AddsField, AreFieldsOf}
use Rattle.rpg_compile_program.specs.Table.{name_forms}
use Rattle.rpg_compile_program.specs.declared.names.FieldRows.{FieldRows}
use Rattle.rpg_program.specs.Values.{Value}
use Rattle.rpg_program.specs.declared.form.FieldForm.{FieldForm}
use Rattle.rpg_symbols.specs.Fields.{NamedForms}

pub with_field : (loaded : List Loaded) (names longer : NamedForms) (name : List ℕ) (form : FieldForm) (old new : FieldRows) → AddsField loaded name form old new → longer ≡ names ++ (name, form) ∷ [] → AreFieldsOf loaded names old → AreFieldsOf loaded longer new
with_field loaded names longer name form old new adds is was = record {
  forms = adds.forms ∙ ap (λ (l : List FieldForm). l ++ form ∷ []) was.forms ∙ sym (map-append (λ (f : List ℕ × FieldForm). f.1) names ((name, form) ∷ [])) ∙ ap name_forms (sym is);
  values = adds.values ∙ ap (λ (l : List (List Value)). l ++ field_values loaded (name, form) ∷ []) was.values ∙ sym (map-append (field_values loaded) names ((name, form) ∷ [])) ∙ ap (map (field_values loaded)) (sym is);
}
