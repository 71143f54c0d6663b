-- Each definition of a source without a fault has a form.
use Rattle.std.proofs.Common.{◌≡◌, ℕ, ◌+◌, ◌-◌, Bool, true, false, cond, ◌||◌, List, [], ◌∷◌, ◌++◌, map, Option, None, Some}
use Rattle.std.proofs.lemmas.Bool.{le-leb, ltb-false, not-false}
use Rattle.std.specs.List.{flat_map, list_any}
use Rattle.std.specs.Option.{option_and_then, option_map, option_map_or, option_to_list}
use Rattle.std.specs.Prelude.{◌&&◌, is_none, nat_le, nat_lt}
use Rattle.rpg_compile_program.proofs.Lists.{Seen, each_card, or_first, or_second}
use Rattle.rpg_cards.specs.Plain.{Each}
use Rattle.rpg_cards.specs.Cards.{calculation_on, extension_on, input_field_on}
use Rattle.rpg_cards.specs.Names.{definition_by, definition_in, definition_of, definitions, definitions_on, form_with, sized, sized_form, table_class, tables_on}
use Rattle.rpg_cards.specs.declared.spec_card.SpecCard.{SpecCard}
use Rattle.rpg_compile_program.proofs.Each.{each_append}
use Rattle.rpg_program.specs.declared.form.Class.TheVariants as class
use Rattle.rpg_program.specs.declared.form.FieldForm.{FieldForm}
use Rattle.rpg_program.specs.declared.form.Kind.{Kind}
use Rattle.rpg_program.specs.declared.form.Kind.TheVariants as kind
use Rattle.rpg_faults_limits.specs.Limits.{bad_entries_of}
use Rattle.rpg_faults_limits.specs.Names.{bad_size, bad_size_by, bad_size_of_field, bad_size_of_result, bad_size_of_table, bad_size_of_tables}
use Rattle.rpg_sheet_specs.specs.declared.calculation.CalculationSpec.{CalculationSpec}
use Rattle.rpg_sheet_specs.specs.declared.entry.Entry.{Entry}
use Rattle.rpg_sheet_specs.specs.declared.extension.ExtensionSpec.{ExtensionSpec}
use Rattle.rpg_sheet_specs.specs.declared.extension.TableSpec.{TableSpec}
use Rattle.rpg_sheet_specs.specs.declared.input.InputFieldSpec.{InputFieldSpec}
use Rattle.rpg_text.specs.Texts.{is_between}
use Rattle.rpg_compile_program.specs.Defined.{AreDefined, DefinesForm, IsForm}

-- what has a size as a field has one in any class
sized_there : (made : Kind → ℕ → ℕ → FieldForm) (len : ℕ) (decimals : Option ℕ) → is_none (sized_form len decimals) ≡ false → IsForm (sized made len decimals)
sized_there made len None e = by (is_between 1 256 len) e
  where
    by : (b : Bool) → is_none (cond b (Some (form_with class.Plain false 1 kind.Text len 0)) None) ≡ false → IsForm (cond b (Some (made kind.Text len 0)) None)
    by true e = tt
    by false e = cc
sized_there made len (Some decimals) e = by (is_between 1 15 len && nat_le decimals 9 && nat_le decimals len) e
  where
    by : (b : Bool) → is_none (cond b (Some (form_with class.Plain false 1 kind.Number len decimals)) None) ≡ false → IsForm (cond b (Some (made kind.Number len decimals)) None)
    by true e = tt
    by false e = cc

when : (b : Bool) (o : Option FieldForm) → b ≡ true → IsForm o → IsForm (cond b o None)
when true o e h = h
when false o e h = cc

tables_there : (e : ExtensionSpec) (ts : List TableSpec) → bad_entries_of e ≡ false → list_any bad_size_of_table ts ≡ false → Each DefinesForm (map (definition_in e) ts)
tables_there e [] few size = tt
tables_there e (t ∷ ts) few size = (
  when (is_between 1 9999 e.entries) _ (not-false _ few) (sized_there (form_with (table_class t.name) t.ascending e.entries) t.length t.decimals (or_first (bad_size_of_table t) _ size)),
  tables_there e ts few (or_second (bad_size_of_table t) _ size),
)

extension_there : (o : Option ExtensionSpec) → option_map_or bad_entries_of o false ≡ false → option_map_or bad_size_of_tables o false ≡ false
    → Each DefinesForm (flat_map (λ e. map (definition_in e) (tables_on e)) (option_to_list o))
extension_there None few size = tt
extension_there (Some e) few size = each_append DefinesForm (map (definition_in e) (tables_on e)) [] (tables_there e (tables_on e) few size) tt

-- columns that aren't turned around
abbrev pub is_turned : InputFieldSpec → Bool
is_turned f = nat_lt f.to f.from

field_there : (o : Option InputFieldSpec) → option_map_or bad_size_of_field o false ≡ false → option_map_or is_turned o false ≡ false → Each DefinesForm (option_to_list (option_map definition_of o))
field_there None size straight = tt
field_there (Some f) size straight =
    let order : nat_le f.from f.to ≡ true = le-leb f.from f.to (ltb-false f.to f.from straight) in
    (when (nat_le f.from f.to) _ order (sized_there (form_with class.Plain false 1) (f.to + 1 - f.from) f.decimals (by (nat_le f.from f.to) order size)), tt)
  where
    by : (b : Bool) → b ≡ true → (b && is_none (cond b (sized_form (f.to + 1 - f.from) f.decimals) None)) ≡ false → is_none (sized_form (f.to + 1 - f.from) f.decimals) ≡ false
    by true e h = h
    by false e h = cc

result_there : (o : Option CalculationSpec) → option_map_or bad_size_of_result o false ≡ false → Each DefinesForm (option_to_list (option_and_then definition_by o))
result_there None size = tt
result_there (Some k) size = by k.length k.result_field size
  where
    by : (n : Option ℕ) (r : Option Entry) → bad_size_by n k.decimals ≡ false → Each DefinesForm (option_to_list (option_and_then (λ len. option_map (λ (e : Entry). record { name = e.name; form = sized_form len k.decimals }) r) n))
    by None r size = tt
    by (Some len) None size = tt
    by (Some len) (Some e) size = (sized_there (form_with class.Plain false 1) len k.decimals size, tt)

each_on_cards : (cards : List SpecCard) → Each (λ (c : SpecCard). Each DefinesForm (definitions_on c.spec)) cards → AreDefined cards
each_on_cards [] h = tt
each_on_cards (c ∷ cs) h = each_append DefinesForm (definitions_on c.spec) (definitions cs) h.0 (each_on_cards cs h.1)

module _ (cards : List SpecCard)
    (sizes : Seen cards (λ before c after. bad_size c ≡ false))
    (entries : Seen cards (λ before c after. option_map_or bad_entries_of (extension_on c.spec) false ≡ false))
    (straight : Seen cards (λ before c after. option_map_or is_turned (input_field_on c.spec) false ≡ false)) where
  on_one : Seen cards (λ before c after. Each DefinesForm (definitions_on c.spec))
  on_one before c after split =
      let size = sizes before c after split in
      let parts = or_first (option_map_or bad_size_of_tables (extension_on c.spec) false || option_map_or bad_size_of_field (input_field_on c.spec) false) (option_map_or bad_size_of_result (calculation_on c.spec) false) size in
      let tables = flat_map (λ e. map (definition_in e) (tables_on e)) (option_to_list (extension_on c.spec)) in
      let fields = option_to_list (option_map definition_of (input_field_on c.spec)) in
      each_append DefinesForm (tables ++ fields) (option_to_list (option_and_then definition_by (calculation_on c.spec)))
      (each_append DefinesForm tables fields
      (extension_there (extension_on c.spec) (entries before c after split) (or_first (option_map_or bad_size_of_tables (extension_on c.spec) false) (option_map_or bad_size_of_field (input_field_on c.spec) false) parts))
      (field_there (input_field_on c.spec) (or_second (option_map_or bad_size_of_tables (extension_on c.spec) false) (option_map_or bad_size_of_field (input_field_on c.spec) false) parts) (straight before c after split)))
      (result_there (calculation_on c.spec) (or_second (option_map_or bad_size_of_tables (extension_on c.spec) false || option_map_or bad_size_of_field (input_field_on c.spec) false) (option_map_or bad_size_of_result (calculation_on c.spec) false) size))

  pub all_defined : AreDefined cards
  all_defined = each_on_cards cards (each_card cards (λ c. Each DefinesForm (definitions_on c.spec)) on_one)
