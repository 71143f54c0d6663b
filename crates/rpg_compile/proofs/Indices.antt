-- The indices of the output fields of a source without a fault: none, 1 to 9,999, or the number of a field.
use Rattle.std.proofs.Common.{◌≡◌, ℕ, ◌≤◌, true, false, not, List, Option, None, Some, refl, ap, ◌∙◌, subst, arith}
use Rattle.std.proofs.lemmas.Bool.{and_parts, leb-true, not-false}
use Rattle.std.specs.Option.{option_and_then, option_map, option_map_or, option_to_list}
use Rattle.std.specs.Prelude.{unwrap_or}
use Rattle.rpg_cards.specs.Keys.{Key, entry_operand, key_index}
use Rattle.rpg_cards.specs.Plain.{Each}
use Rattle.rpg_sheet_specs.specs.declared.operations.Content.TheVariants.{Value}
use Rattle.rpg_cards.specs.Cards.{output_field_in, output_field_on}
use Rattle.rpg_cards.specs.Groups.{Follower, output_role}
use Rattle.rpg_cards.specs.declared.spec_card.SpecCard.{SpecCard}
use Rattle.rpg_program.specs.Forms.{has_field, is_array}
use Rattle.rpg_program.specs.declared.form.FieldForm.{FieldForm}
use Rattle.rpg_program.specs.declared.operation.Index.TheVariants as index
use Rattle.rpg_compile_layouts.specs.Rows.{field_row}
use Rattle.rpg_compile_layouts.specs.Within.{HasIndexRow}
use Rattle.rpg_faults_operands.specs.Indexes.{bad_index_field, bad_index_of, index_form, misindexed}
use Rattle.rpg_faults_operands.specs.Names.{index_name, is_undefined, names_nothing}
use Rattle.rpg_faults_operands.specs.Operands.{card_entry_form, operand_with, operands_ending, operands_listed, output_operand, output_operand_on}
use Rattle.rpg_program.specs.Kept.{IsIndexRow}
use Rattle.rpg_compile.proofs.Fields.{named_kept}
use Rattle.rpg_compile.proofs.Totals.{names_within, number_within}
use Rattle.rpg_program.specs.Naming.{renamed_index}
use Rattle.rpg_sheet_specs.specs.declared.entry.Entry.{Entry}
use Rattle.rpg_sheet_specs.specs.declared.entry.EntryIndex.{EntryIndex}
use Rattle.rpg_sheet_specs.specs.declared.entry.EntryIndex.TheVariants as written
use Rattle.rpg_sheet_specs.specs.declared.output.OutputField.{OutputField}
use Rattle.rpg_sheet_specs.specs.declared.output.OutputSpec.{OutputSpec}
use Rattle.rpg_sheet_specs.specs.declared.output.OutputSpec.TheVariants as output
use Rattle.rpg_sheet_specs.specs.declared.spec.Spec.{Spec}
use Rattle.rpg_sheet_specs.specs.declared.spec.Spec.TheVariants as spec
use Rattle.rpg_text.specs.Texts.{is_between}
use Rattle.rpg_compile_program.proofs.Known.{name_valid, name_known}
use Rattle.rpg_compile_program.proofs.Lists.{Seen, each_card, none_in_option, none_second, or_first, or_second}
use Rattle.rpg_compile_program.proofs.OpenGroups.{HasValid}
use Rattle.rpg_compile_program.specs.Lines.{text_key}
use Rattle.rpg_compile_program.specs.Rules.{KeepsCardRules}
use Rattle.rpg_compile_program.specs.Table.{key_number, table_of}

-- ---- cards of lines

abbrev pub HasValidIndex : List SpecCard → OutputSpec → Type 0
HasValidIndex cards (output.Record r) = Unit {0}
HasValidIndex cards (output.And t) = Unit {0}
HasValidIndex cards (output.Or t) = Unit {0}
HasValidIndex cards (output.Field f) = HasIndexRow (field_row (table_of cards) f)

field_on : (s : Spec) (o : OutputSpec) → output_role s ≡ Follower o → output_field_on s ≡ output_field_in o
field_on (spec.Header x) o e = absurd cc
field_on (spec.File x) o e = absurd cc
field_on (spec.Extension x) o e = absurd cc
field_on (spec.Form x) o e = absurd cc
field_on (spec.Input x) o e = absurd cc
field_on (spec.Calculation x) o e = absurd cc
field_on (spec.Data x) o e = absurd cc
field_on (spec.Output (output.Record r)) o e = absurd cc
field_on (spec.Output (output.And t)) o e = let same : output.And t ≡ o = cc in ap output_field_in same
field_on (spec.Output (output.Or t)) o e = let same : output.Or t ≡ o = cc in ap output_field_in same
field_on (spec.Output (output.Field f)) o e = let same : output.Field f ≡ o = cc in ap output_field_in same

-- a field that is there has a form
some_form : (o : Option FieldForm) → has_field o ≡ true → (d : FieldForm) × (o ≡ Some d)
some_form None h = absurd cc
some_form (Some d) h = (d, refl)

module _ (cards : List SpecCard) (rules : KeepsCardRules cards) where
  abbrev number : Key → ℕ
  number = key_number (table_of cards)

  index_kept : (i : Option EntryIndex) (field : Option FieldForm) (d : FieldForm) → d.entries ≤ 9999 → misindexed Value i field d ≡ false → IsIndexRow (renamed_index number (key_index i))
  index_kept None field d most fit = tt
  index_kept (Some (written.Name x)) field d most fit =
      let few = number_within cards x in
      let all = names_within cards rules in
      omega arith
  index_kept (Some (written.Literal n)) field d most fit =
      let inside = and_parts _ _ (not-false (is_between 1 d.entries n) (or_second (not (is_array d.class)) _ fit)) in
      let low = leb-true 1 n inside.0 in
      let high = leb-true n d.entries inside.1 in
      (low, omega arith)

  entry_kept : (e : Entry) → bad_index_of cards (operand_with Value e) ≡ false → names_nothing cards (operand_with Value e) ≡ false → IsIndexRow (renamed_index number (key_index e.index))
  entry_kept e fit there =
      let named = or_first (is_undefined cards e.name) (option_map_or (is_undefined cards) (index_name e) false) there in
      let form = some_form (card_entry_form cards e) (name_valid cards rules e.name named) in
      let row = named_kept cards e.name form.0 (name_known cards rules e.name ∙ form.1) in
      let mismatch = or_first (option_map_or (misindexed Value e.index (index_form cards e)) (card_entry_form cards e) false) (bad_index_field (index_form cards e)) fit in
      index_kept e.index (index_form cards e) form.0 row.most (subst (λ (o : Option FieldForm). option_map_or (misindexed Value e.index (index_form cards e)) o false ≡ false) form.1 mismatch)

  operand_kept : (o : Option Entry) (k : Key) → option_map_or (bad_index_of cards) (option_map (operand_with Value) o) false ≡ false → option_map_or (names_nothing cards) (option_map (operand_with Value) o) false ≡ false
      → IsIndexRow (renamed_index number (unwrap_or (option_map entry_operand o) (record { field = k; index = index.Blank })).index)
  operand_kept None k fit there = tt
  operand_kept (Some e) k fit there = entry_kept e fit there

  -- what F5 and F1 say of an output field
  by_card : (o : OutputSpec) (p : Option OutputField) → p ≡ output_field_in o → option_map_or (bad_index_of cards) (option_and_then output_operand p) false ≡ false
      → option_map_or (names_nothing cards) (option_and_then output_operand p) false ≡ false → HasValidIndex cards o
  by_card (output.Record r) p is fit there = tt
  by_card (output.And t) p is fit there = tt
  by_card (output.Or t) p is fit there = tt
  by_card (output.Field f) p is fit there =
      operand_kept f.operand (text_key f.text) (subst (λ (q : Option OutputField). option_map_or (bad_index_of cards) (option_and_then output_operand q) false ≡ false) is fit)
      (subst (λ (q : Option OutputField). option_map_or (names_nothing cards) (option_and_then output_operand q) false ≡ false) is there)

  seen : Seen cards (λ before c after. HasValid output_role (HasValidIndex cards) c)
  seen before c after split o is =
      let others = operands_listed (operands_ending c after) in
      let own = option_to_list (output_operand_on c) in
      by_card o (output_field_on c.spec) (field_on c.spec o is)
      (none_in_option (bad_index_of cards) (output_operand_on c) (none_second (bad_index_of cards) others own (rules.f5 before c after split)))
      (none_in_option (names_nothing cards) (output_operand_on c) (none_second (names_nothing cards) others own (rules.f1 before c after split)))

  pub valid_on_cards : Each (HasValid output_role (HasValidIndex cards)) cards
  valid_on_cards = each_card cards (HasValid output_role (HasValidIndex cards)) seen
