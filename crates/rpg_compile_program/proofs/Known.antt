-- The names of a source without a fault: each definition has a form, and a name's key has the form of its first definition.
use Rattle.std.proofs.Common.{◌≡◌, ℕ, true, false, ◌||◌, List, Option, None, Some, refl, ap}
use Rattle.std.specs.Option.{option_and_then, option_map_or}
use Rattle.std.specs.Prelude.{◌==◌}
use Rattle.rpg_cards.specs.Keys.{Named}
use Rattle.rpg_cards.specs.Cards.{extension_on, input_field_in, input_on, output_field_on}
use Rattle.rpg_cards.specs.Files.{file_by}
use Rattle.rpg_cards.specs.Groups.{open_file, output_role}
use Rattle.rpg_cards.specs.Names.{form_in, form_of_name}
use Rattle.rpg_cards.specs.declared.spec_card.SpecCard.{SpecCard}
use Rattle.rpg_program.specs.Forms.{has_field}
use Rattle.rpg_faults_limits.specs.Limits.{bad_entries, bad_entries_of, passes_on_calculations, passes_on_lines, passes_on_types, passes_storage}
use Rattle.rpg_faults_operands.specs.Names.{is_undefined}
use Rattle.rpg_faults_places.specs.Places.{joins_badly, outside_line, outside_on_input, own_file}
use Rattle.rpg_sheet_specs.specs.declared.input.InputSpec.{InputSpec}
use Rattle.rpg_sheet_specs.specs.declared.input.InputSpec.TheVariants as input
use Rattle.rpg_compile_program.proofs.Definitions.{all_defined, is_turned}
use Rattle.rpg_compile_program.specs.Defined.{AreDefined}
use Rattle.rpg_compile_program.proofs.Lists.{Seen, or_first, or_second}
use Rattle.rpg_compile_program.proofs.NameForms.{name_form, name_there}
use Rattle.rpg_compile_program.specs.Rules.{KeepsCardRules}
use Rattle.rpg_compile_program.specs.Table.{key_form, table_of}

module _ (cards : List SpecCard) (rules : KeepsCardRules cards) where
  entries_kept : Seen cards (λ before c after. option_map_or bad_entries_of (extension_on c.spec) false ≡ false)
  entries_kept before c after split =
      or_second (passes_on_types before c || passes_on_lines before c || passes_on_calculations before c after || passes_storage cards before c) (bad_entries c) (rules.f6 before c after split)

  -- what F16 says of an I card
  pub input_kept : Seen cards (λ before c after. option_map_or (λ i. outside_on_input (file_by (own_file before i) cards) i || joins_badly before after i) (input_on c.spec) false ≡ false)
  input_kept before c after split =
      or_first (option_map_or (λ i. outside_on_input (file_by (own_file before i) cards) i || joins_badly before after i) (input_on c.spec) false)
      (option_map_or (outside_line cards (file_by (open_file output_role before) cards)) (output_field_on c.spec) false) (or_first _ _ (rules.f16 before c after split))

  not_turned : (o : Option InputSpec) (before after : List SpecCard) → option_map_or (λ i. outside_on_input (file_by (own_file before i) cards) i || joins_badly before after i) o false ≡ false
      → option_map_or is_turned (option_and_then input_field_in o) false ≡ false
  not_turned None before after e = refl
  not_turned (Some (input.Type t)) before after e = refl
  not_turned (Some (input.And codes)) before after e = refl
  not_turned (Some (input.Field f)) before after e =
      let outside = or_first _ (joins_badly before after (input.Field f)) e in
      or_first (is_turned f) _ (or_second (f.to == 0) _ (or_second (f.from == 0) _ outside))

  pub defined : AreDefined cards
  defined = all_defined cards rules.f3 entries_kept (λ before c after split. not_turned (input_on c.spec) before after (input_kept before c after split))

  pub name_known : (name : List ℕ) → key_form (table_of cards) (Named name) ≡ form_in (form_of_name name cards)
  name_known = name_form cards defined

  pub name_valid : (name : List ℕ) → is_undefined cards name ≡ false → has_field (form_in (form_of_name name cards)) ≡ true
  name_valid name named = ap (λ d. has_field (form_in d)) (name_there cards defined name named).1
