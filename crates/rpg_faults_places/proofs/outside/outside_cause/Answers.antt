use Rattle.std.proofs.Common.{◌≡◌, ℕ, ◌∙◌, Bool, true, false, ◌||◌, List, Option, Some, ap, refl, sym}
use Rattle.std.specs.Option.{option_map, option_map_or, option_or}
use Rattle.std.specs.Prelude.{option_copied}
use Rattle.rpg_cards.specs.Cards.{input_on, output_field_on, output_record_on}
use Rattle.rpg_cards.specs.Files.{file_by}
use Rattle.rpg_cards.specs.Groups.{open_file, output_role}
use Rattle.rpg_cards.specs.declared.spec_card.SpecCard.{SpecCard}
use Rattle.rpg_faults_limits.proofs.FileLemmas.{length_found}
use Rattle.rpg_faults_limits.specs.declared.files.FileOnCard.{FileOnCard}
use Rattle.rpg_faults_places.specs.CardFiles.{file_name}
use Rattle.rpg_faults_places.specs.Outside.{is_outside}
use Rattle.rpg_faults_places.specs.Places.{outside_line, outside_on_input, outside_page, own_file}
use Rattle.rpg_sheet_specs.specs.declared.file.FileSpec.{FileSpec}
use Rattle.rpg_sheet_specs.specs.declared.input.InputSpec.{InputSpec}
use Rattle.rpg_sheet_specs.specs.declared.output.OutputField.{OutputField}
use Rattle.rpg_sheet_specs.specs.declared.output.OutputRecord.{OutputRecord}
use Rattle.rpg_sheet_specs.specs.declared.output.OutputSpec.TheVariants as output
use Rattle.rpg_sheet_specs.specs.declared.spec.Spec.{Spec}
use Rattle.rpg_sheet_specs.specs.declared.spec.Spec.TheVariants as spec
use Rattle.rpg_faults_places.proofs.outside.outside_cause.Goals as goal

or_false : (b : Bool) → (b || false) ≡ b
or_false true = refl
or_false false = refl

abbrev input_outside : List SpecCard → List SpecCard → Spec → Bool
input_outside cards before s = option_map_or (λ i. outside_on_input (file_by (own_file before i) cards) i) (input_on s) false

abbrev field_outside : List SpecCard → List SpecCard → Spec → Bool
field_outside cards before s = option_map_or (outside_line cards (file_by (open_file output_role before) cards)) (output_field_on s) false

abbrev record_outside : List SpecCard → List SpecCard → Spec → Bool
record_outside cards before s = option_map_or (λ (r : OutputRecord). outside_page cards (file_by (option_or r.file (open_file output_role before)) cards) r.movement) (output_record_on s) false

of_input : (cards before : List SpecCard) (c : SpecCard) (i : InputSpec) → input_on c.spec ≡ Some i → is_outside cards before c ≡ outside_on_input (file_by (own_file before i) cards) i
of_input cards before c i e = by c.spec e
  where
    test : Option InputSpec → Bool
    test o = option_map_or (λ k. outside_on_input (file_by (own_file before k) cards) k) o false

    by : (s : Spec) → input_on s ≡ Some i
        → ((test (input_on s) || field_outside cards before s) || record_outside cards before s) ≡ test (Some i)
    by (spec.Input j) e = or_false (test (Some j) || false) ∙ or_false (test (Some j)) ∙ ap test e
    by _ e = absurd cc

of_field : (cards before : List SpecCard) (c : SpecCard) (f : OutputField) → output_field_on c.spec ≡ Some f → is_outside cards before c ≡ outside_line cards (file_by (open_file output_role before) cards) f
of_field cards before c f e = by c.spec e
  where
    by : (s : Spec) → output_field_on s ≡ Some f
        → ((input_outside cards before s || field_outside cards before s) || record_outside cards before s) ≡ outside_line cards (file_by (open_file output_role before) cards) f
    by (spec.Output (output.Field g)) e = or_false (field_outside cards before (spec.Output (output.Field g))) ∙ ap (λ o. option_map_or (outside_line cards (file_by (open_file output_role before) cards)) o false) e
    by _ e = absurd cc

of_record : (cards before : List SpecCard) (c : SpecCard) (r : OutputRecord) → output_record_on c.spec ≡ Some r
    → is_outside cards before c ≡ outside_page cards (file_by (option_or r.file (open_file output_role before)) cards) r.movement
of_record cards before c r e = by c.spec e
  where
    by : (s : Spec) → output_record_on s ≡ Some r
        → ((input_outside cards before s || field_outside cards before s) || record_outside cards before s) ≡ outside_page cards (file_by (option_or r.file (open_file output_role before)) cards) r.movement
    by (spec.Output (output.Record q)) e = ap (λ o. option_map_or (λ (k : OutputRecord). outside_page cards (file_by (option_or k.file (open_file output_role before)) cards) k.movement) o false) e
    by _ e = absurd cc

-- the record length of an I card's file, or of a line's
abbrev length_by : List SpecCard → List SpecCard → Option InputSpec → Option ℕ
length_by cards before i = option_map (λ (f : FileSpec). f.record_length) (file_by (option_map_or (own_file before) i (open_file output_role before)) cards)

pub returns-in-Some-clause-rule : goal.returns-in-Some-clause-rule
returns-in-Some-clause-rule c =
    let cards = c.args.source.now in
    let before = c.args.before.now in
    let card = c.args.card.now in
    let i = c.in-Some.input.now in
    let on = sym c.input.ensures ∙ ap option_copied c.in-Some.is in
    let same = ap (option_map (λ (f : FileOnCard). f.record_length)) (c.of.ensures before c.requires)
    ∙ length_found (file_name before card) cards
    ∙ ap (length_by cards before) on in
    c.of_input.ensures.rule (file_by (own_file before i) cards) same ∙ sym (of_input cards before card i on)

pub returns-in-Some-output_field-clause-rule : goal.returns-in-Some-output_field-clause-rule
returns-in-Some-output_field-clause-rule c =
    let cards = c.args.source.now in
    let before = c.args.before.now in
    let card = c.args.card.now in
    let f = c.in-Some-output_field.field.now in
    let off = sym c.input.ensures ∙ ap option_copied c.in_default.is in
    let on = sym c.output_field.ensures ∙ ap option_copied c.in-Some-output_field.is in
    let same = ap (option_map (λ (f : FileOnCard). f.record_length)) (c.of-in-Some-output_field.ensures before c.requires)
    ∙ length_found (file_name before card) cards
    ∙ ap (length_by cards before) off in
    c.of_output.ensures.rule (file_by (open_file output_role before) cards) same ∙ sym (of_field cards before card f on)

pub returns-clause-rule : goal.returns-clause-rule
returns-clause-rule c =
    let on = sym c.line.ensures ∙ ap option_copied c.in_ok-line.was in
    c.of_line.ensures.rule ∙ sym (of_record c.args.source.now c.args.before.now c.args.card.now c.in_ok-line.field-0.now on)
