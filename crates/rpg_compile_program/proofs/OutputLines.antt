-- The lines of faultless cards break no rule.
use Rattle.std.proofs.Common.{◌≡◌, ℕ, zero, suc, ◌≤◌, Bool, true, false, not, cond, List, [], ◌∷◌, ◌++◌, map, Option, None, Some, refl, sym, ap, ◌∙◌, subst, arith, slice_get}
use Rattle.std.proofs.lemmas.Bool.{and_from, and_parts, le-leb, ltb-false, ne_eqb, not_from_true, or_parts, or_right}
use Rattle.std.proofs.lemmas.List.Folds.{list_any-append}
use Rattle.std.specs.List.{list_all, list_any}
use Rattle.std.specs.Option.{ForSome, option_and_then, option_map, option_map_or, option_or, option_to_list}
use Rattle.std.specs.Prelude.{◌==◌, ◌&&◌, is_none, is_some, nat_le, nat_lt, unwrap_or}
use Rattle.rpg_cards.specs.Calculations.{condition_of, in_places, standing}
use Rattle.rpg_cards.specs.Keys.{Fixed, Key}
use Rattle.rpg_cards.specs.Plain.{Each}
use Rattle.rpg_cards.specs.Cards.{calculation_on, file_on, output_field_in, output_field_on, output_on, output_record_in, output_record_on}
use Rattle.rpg_cards.specs.Constants.{constant_form, constants, constants_on, factor_constant, is_same, text_constant}
use Rattle.rpg_cards.specs.Files.{file_by, file_for, file_use, is_output, page_of, same_use}
use Rattle.rpg_cards.specs.Groups.{Follower, Group, Heading, groups, open_file, open_group, output_role}
use Rattle.rpg_cards.specs.declared.constants.Constant.TheVariants as constant
use Rattle.rpg_cards.specs.declared.files.FileUse.{FileUse}
use Rattle.rpg_cards.specs.declared.files.FileUse.TheVariants as uses
use Rattle.rpg_cards.specs.declared.spec_card.SpecCard.{SpecCard}
use Rattle.rpg_faults_flow.specs.Kept.{KeepsRule}
use Rattle.rpg_faults_limits.specs.Files.{bad_file, breaks_files, lacks_file, moves, moves_disk, moves_disk_by, is_disk_file}
use Rattle.rpg_faults_operands.specs.Indicators.{any_of, bad_in_output, bad_indicator, bad_on, bad_on_output}
use Rattle.rpg_faults_operands.specs.Columns as columns
use Rattle.rpg_faults_operands.specs.Editing.{bad_editing, edits_badly}
use Rattle.rpg_faults_operands.specs.Indexes.{bad_index, bad_index_of}
use Rattle.rpg_faults_operands.specs.Kinds.{wrong_in_output, wrong_operand}
use Rattle.rpg_faults_operands.specs.Names.{lacks_name, names_nothing}
use Rattle.rpg_faults_operands.specs.Operands.{Operand, operands_ending, operands_listed, output_operand, output_operand_on}
use Rattle.rpg_paper.specs.declared.form.Page.{Page}
use Rattle.rpg_program.specs.Forms.{form_at, has_field, length_of}
use Rattle.rpg_program.specs.LineFaults.{KeepsFieldRules, fits_editing}
use Rattle.rpg_program.specs.declared.condition.Condition.{Condition}
use Rattle.rpg_program.specs.declared.form.FieldForm.{FieldForm}
use Rattle.rpg_program.specs.declared.line.Editing.{Editing}
use Rattle.rpg_program.specs.declared.line.Editing.TheVariants as editing
use Rattle.rpg_program.specs.declared.line.File.{File}
use Rattle.rpg_program.specs.declared.line.File.TheVariants as put
use Rattle.rpg_program.specs.declared.line.LineField.{LineField}
use Rattle.rpg_edit_marks.specs.declared.code.Fill.{Fill}
use Rattle.rpg_faults_places.specs.Places.{is_past, is_skip_past, outside_line, outside_page, skips_past}
use Rattle.rpg_program.specs.Constants.{word_at}
use Rattle.rpg_program.specs.Object.{Object, file_length}
use Rattle.rpg_program.proofs.Renaming.Lines.{keeps_same}
use Rattle.rpg_program.specs.Naming.{renamed_field}
use Rattle.rpg_verify_rules.proofs.Kept.{NoneTrue}
use Rattle.rpg_program.specs.declared.rows.Version.{Version}
use Rattle.rpg_verify_rules.specs.Indicators.{all_testable, if_any, is_testable}
use Rattle.rpg_verify_rules.specs.LineRules.{has_untestable_condition, blanks_wrongly, edits_form, is_field_testable, is_field_edited, is_field_there, is_spaced_on, is_word_for, lacks_editing, lacks_room, lacks_word, line_breaks}
use Rattle.rpg_verify_rules.specs.Rules.{broken}
use Rattle.rpg_verify_rules.specs.declared.rule.LineRule.{LineRule}
use Rattle.rpg_verify_rules.specs.declared.rule.LineRule.TheVariants.{V2, V8, V9, V10, V11, V12, V13, V14, V15}
use Rattle.rpg_verify_rules.specs.declared.rule.Rule.TheVariants as rules
use Rattle.rpg_cards.specs.Names.{form_in, form_of_name}
use Rattle.rpg_cards.specs.Keys.{Named}
use Rattle.rpg_faults_operands.specs.Names.{is_undefined}
use Rattle.rpg_compile_program.proofs.Conditions.{testable_number}
use Rattle.rpg_compile_program.proofs.FiledGroups as filed
use Rattle.rpg_compile_program.proofs.Lines.{length_same}
use Rattle.rpg_compile_program.proofs.Numbers.{numbers_rename}
use Rattle.rpg_compile_program.proofs.OutputFields as fields
use Rattle.rpg_compile_program.proofs.OutputFiles as named_files
use Rattle.rpg_compile_program.proofs.Words.{words_same}
use Rattle.rpg_compile_program.specs.Lines.{line_alternatives, file_put, is_unmoved, line_field_of, card_line, output_fields_in, put_length, output_file, spacing_of}
use Rattle.rpg_compile_program.specs.Lines as words
use Rattle.rpg_compile_program.specs.Program.{key_numbers, numbered_line, program_of, version_for}
use Rattle.rpg_compile_program.specs.Ranges.{AreCards, InThree, IsCard, IsCondition, IsInRange, IsLine, IsMovement, IsOutput, IsOutputField, IsSpace}
use Rattle.rpg_compile_program.specs.Table.{key_form, key_word, table_of}
use Rattle.rpg_compile_program.proofs.Each.{each_append, three_of, each_at, each_passes, none_passes}
use Rattle.rpg_compile_program.proofs.Lists.{none_in_option}
use Rattle.rpg_compile_program.proofs.NameForms.{constant_there, stands_in}
use Rattle.rpg_sheet_specs.specs.declared.output.Movement.{Movement}
use Rattle.rpg_sheet_specs.specs.declared.file.FileSpec.{FileSpec}
use Rattle.rpg_sheet_specs.specs.declared.indicator.ConditionSpec as sheet
use Rattle.rpg_sheet_specs.specs.declared.indicator.Three.{Three}
use Rattle.rpg_sheet_specs.specs.declared.output.OutputField.{OutputField}
use Rattle.rpg_sheet_specs.specs.declared.output.OutputRecord.{OutputRecord}
use Rattle.rpg_sheet_specs.specs.declared.output.OutputSpec.{OutputSpec}
use Rattle.rpg_sheet_specs.specs.declared.output.OutputSpec.TheVariants as output
use Rattle.rpg_sheet_specs.specs.declared.spec.Spec.{Spec}
use Rattle.rpg_sheet_specs.specs.declared.spec.Spec.TheVariants as spec

-- ---- what stands on an output card

follower_on : (s : Spec) (o : OutputSpec) → output_role s ≡ Follower o → output_on s ≡ Some o
follower_on (spec.Header x) o e = cc
follower_on (spec.File x) o e = cc
follower_on (spec.Extension x) o e = cc
follower_on (spec.Form x) o e = cc
follower_on (spec.Input x) o e = cc
follower_on (spec.Calculation x) o e = cc
follower_on (spec.Data x) o e = cc
follower_on (spec.Output (output.Record r)) o e = cc
follower_on (spec.Output (output.And t)) o e = let same : output.And t ≡ o = cc in ap Some same
follower_on (spec.Output (output.Or t)) o e = let same : output.Or t ≡ o = cc in ap Some same
follower_on (spec.Output (output.Field f)) o e = let same : output.Field f ≡ o = cc in ap Some same

record IsRecordCard (s : Spec) (r : OutputRecord) (name : Option (List ℕ)) : Type 0 where
  on : output_on s ≡ Some (output.Record r)
  file : name ≡ r.file

heading_on : (s : Spec) (r : OutputRecord) (name : Option (List ℕ)) → output_role s ≡ Heading r name → IsRecordCard s r name
heading_on (spec.Header x) r name e = cc
heading_on (spec.File x) r name e = cc
heading_on (spec.Extension x) r name e = cc
heading_on (spec.Form x) r name e = cc
heading_on (spec.Input x) r name e = cc
heading_on (spec.Calculation x) r name e = cc
heading_on (spec.Data x) r name e = cc
heading_on (spec.Output (output.Record q)) r name e =
    let same : q ≡ r = cc in
    let file : q.file ≡ name = cc in
    record { on = ap (λ x. Some (output.Record x)) same; file = sym file ∙ ap (λ (x : OutputRecord). x.file) same }
heading_on (spec.Output (output.And t)) r name e = cc
heading_on (spec.Output (output.Or t)) r name e = cc
heading_on (spec.Output (output.Field f)) r name e = cc

indicators_on : (cards : List SpecCard) (s : Spec) (o : OutputSpec) → output_on s ≡ Some o → bad_on cards s ≡ false → bad_on_output cards o ≡ false
indicators_on cards (spec.Header x) o e valid = cc
indicators_on cards (spec.File x) o e valid = cc
indicators_on cards (spec.Extension x) o e valid = cc
indicators_on cards (spec.Form x) o e valid = cc
indicators_on cards (spec.Input x) o e valid = cc
indicators_on cards (spec.Calculation x) o e valid = cc
indicators_on cards (spec.Data x) o e valid = cc
indicators_on cards (spec.Output p) o e valid = let same : p ≡ o = cc in subst (λ x. bad_on_output cards x ≡ false) same valid

after_all : {X : Type 0} (test : X → Bool) (xs : List X) (o : Option X) → list_any test (xs ++ option_to_list o) ≡ false → option_map_or test o false ≡ false
after_all test xs o e = none_in_option test o ((or_parts _ _ (sym (list_any-append test xs (option_to_list o)) ∙ e)).1)

-- an output field of a card is outside its line
abbrev pub ends_outside : List SpecCard → List SpecCard → SpecCard → Bool
ends_outside cards before c = option_map_or (outside_line cards (file_by (open_file output_role before) cards)) (output_field_on c.spec) false

-- a line of the printer skips past its page
abbrev pub skips_outside : List SpecCard → List SpecCard → SpecCard → Bool
skips_outside cards before c = option_map_or (λ r. outside_page cards (file_by (option_or r.file (open_file output_role before)) cards) r.movement) (output_record_on c.spec) false

ranges_on : (s : Spec) (o : OutputSpec) → output_on s ≡ Some o → IsInRange s → IsOutput o
ranges_on (spec.Header x) o e valid = cc
ranges_on (spec.File x) o e valid = cc
ranges_on (spec.Extension x) o e valid = cc
ranges_on (spec.Form x) o e valid = cc
ranges_on (spec.Input x) o e valid = cc
ranges_on (spec.Calculation x) o e valid = cc
ranges_on (spec.Data x) o e valid = cc
ranges_on (spec.Output p) o e valid = let same : p ≡ o = cc in subst IsOutput same valid

-- ---- conditions

-- it may be tested in that version
abbrev IsTestable : Version → Condition → Type 0
IsTestable v c = is_testable v c ≡ true

testable_one : (cards : List SpecCard) (o : Option sheet.ConditionSpec) → option_map_or (bad_in_output cards) o false ≡ false → ForSome o IsCondition → Each (IsTestable (version_for cards)) (map condition_of (option_to_list o))
testable_one cards None valid range = tt
testable_one cards (Some c) valid range = (testable_number cards c.indicator valid (range c refl).highest, tt)

pub testable_three : (cards : List SpecCard) (t : Three (Option sheet.ConditionSpec)) → any_of (bad_in_output cards) t ≡ false → InThree IsCondition t → Each (IsTestable (version_for cards)) (standing t)
testable_three cards t valid range =
    let two = or_parts _ _ valid in
    let one = or_parts _ _ two.0 in
    three_of (IsTestable (version_for cards)) condition_of t.first t.second t.third (testable_one cards t.first one.0 range.first) (testable_one cards t.second one.1 range.second) (testable_one cards t.third two.1 range.third)

testable_place : (v : Version) (cs : List Condition) (k : ℕ) → Each (IsTestable v) cs → if_any (is_testable v) (slice_get cs k) ≡ true
testable_place v [] k h = refl
testable_place v (c ∷ cs) zero h = h.0
testable_place v (c ∷ cs) (suc k) h = testable_place v cs k h.1

pub testable_places : (v : Version) (cs : List Condition) → Each (IsTestable v) cs → all_testable v (in_places cs) ≡ true
testable_places v cs h = and_from _ _ (testable_place v cs 0 h) (and_from _ _ (testable_place v cs 1 h) (testable_place v cs 2 h))

-- the conditions of AND and OR cards
module _ (v : Version) where
  abbrev IsFurtherTestable : OutputSpec → Type 0
  IsFurtherTestable (output.Record r) = Unit {0}
  IsFurtherTestable (output.And t) = Each (IsTestable v) (standing t)
  IsFurtherTestable (output.Or t) = Each (IsTestable v) (standing t)
  IsFurtherTestable (output.Field f) = Unit {0}

  alternatives_testable : (so_far : List Condition) (os : List OutputSpec) → Each (IsTestable v) so_far → Each IsFurtherTestable os → list_all (list_all (is_testable v)) (line_alternatives so_far os) ≡ true
  alternatives_testable so_far [] h valid = and_from _ _ (each_passes (is_testable v) so_far h) refl
  alternatives_testable so_far (output.Record r ∷ os) h valid = alternatives_testable so_far os h valid.1
  alternatives_testable so_far (output.And t ∷ os) h valid = alternatives_testable (so_far ++ standing t) os (each_append (IsTestable v) so_far (standing t) h valid.0) valid.1
  alternatives_testable so_far (output.Or t ∷ os) h valid = and_from _ _ (each_passes (is_testable v) so_far h) (alternatives_testable (standing t) os valid.0 valid.1)
  alternatives_testable so_far (output.Field f ∷ os) h valid = alternatives_testable so_far os h valid.1

-- ---- movements

at_most : (o : Option ℕ) (n : ℕ) → ForSome o (λ x. x ≤ n) → nat_le (unwrap_or o 0) n ≡ true
at_most None n h = le-leb 0 n (omega arith)
at_most (Some x) n h = le-leb x n (h x refl)

skipped_to : (lines : ℕ) (o : Option ℕ) → is_skip_past lines o ≡ false → nat_le (unwrap_or o 0) lines ≡ true
skipped_to lines None h = le-leb 0 lines (omega arith)
skipped_to lines (Some x) h = le-leb x lines (ltb-false lines x h)

spaced_after : (b : Bool) (o : Option ℕ) → ForSome o IsSpace → nat_le (cond b 1 (unwrap_or o 0)) 3 ≡ true
spaced_after true o h = refl
spaced_after false o h = at_most o 3 h

blank_zero : (o : Option ℕ) → is_some o ≡ false → (unwrap_or o 0 == 0) ≡ true
blank_zero None h = refl
blank_zero (Some x) h = cc

spaced_right : (lines : ℕ) (file : File) (m : Movement) → IsMovement m → (file ≡ put.Disk → moves m ≡ false) → (file ≡ put.Printer → skips_past lines m ≡ false) → is_spaced_on lines file (spacing_of file m) ≡ true
spaced_right lines put.Printer m range still inside =
    let skips = or_parts _ _ (inside refl) in
    and_from _ _ (and_from _ _ (at_most m.space_before 3 range.space_before) (spaced_after (is_unmoved m) m.space_after range.space_after))
    (and_from _ _ (skipped_to lines m.skip_before skips.0) (skipped_to lines m.skip_after skips.1))
spaced_right lines put.Disk m range still inside =
    let none = still refl in
    let three = or_parts _ _ none in
    let two = or_parts _ _ three.0 in
    let one = or_parts _ _ two.0 in
    and_from _ _ (and_from _ _ (blank_zero m.space_before one.0) (blank_zero m.space_after one.1)) (and_from _ _ (blank_zero m.skip_before two.1) (blank_zero m.skip_after three.1))

-- ---- what the rules ask of a field, of a field that keeps them

module _ (p : Object) (len : ℕ) (f : LineField ℕ) (k : KeepsFieldRules (form_at p.fields) (word_at p) len f) where
  abbrev form : Option FieldForm
  form = form_at p.fields f.operand.field

  field_there : is_field_there p f ≡ true
  field_there = and_from _ _ k.operand k.source

  edits_by : (e : Editing ℕ) (fill : Fill) → fits_editing (form_at p.fields) (word_at p) form e fill ≡ true → edits_form form e fill ≡ true
  edits_by editing.Plain fill h = h
  edits_by (editing.Code code) fill h = h
  edits_by (editing.Word n) fill h = (and_parts _ _ h).0

  field_edited : is_field_edited p f ≡ true
  field_edited = edits_by f.editing f.fill k.editing

  worded_by : (e : Editing ℕ) (fill : Fill) → fits_editing (form_at p.fields) (word_at p) form e fill ≡ true → is_word_for p (length_of form) e ≡ true
  worded_by editing.Plain fill h = refl
  worded_by (editing.Code code) fill h = refl
  worded_by (editing.Word n) fill h = (and_parts _ _ h).1

  never : (a b : Bool) → b ≡ true → (a && not b) ≡ false
  never true b e = not_from_true b e
  never false b e = refl

  editing_fits : lacks_editing p f ≡ false
  editing_fits = never _ _ field_edited

  never_inside : (a b : Bool) → b ≡ false → (a && b) ≡ false
  never_inside true b e = e
  never_inside false b e = refl

  field_worded : lacks_word p f ≡ false
  field_worded = never_inside _ _ (never _ _ (worded_by f.editing f.fill k.editing))

  field_placed : lacks_room p len f ≡ false
  field_placed = never _ _ k.room

  never_first : (a b : Bool) → a ≡ true → (not a && b) ≡ false
  never_first true b e = refl
  never_first false b e = cc

  field_blanked : blanks_wrongly p len f ≡ false
  field_blanked = never_first _ _ k.blanked

  testable_well : is_field_testable p.version f ≡ true → has_untestable_condition p len f ≡ false
  testable_well h = never_first _ _ h

-- ---- the source

module _ (cards : List SpecCard) (allowance : ℕ) where
  -- what a source of lines without a fault keeps
  pub record AreFit : Type 0 where
    pub in_range : AreCards cards
    pub named : (name : List ℕ) → key_form (table_of cards) (Named name) ≡ form_in (form_of_name name cards)
    pub valid : (name : List ℕ) → is_undefined cards name ≡ false → has_field (form_in (form_of_name name cards)) ≡ true
    pub files : KeepsRule (λ before c after. breaks_files cards before c) cards
    pub indicators : KeepsRule (λ before c after. bad_indicator cards c) cards
    pub spaces : KeepsRule (λ before c after. moves_disk cards before c) cards
    pub names : KeepsRule (λ before c after. lacks_name cards c after) cards
    pub kinds : KeepsRule (λ before c after. wrong_operand cards c after) cards
    pub indexes : KeepsRule (λ before c after. bad_index cards c after) cards
    pub columns : KeepsRule (λ before c after. columns.bad_operand_columns cards c after) cards
    pub editing : KeepsRule (λ before c after. bad_editing cards c) cards
    pub ends : KeepsRule (λ before c after. ends_outside cards before c) cards
    pub skips : KeepsRule (λ before c after. skips_outside cards before c) cards

  module _ (h : AreFit) where
    abbrev forms : Key → Option FieldForm
    forms = key_form (table_of cards)

    abbrev texts : Key → List ℕ
    texts = key_word (table_of cards)

    spelled : (text : List ℕ) → forms (Fixed (constant.Text text)) ≡ Some (constant_form (constant.Text text)) → texts (Fixed (constant.Text text)) ≡ text
    spelled text e = by_any (list_any (is_same (constant.Text text)) (constants cards)) e
      where
        by_any : (b : Bool) → cond b (Some (constant_form (constant.Text text))) None ≡ Some (constant_form (constant.Text text)) → cond b text [] ≡ text
        by_any true e = refl
        by_any false e = cc

    fit_files : (before : List SpecCard) (c : SpecCard) (after : List SpecCard) → cards ≡ before ++ c ∷ after → option_map_or (bad_file before) (file_on c.spec) false ≡ false
    fit_files before c after split = (or_parts _ _ (or_parts _ _ (or_parts _ _ (h.files before c after split)).0).0).0

    abbrev HasFile : Option (List ℕ) → Type 0
    HasFile name = named_files.HasFile cards fit_files is_output name

    abbrev IsOwn : FileSpec → Type 0
    IsOwn f = named_files.IsOwn cards fit_files f

    -- ---- a line's card

    pub record IsLineValid (name : Option (List ℕ)) (r : OutputRecord) : Type 0 where
      pub testable : Each (IsTestable (version_for cards)) (standing r.conditions)
      pub still : (moves r.movement && option_map_or is_disk_file (file_by name cards) false) ≡ false
      pub movement : IsMovement r.movement
      pub inside : outside_page cards (file_by name cards) r.movement ≡ false

    heads : filed.Heads cards output_role HasFile IsLineValid (λ name o. Unit {0})
    heads before c after r name split role known =
        let at = heading_on c.spec r name role in
        let on : output_record_on c.spec ≡ Some r = ap (option_and_then output_record_in) at.on in
        let lacks : lacks_file cards is_output (is_some (open_group output_role before)) r.file ≡ false =
        subst (λ (o : Option OutputRecord). option_map_or (λ r. lacks_file cards is_output (is_some (open_group output_role before)) r.file) o false ≡ false) on (or_parts _ _ (or_parts _ _ (h.files before c after split)).0).1 in
        let still : moves_disk_by cards before r ≡ false = subst (λ (o : Option OutputRecord). option_map_or (moves_disk_by cards before) o false ≡ false) on (h.spaces before c after split) in
        let inside : outside_page cards (file_by (option_or r.file (open_file output_role before)) cards) r.movement ≡ false =
        subst (λ (o : Option OutputRecord). option_map_or (λ r. outside_page cards (file_by (option_or r.file (open_file output_role before)) cards) r.movement) o false ≡ false) on (h.skips before c after split) in
        let asks : any_of (bad_in_output cards) r.conditions ≡ false = indicators_on cards c.spec (output.Record r) at.on (h.indicators before c after split) in
        let range : IsLine r = ranges_on c.spec (output.Record r) at.on (each_at IsCard before c after (subst AreCards split h.in_range)) in
        subst (λ (n : Option (List ℕ)). HasFile (option_or n (open_file output_role before)) × IsLineValid (option_or n (open_file output_role before)) r) (sym at.file) (
          named_files.named_or_before cards fit_files is_output (is_some (open_group output_role before)) r.file (open_file output_role before) lacks known,
          record { testable = testable_three cards r.conditions asks range.conditions; still = still; movement = range.movement; inside = inside },
        )

    -- ---- the cards after it

    text_on : (s : Spec) (f : OutputField) (x : List ℕ) → output_field_on s ≡ Some f → f.code ≡ None → f.text ≡ Some x → list_any (is_same (constant.Text x)) (constants_on s) ≡ true
    text_on s f x on code text =
        let first = option_to_list (option_and_then (λ k. option_and_then factor_constant k.factor_1) (calculation_on s)) in
        let second = option_to_list (option_and_then (λ k. option_and_then factor_constant k.factor_2) (calculation_on s)) in
        let third : option_and_then text_constant (output_field_on s) ≡ Some (constant.Text x) =
        ap (option_and_then text_constant) on ∙ ap (λ o. cond (is_none o) (option_map constant.Text f.text) None) code ∙ ap (option_map constant.Text) text in
        list_any-append (is_same (constant.Text x)) (first ++ second) (option_to_list (option_and_then text_constant (output_field_on s)))
        ∙ or_right (list_any (is_same (constant.Text x)) (first ++ second)) _ (stands_in (constant.Text x) (option_and_then text_constant (output_field_on s)) third)

    pub record IsFieldValid (name : Option (List ℕ)) (f : OutputField) : Type 0 where
      pub testable : Each (IsTestable (version_for cards)) (standing f.conditions)
      pub past : is_past (file_by name cards) f.end ≡ false
      pub keeps : (len : ℕ) → f.end ≤ len → KeepsFieldRules forms texts len (line_field_of f)

    abbrev pub IsOutputValid : Option (List ℕ) → OutputSpec → Type 0
    IsOutputValid name (output.Record r) = Unit {0}
    IsOutputValid name (output.And t) = Each (IsTestable (version_for cards)) (standing t)
    IsOutputValid name (output.Or t) = Each (IsTestable (version_for cards)) (standing t)
    IsOutputValid name (output.Field f) = IsFieldValid name f

    -- what a rule says of the field on a card
    of_field : (before : List SpecCard) (c : SpecCard) (after : List SpecCard) (f : OutputField) → output_field_on c.spec ≡ Some f → (test : OutputField → Bool) → option_map_or test (output_field_on c.spec) false ≡ false → test f ≡ false
    of_field before c after f on test e = subst (λ (o : Option OutputField). option_map_or test o false ≡ false) on e

    of_operand : (c : SpecCard) (f : OutputField) → output_field_on c.spec ≡ Some f → (test : Operand → Bool) → option_map_or test (output_operand_on c) false ≡ false → option_map_or test (output_operand f) false ≡ false
    of_operand c f on test e = subst (λ (o : Option OutputField). option_map_or test (option_and_then output_operand o) false ≡ false) on e

    field_valid : (before : List SpecCard) (c : SpecCard) (after : List SpecCard) (f : OutputField) → cards ≡ before ++ c ∷ after → output_on c.spec ≡ Some (output.Field f) → IsFieldValid (open_file output_role before) f
    field_valid before c after f split on =
        let on_field : output_field_on c.spec ≡ Some f = ap (option_and_then output_field_in) on in
        let asks : any_of (bad_in_output cards) f.conditions ≡ false = indicators_on cards c.spec (output.Field f) on (h.indicators before c after split) in
        let range : IsOutputField f = ranges_on c.spec (output.Field f) on (each_at IsCard before c after (subst AreCards split h.in_range)) in
        let outside : outside_line cards (file_by (open_file output_role before) cards) f ≡ false =
        of_field before c after f on_field (outside_line cards (file_by (open_file output_role before) cards)) (h.ends before c after split) in
        let two = or_parts (f.end == 0) _ outside in
        let one = or_parts (is_past (file_by (open_file output_role before) cards) f.end) _ two.1 in
        let fit : (len : ℕ) → f.end ≤ len → fields.IsFieldFit cards forms texts h.named h.valid spelled f len = λ len within. record {
          columns = of_field before c after f on_field columns.bad_output_field (or_parts _ _ (h.columns before c after split)).1;
          defined = of_operand c f on_field (names_nothing cards) (after_all (names_nothing cards) (operands_listed (operands_ending c after)) (output_operand_on c) (h.names before c after split));
          kinds = of_field before c after f on_field (wrong_in_output cards) (or_parts _ _ (h.kinds before c after split)).1;
          index = of_operand c f on_field (bad_index_of cards) (after_all (bad_index_of cards) (operands_listed (operands_ending c after)) (output_operand_on c) (h.indexes before c after split));
          editing = of_field before c after f on_field (edits_badly cards) (h.editing before c after split);
          narrow = one.1;
          inside = within;
          listed = λ x code text. constant_there cards before c after (constant.Text x) split (text_on c.spec f x on_field code text);
        } in
        record {
          testable = testable_three cards f.conditions asks range.conditions;
          past = one.0;
          keeps = λ len within. fields.keeps_rules cards forms texts h.named h.valid spelled f len (fit len within);
        }

    output_valid : (before : List SpecCard) (c : SpecCard) (after : List SpecCard) (o : OutputSpec) → cards ≡ before ++ c ∷ after → output_on c.spec ≡ Some o → IsOutputValid (open_file output_role before) o
    output_valid before c after (output.Record r) split on = tt
    output_valid before c after (output.And t) split on =
        testable_three cards t (indicators_on cards c.spec (output.And t) on (h.indicators before c after split)) (ranges_on c.spec (output.And t) on (each_at IsCard before c after (subst AreCards split h.in_range)))
    output_valid before c after (output.Or t) split on =
        testable_three cards t (indicators_on cards c.spec (output.Or t) on (h.indicators before c after split)) (ranges_on c.spec (output.Or t) on (each_at IsCard before c after (subst AreCards split h.in_range)))
    output_valid before c after (output.Field f) split on = field_valid before c after f split on

    follows : filed.Follows cards output_role HasFile IsLineValid IsOutputValid
    follows before c after o split role = output_valid before c after o split (follower_on c.spec o role)

    valid_heads : filed.Heads cards output_role HasFile IsLineValid IsOutputValid
    valid_heads before c after r name split role known = heads before c after r name split role known

    -- ---- the lines

    abbrev p : Object
    p = program_of cards allowance

    abbrev at : Key → ℕ
    at = key_numbers cards

    version_is : p.version ≡ version_for cards
    unfolding program_of
    version_is = refl

    page_is : p.overflow.page ≡ page_of cards
    unfolding program_of
    page_is = refl

    -- the length of the file that a line goes to
    file_is : (f : FileSpec) → IsOwn f → (u : FileUse) → file_use f ≡ u → is_output u ≡ true → put_length cards (file_put u) ≡ f.record_length
    file_is f own uses.Primary is test = cc
    file_is f own uses.Secondary is test = cc
    file_is f own uses.Printer is test = ap words.record_length_of (subst (λ (u : FileUse). file_for u cards ≡ Some f) is own.only)
    file_is f own uses.Disk is test = ap words.record_length_of (subst (λ (u : FileUse). file_for u cards ≡ Some f) is own.only)

    -- a line for the disk stands still
    still_on : (f : FileSpec) (m : Movement) → (moves m && is_disk_file f) ≡ false → (u : FileUse) → file_use f ≡ u → file_put u ≡ put.Disk → moves m ≡ false
    still_on f m still uses.Primary is e = cc
    still_on f m still uses.Secondary is e = cc
    still_on f m still uses.Printer is e = cc
    still_on f m still uses.Disk is e = by_moves (moves m) (subst (λ (u : FileUse). (moves m && same_use uses.Disk u) ≡ false) is still)
      where
        by_moves : (b : Bool) → (b && true) ≡ false → b ≡ false
        by_moves true h = h
        by_moves false h = refl

    -- a line for the printer stays on its page
    inside_on : (f : FileSpec) (m : Movement) → outside_page cards (Some f) m ≡ false → (u : FileUse) → file_use f ≡ u → is_output u ≡ true → file_put u ≡ put.Printer → skips_past (page_of cards).lines m ≡ false
    inside_on f m inside uses.Primary is test e = cc
    inside_on f m inside uses.Secondary is test e = cc
    inside_on f m inside uses.Printer is test e = subst (λ (u : FileUse). (same_use uses.Printer u && skips_past (page_of cards).lines m) ≡ false) is inside
    inside_on f m inside uses.Disk is test e = cc

    record IsRightField (len : ℕ) (f : LineField ℕ) : Type 0 where
      keeps : KeepsFieldRules (form_at p.fields) (word_at p) len f
      testable : is_field_testable p.version f ≡ true

    field_right : (len : ℕ) (f : OutputField) → KeepsFieldRules forms texts len (line_field_of f) → Each (IsTestable (version_for cards)) (standing f.conditions) → IsRightField len (renamed_field at (line_field_of f))
    unfolding program_of
    field_right len f keeps testable = record {
      keeps = keeps_same (numbers_rename (table_of cards)) texts (word_at p) (words_same cards allowance) len (line_field_of f) keeps;
      testable = testable_places (version_for cards) (standing f.conditions) testable;
    }

    fields_right : (name : Option (List ℕ)) (file : FileSpec) (len : ℕ) → file_by name cards ≡ Some file → file.record_length ≡ len → (os : List OutputSpec) → Each (IsOutputValid name) os →
        Each (IsRightField len) (map (renamed_field at) (map line_field_of (output_fields_in os)))
    fields_right name file len by is [] valid = tt
    fields_right name file len by is (output.Record r ∷ os) valid = fields_right name file len by is os valid.1
    fields_right name file len by is (output.And t ∷ os) valid = fields_right name file len by is os valid.1
    fields_right name file len by is (output.Or t ∷ os) valid = fields_right name file len by is os valid.1
    fields_right name file len by is (output.Field f ∷ os) valid =
        let here = valid.0 in
        let past : nat_lt file.record_length f.end ≡ false = subst (λ (o : Option FileSpec). is_past o f.end ≡ false) by here.past in
        let within : f.end ≤ len = let l = ltb-false file.record_length f.end past in omega arith in
        (field_right len f (here.keeps len within) here.testable, fields_right name file len by is os valid.1)

    further_testable : (name : Option (List ℕ)) (os : List OutputSpec) → Each (IsOutputValid name) os → Each (IsFurtherTestable (version_for cards)) os
    further_testable name [] valid = tt
    further_testable name (output.Record r ∷ os) valid = (tt, further_testable name os valid.1)
    further_testable name (output.And t ∷ os) valid = (valid.0, further_testable name os valid.1)
    further_testable name (output.Or t ∷ os) valid = (valid.0, further_testable name os valid.1)
    further_testable name (output.Field f ∷ os) valid = (tt, further_testable name os valid.1)

    each_map : {X : Type 0} (P Q : X → Type 0) (xs : List X) → ((x : X) → P x → Q x) → Each P xs → Each Q xs
    each_map P Q [] f valid = tt
    each_map P Q (x ∷ xs) f valid = (f x valid.0, each_map P Q xs f valid.1)

    -- a line's file, and how long its lines are
    record IsPut (g : Group OutputRecord OutputSpec) (file : File) (len : ℕ) : Type 0 where
      to : output_file (file_by g.file cards) ≡ file
      length : put_length cards file ≡ len
      some : 1 ≤ len
      still : file ≡ put.Disk → moves g.heading.movement ≡ false
      inside : file ≡ put.Printer → skips_past (page_of cards).lines g.heading.movement ≡ false

    abbrev InFile : Group OutputRecord OutputSpec → Type 0
    InFile g = filed.InFile cards output_role HasFile IsLineValid IsOutputValid g

    put_of : (g : Group OutputRecord OutputSpec) (valid : InFile g) → IsPut g (file_put (file_use valid.0.0)) valid.0.0.record_length
    put_of g valid =
        let f = valid.0.0 in
        let by = valid.0.1 in
        let still : (moves g.heading.movement && is_disk_file f) ≡ false = subst (λ (o : Option FileSpec). (moves g.heading.movement && option_map_or is_disk_file o false) ≡ false) by valid.1.0.still in
        record {
          to = ap output_file by;
          length = file_is f valid.0.3 (file_use f) refl valid.0.2;
          some = valid.0.3.lowest;
          still = still_on f g.heading.movement still (file_use f) refl;
          inside = inside_on f g.heading.movement (subst (λ (o : Option FileSpec). outside_page cards o g.heading.movement ≡ false) by valid.1.0.inside) (file_use f) refl valid.0.2;
        }

    line_breaks_not : (g : Group OutputRecord OutputSpec) (valid : InFile g) (r : LineRule) → line_breaks r p (numbered_line cards (words.line_of_file (file_put (file_use valid.0.0)) (put_length cards (file_put (file_use valid.0.0))) g)) ≡ false
    unfolding line_breaks
    line_breaks_not g valid r = by_rule r
      where
        all : (P : LineField ℕ → Type 0) → ((f : LineField ℕ) → IsRightField (file_length p (file_put (file_use valid.0.0))) f → P f) → Each P (map (renamed_field at) (map line_field_of (output_fields_in g.followers)))
        all P f = each_map (IsRightField (file_length p (file_put (file_use valid.0.0)))) P (map (renamed_field at) (map line_field_of (output_fields_in g.followers))) f
            (fields_right g.file valid.0.0 (file_length p (file_put (file_use valid.0.0))) valid.0.1 (sym (length_same cards allowance (file_put (file_use valid.0.0)) ∙ (put_of g valid).length)) g.followers valid.1.1)

        by_rule : (r : LineRule) → line_breaks r p (numbered_line cards (words.line_of_file (file_put (file_use valid.0.0)) (put_length cards (file_put (file_use valid.0.0))) g)) ≡ false
        by_rule V2 = ne_eqb (file_length p (file_put (file_use valid.0.0))) 0 (λ e. let some = (put_of g valid).some in let l = length_same cards allowance (file_put (file_use valid.0.0)) ∙ (put_of g valid).length in omega arith)
        by_rule V8 = not_from_true _ (ap (λ (page : Page). is_spaced_on page.lines (file_put (file_use valid.0.0)) (spacing_of (file_put (file_use valid.0.0)) g.heading.movement)) page_is ∙ spaced_right (page_of cards).lines (file_put (file_use valid.0.0)) g.heading.movement valid.1.0.movement (put_of g valid).still (put_of g valid).inside)
        by_rule V9 = not_from_true _ (ap (λ v. list_all (list_all (is_testable v)) (line_alternatives (standing g.heading.conditions) g.followers)) version_is ∙ alternatives_testable (version_for cards) (standing g.heading.conditions) g.followers valid.1.0.testable (further_testable g.file g.followers valid.1.1))
        by_rule V10 = not_from_true _ (each_passes (is_field_there p) _ (all (λ f. is_field_there p f ≡ true) (λ f k. field_there p _ f k.keeps)))
        by_rule V11 = none_passes (lacks_editing p) _ (all (λ f. lacks_editing p f ≡ false) (λ f k. editing_fits p _ f k.keeps))
        by_rule V12 = none_passes (lacks_word p) _ (all (λ f. lacks_word p f ≡ false) (λ f k. field_worded p _ f k.keeps))
        by_rule V13 = none_passes (lacks_room p (file_length p (file_put (file_use valid.0.0)))) _ (all (λ f. lacks_room p (file_length p (file_put (file_use valid.0.0))) f ≡ false) (λ f k. field_placed p _ f k.keeps))
        by_rule V14 = none_passes (blanks_wrongly p (file_length p (file_put (file_use valid.0.0)))) _ (all (λ f. blanks_wrongly p (file_length p (file_put (file_use valid.0.0))) f ≡ false) (λ f k. field_blanked p _ f k.keeps))
        by_rule V15 = none_passes (has_untestable_condition p (file_length p (file_put (file_use valid.0.0)))) _ (all (λ f. has_untestable_condition p (file_length p (file_put (file_use valid.0.0))) f ≡ false) (λ f k. testable_well p _ f k.keeps k.testable))

    line_right : (g : Group OutputRecord OutputSpec) → InFile g → (r : LineRule) → line_breaks r p (numbered_line cards (card_line cards g)) ≡ false
    line_right g valid r =
        subst (λ (file : File). line_breaks r p (numbered_line cards (words.line_of_file file (put_length cards file) g)) ≡ false) (sym (put_of g valid).to) (line_breaks_not g valid r)

    each_line : (r : LineRule) (gs : List (Group OutputRecord OutputSpec)) → Each InFile gs → NoneTrue (map (line_breaks r p) (map (numbered_line cards) (map (card_line cards) gs)))
    each_line r [] valid k e = cc
    each_line r (g ∷ gs) valid zero e = absurd (let no = line_right g valid.0 r in cc)
    each_line r (g ∷ gs) valid (suc k) e = each_line r gs valid.1 k e

    -- no line breaks a rule
    pub lines_kept : (r : LineRule) → NoneTrue (broken (program_of cards allowance) (rules.Line r))
    unfolding broken program_of
    lines_kept r = each_line r (groups output_role cards) (filed.each_in_file cards output_role HasFile IsLineValid IsOutputValid valid_heads follows)
