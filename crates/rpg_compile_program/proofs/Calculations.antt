-- The instructions of a source without a fault break none of the rules on operands, results, indicators and tables.
use Rattle.std.proofs.Common.{◌≡◌, ℕ, Bool, true, false, cond, List, [], ◌∷◌, ◌++◌, Option, None, Some, refl, sym, ap, ◌∙◌, subst}
use Rattle.std.proofs.lemmas.Bool.{or_parts}
use Rattle.std.specs.List.{list_any}
use Rattle.std.specs.Option.{ForSome, option_and_then, option_map_or, option_to_list}
use Rattle.rpg_cards.specs.Calculations.{CalculationGroup, alone, calculations, card_ending, continues, last_card, open_calculation_group}
use Rattle.rpg_cards.specs.Statements.{Calculation, statement_of}
use Rattle.rpg_cards.specs.Keys.{Key, Named}
use Rattle.rpg_cards.specs.Plain.{Each}
use Rattle.rpg_cards.specs.Sections.{is_detail, is_subroutine, is_total, of_control}
use Rattle.rpg_cards.specs.Cards.{calculation_on, output_field_on}
use Rattle.rpg_cards.specs.Constants.{constant_of, constants_on, factor_constant, is_same, text_constant}
use Rattle.rpg_cards.specs.Names.{form_in, form_of_name}
use Rattle.rpg_cards.specs.declared.constants.Constant.{Constant}
use Rattle.rpg_cards.specs.declared.spec_card.SpecCard.{SpecCard}
use Rattle.rpg_compile_program.proofs.Each.{each_append, each_at}
use Rattle.rpg_compile_program.specs.Levels.{subroutine_level}
use Rattle.rpg_program.specs.Forms.{has_field}
use Rattle.rpg_program.specs.declared.form.FieldForm.{FieldForm}
use Rattle.rpg_faults_flow.proofs.Facts.{ending, last_with}
use Rattle.rpg_faults_flow.proofs.Joined.{each_body, each_control, each_split}
use Rattle.rpg_faults_flow.proofs.Walk.{Walk, each_calculation}
use Rattle.rpg_faults_flow.specs.Columns as flow
use Rattle.rpg_faults_flow.specs.Columns.{bad_by_end, bad_calculation, bad_last}
use Rattle.rpg_faults_flow.specs.Kept.{KeepsRule}
use Rattle.rpg_faults_operands.specs.Indicators.{bad_indicator, bad_on, bad_on_calculation}
use Rattle.rpg_faults_operands.specs.Columns as operands
use Rattle.rpg_faults_operands.specs.Columns.{bad_search}
use Rattle.rpg_faults_operands.specs.Indexes.{bad_index, bad_index_of}
use Rattle.rpg_faults_operands.specs.Kinds.{wrong_in_calculation, wrong_operand}
use Rattle.rpg_faults_operands.specs.Names.{is_undefined, lacks_name, names_nothing}
use Rattle.rpg_faults_operands.specs.Operands.{Operand, no_operands, operands_ending, operands_listed, operands_of, output_operand_on}
use Rattle.rpg_verify_rules.proofs.Kept.{NoneTrue}
use Rattle.rpg_verify_rules.specs.Rules.{broken}
use Rattle.rpg_verify_rules.specs.declared.rule.PlaceRule.{PlaceRule}
use Rattle.rpg_verify_rules.specs.declared.rule.Rule.TheVariants as rules
use Rattle.rpg_sheet_specs.specs.declared.calculation.CalculationSpec.{CalculationSpec}
use Rattle.rpg_sheet_specs.specs.declared.literal.Factor.{Factor}
use Rattle.rpg_sheet_specs.specs.declared.literal.Factor.TheVariants as factor
use Rattle.rpg_sheet_specs.specs.declared.spec.Spec.{Spec}
use Rattle.rpg_sheet_specs.specs.declared.spec.Spec.TheVariants as spec
use Rattle.rpg_compile_program.proofs.Conditions.{IsTestableIfAny, all_settable, group_tested, level_within, is_testable}
use Rattle.rpg_compile_program.proofs.Entries as entries
use Rattle.rpg_compile_program.proofs.Instructions as instructions
use Rattle.rpg_compile_program.proofs.Instructions.{IsOfColumns, IsRightCalculation}
use Rattle.rpg_compile_program.proofs.Numbers.{numbers_rename}
use Rattle.rpg_compile_program.proofs.Operations.{IsCardFit, card_right}
use Rattle.rpg_compile_program.proofs.RightRows.{IsRightStatement}
use Rattle.rpg_compile_program.specs.Program.{key_numbers, program_of, sections, version_for}
use Rattle.rpg_compile_program.specs.Ranges.{AreCards, IsCalculation, IsCard, IsControl, IsInRange}
use Rattle.rpg_compile_program.specs.Table.{key_form, table_of}
use Rattle.rpg_compile_program.proofs.Lists.{none_first}
use Rattle.rpg_compile_program.proofs.NameForms.{following, constant_there, in_front, stands_in}

-- ---- what stands on a calculation card

ranges_on : (s : Spec) (k : CalculationSpec) → calculation_on s ≡ Some k → IsInRange s → IsCalculation k
ranges_on (spec.Header h) k is range = cc
ranges_on (spec.File f) k is range = cc
ranges_on (spec.Extension e) k is range = cc
ranges_on (spec.Form h) k is range = cc
ranges_on (spec.Input i) k is range = cc
ranges_on (spec.Calculation j) k is range = let same : j ≡ k = cc in subst IsCalculation same range
ranges_on (spec.Output o) k is range = cc
ranges_on (spec.Data d) k is range = cc

indicators_on : (cards : List SpecCard) (s : Spec) (k : CalculationSpec) → calculation_on s ≡ Some k → bad_on cards s ≡ false → bad_on_calculation cards k ≡ false
indicators_on cards (spec.Header h) k is right = cc
indicators_on cards (spec.File f) k is right = cc
indicators_on cards (spec.Extension e) k is right = cc
indicators_on cards (spec.Form h) k is right = cc
indicators_on cards (spec.Input i) k is right = cc
indicators_on cards (spec.Calculation j) k is right = let same : j ≡ k = cc in subst (λ x. bad_on_calculation cards x ≡ false) same right
indicators_on cards (spec.Output o) k is right = cc
indicators_on cards (spec.Data d) k is right = cc

module _ (cards : List SpecCard) (allowance : ℕ) where
  -- what a source keeps whose calculations have no fault
  pub record AreFit : Type 0 where
    pub in_range : AreCards cards
    pub named : (name : List ℕ) → key_form (table_of cards) (Named name) ≡ form_in (form_of_name name cards)
    pub valid : (name : List ℕ) → is_undefined cards name ≡ false → has_field (form_in (form_of_name name cards)) ≡ true
    pub names : KeepsRule (λ before c after. lacks_name cards c after) cards
    pub kinds : KeepsRule (λ before c after. wrong_operand cards c after) cards
    pub indexes : KeepsRule (λ before c after. bad_index cards c after) cards
    pub indicators : KeepsRule (λ before c after. bad_indicator cards c) cards
    pub columns : KeepsRule flow.bad_calculation_columns cards
    pub sequence : KeepsRule (λ before c after. operands.bad_operand_columns cards c after) cards

  module _ (h : AreFit) where
    abbrev forms : Key → Option FieldForm
    forms = key_form (table_of cards)

    abbrev HasForm : Factor → Type 0
    HasForm x = entries.HasForm cards forms h.named h.valid x

    -- ---- a card

    module _ (before : List SpecCard) (c : SpecCard) (after : List SpecCard) (k : CalculationSpec) (split : cards ≡ before ++ c ∷ after) (is : calculation_on c.spec ≡ Some k) where
      range : IsCalculation k
      range = ranges_on c.spec k is (each_at IsCard before c after (subst AreCards split h.in_range))

      indicators_right : bad_on_calculation cards k ≡ false
      indicators_right = indicators_on cards c.spec k is (h.indicators before c after split)

      testable : IsTestableIfAny (version_for cards) k
      testable = is_testable cards k (or_parts _ _ indicators_right).0 range.conditions

      -- the constant of a factor has its form
      has_form : (x : Factor) → ((l : Constant) → factor_constant x ≡ Some l → list_any (is_same l) (constants_on c.spec) ≡ true) → HasForm x
      has_form (factor.Entry e) stands = tt
      has_form (factor.Literal l) stands = constant_there cards before c after (constant_of l) split (stands (constant_of l) refl)

      firsts : List Constant
      firsts = option_to_list (option_and_then (λ (k : CalculationSpec). option_and_then factor_constant k.factor_1) (calculation_on c.spec))

      seconds : List Constant
      seconds = option_to_list (option_and_then (λ (k : CalculationSpec). option_and_then factor_constant k.factor_2) (calculation_on c.spec))

      texts : List Constant
      texts = option_to_list (option_and_then text_constant (output_field_on c.spec))

      first_literal : ForSome k.factor_1 HasForm
      unfolding firsts seconds texts
      first_literal x e = has_form x (λ l constant.
          in_front l (firsts ++ seconds) texts (in_front l firsts seconds
          (stands_in l _ (ap (option_and_then (λ (k : CalculationSpec). option_and_then factor_constant k.factor_1)) is ∙ ap (option_and_then factor_constant) e ∙ constant))))

      second_literal : ForSome k.factor_2 HasForm
      unfolding firsts seconds texts
      second_literal x e = has_form x (λ l constant.
          in_front l (firsts ++ seconds) texts (following l firsts seconds
          (stands_in l _ (ap (option_and_then (λ (k : CalculationSpec). option_and_then factor_constant k.factor_2)) is ∙ ap (option_and_then factor_constant) e ∙ constant))))

      module _ (ends : continues after ≡ false) where
        ending_is : card_ending c after ≡ Some k
        ending_is = ap (λ b. cond b None (calculation_on c.spec)) ends ∙ is

        filled : bad_last k ≡ false
        filled =
            let all : bad_calculation (open_calculation_group before) k after ≡ false = subst (λ (o : Option CalculationSpec). option_map_or (λ k. bad_calculation (open_calculation_group before) k after) o false ≡ false) is (h.columns before c after split) in
            subst (λ b. bad_by_end b k ≡ false) ends (or_parts _ _ (or_parts _ _ all).1).1

        -- of the operands of the card none passes the test
        none_of_operands : (test : Operand → Bool) → list_any test (operands_listed (operands_ending c after) ++ option_to_list (output_operand_on c)) ≡ false → list_any test (operands_listed (operands_of k)) ≡ false
        none_of_operands test e =
            subst (λ (o : Option CalculationSpec). list_any test (operands_listed (option_map_or operands_of o no_operands)) ≡ false) ending_is
            (none_first test (operands_listed (operands_ending c after)) (option_to_list (output_operand_on c)) e)

        card_fit : IsCardFit cards forms h.named h.valid k
        card_fit = record {
          filled = filled;
          defined = none_of_operands (names_nothing cards) (h.names before c after split);
          kinds = subst (λ (o : Option CalculationSpec). option_map_or (wrong_in_calculation cards) o false ≡ false) ending_is (or_parts _ _ (h.kinds before c after split)).0;
          indexed = none_of_operands (bad_index_of cards) (h.indexes before c after split);
          sequence = subst (λ (o : Option CalculationSpec). option_map_or (bad_search cards) o false ≡ false) ending_is (or_parts _ _ (h.sequence before c after split)).0;
          literal_1 = first_literal;
          literal_2 = second_literal;
          settable = all_settable k.resulting_indicators (or_parts _ _ indicators_right).1 range.indicators;
        }

    -- ---- calculations

    record IsOpen (before : List (Calculation Key)) (g full : CalculationGroup) : Type 0 where
      first : IsTestableIfAny (version_for cards) g.first
      followers : Each (IsTestableIfAny (version_for cards)) g.followers
      control : IsControl g.first.control_level

    begun : (before : List SpecCard) (c : SpecCard) (after : List SpecCard) (k : CalculationSpec) (front : List (Calculation Key)) (full : CalculationGroup) → cards ≡ before ++ c ∷ after → calculation_on c.spec ≡ Some k
        → IsOpen front (alone k) full
    begun before c after k front full split is = record { first = testable before c after k split is; followers = tt; control = (range before c after k split is).control }

    abbrev IsRight : List (Calculation Key) → Calculation Key → List (Calculation Key) → Type 0
    IsRight front g rest = IsRightCalculation (version_for cards) forms g

    walk_of : Walk cards IsOpen IsRight
    walk_of = record {
      first = λ before c after k split is joins. begun before c after k _ _ split is;
      stray = λ before c after k split is joins none. begun before c after k _ _ split is;
      more = λ before c after k g split is joins open_is q. record {
        first = q.first;
        followers = each_append (IsTestableIfAny (version_for cards)) g.followers (k ∷ []) q.followers (testable before c after k split is, tt);
        control = q.control;
      };
      last = λ before c after g split ends_here q.
          let e = ending before c after g ends_here in
          let is_last : last_card g ≡ e.card = sym (ap last_card e.group) ∙ last_with (open_calculation_group before) e.card in
          record {
            tested = group_tested (version_for cards) g.first g.followers q.first q.followers;
            level = level_within g.first.control_level q.control;
            statement = subst (λ k. IsRightStatement forms (statement_of k)) (sym is_last) (card_right cards forms h.named h.valid e.card (card_fit before c after e.card split e.is e.ends));
          };
    }

    all_right : Each (IsRightCalculation (version_for cards) forms) (calculations cards)
    all_right = each_split (IsRightCalculation (version_for cards) forms) (λ front g gs right. right) [] (calculations cards) (each_calculation cards IsOpen IsRight walk_of)

    -- ---- the program

    pub columns_kept : (r : PlaceRule) → IsOfColumns r → NoneTrue (broken (program_of cards allowance) (rules.Place r))
    unfolding broken program_of
    columns_kept r of =
        instructions.places_kept (program_of cards allowance) forms (key_numbers cards) (numbers_rename (table_of cards)) (subroutine_level (sections cards).subroutines) (sections cards)
        (record { detail = refl; total = refl; subroutines = refl })
        (record {
          detail = each_control (IsRightCalculation (version_for cards) forms) is_detail (calculations cards) all_right;
          total = each_control (IsRightCalculation (version_for cards) forms) is_total (calculations cards) all_right;
          subroutines = each_body (IsRightCalculation (version_for cards) forms) (of_control is_subroutine (calculations cards)) (each_control (IsRightCalculation (version_for cards) forms) is_subroutine (calculations cards) all_right);
        }) r of
