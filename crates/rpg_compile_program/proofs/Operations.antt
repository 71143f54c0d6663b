-- The operation of a card of which no rule of cards is broken has nothing wrong, by names.
use Rattle.std.proofs.Common.{◌≡◌, ℕ, ◌+◌, Bool, true, false, not, ◌&&◌, ◌||◌, List, ◌++◌, Option, None, Some, refl, sym, ap, ◌∙◌, subst}
use Rattle.std.proofs.lemmas.Bool.{and_from, and_parts, le-leb, ltb-false, not-false, or_parts}
use Rattle.std.proofs.lemmas.List.Folds.{list_any-append}
use Rattle.std.specs.List.{list_any}
use Rattle.std.specs.Option.{ForSome, option_and_then, option_len, option_map, option_map_or, option_to_list}
use Rattle.std.specs.Prelude.{is_some, nat_le, nat_lt, unwrap_or, ◌==◌}
use Rattle.rpg_cards.specs.Statements.{statement_by, statement_from, statement_of, factor_1_operand, first_or_result, result_operand, resulting_shows, factor_2_operand, shows_of}
use Rattle.rpg_cards.specs.Keys as keys
use Rattle.rpg_cards.specs.Keys.{Key, Named, entry_operand}
use Rattle.rpg_sheet_specs.specs.Operations.{card_columns}
use Rattle.rpg_sheet_specs.specs.declared.operations.Column.TheVariants.{Must}
use Rattle.rpg_sheet_specs.specs.declared.operations.Content.{Content}
use Rattle.rpg_sheet_specs.specs.declared.operations.Content.TheVariants.{Searched, Table, Value, WholeArray}
use Rattle.rpg_sheet_specs.specs.declared.operations.OperationColumns.{OperationColumns}
use Rattle.rpg_cards.specs.Names.{form_in, form_of_name}
use Rattle.rpg_cards.specs.declared.spec_card.SpecCard.{SpecCard}
use Rattle.rpg_program.specs.Forms.{entries_of, has_field, is_array, is_table, may_write}
use Rattle.rpg_program.specs.Rows.{can_hold, form_of, holds_positions, row_of}
use Rattle.rpg_program.specs.declared.form.FieldForm.{FieldForm}
use Rattle.rpg_program.specs.declared.form.Kind.{Kind}
use Rattle.rpg_program.specs.declared.form.Kind.TheVariants as kind
use Rattle.rpg_program.specs.declared.operation.Action.TheVariants.{Assign, Compare, Compute, CrossFoot, Divide, LookUp, Move, SetIndicators, TakeRemainder}
use Rattle.rpg_program.specs.declared.operation.Operand.{Operand}
use Rattle.rpg_program.specs.declared.operation.Operator.{Operator}
use Rattle.rpg_program.specs.declared.operation.Operator.TheVariants as operator
use Rattle.rpg_program.specs.declared.operation.Side.{Side}
use Rattle.rpg_program.specs.declared.operation.Side.TheVariants.{Left, Right}
use Rattle.rpg_program.specs.declared.row.Shape.{Shape}
use Rattle.rpg_program.specs.declared.row.Shape.TheVariants as shape
use Rattle.rpg_program.specs.declared.row.Use.{Use}
use Rattle.rpg_faults_flow.specs.Columns.{bad_last, bad_operation, bad_shown, misses}
use Rattle.rpg_faults_operands.specs.Columns.{bad_search, is_unordered, lacks_sequence}
use Rattle.rpg_faults_operands.specs.Indexes.{bad_index_of}
use Rattle.rpg_faults_operands.specs.Kinds.{finds_too_few, has_text, has_wrong_class, is_wrong_class, wrong_by, wrong_in_calculation, wrong_kinds, wrong_result}
use Rattle.rpg_faults_operands.specs.Names.{is_undefined, names_nothing}
use Rattle.rpg_faults_operands.specs.Operands as operands
use Rattle.rpg_faults_operands.specs.Operands.{card_entry_form, factor_entry, factor_form, field_content, is_field_content, no_operands, operand_with, operands_by, operands_listed, operands_of, result_form}
use Rattle.rpg_sheet_specs.specs.Three.{filled_count}
use Rattle.rpg_verify_rules.specs.Indicators.{are_settable, has_shows}
use Rattle.rpg_verify_rules.specs.PlaceRules.{is_form_ascending}
use Rattle.rpg_sheet_specs.specs.declared.calculation.CalculationSpec.{CalculationSpec}
use Rattle.rpg_sheet_specs.specs.declared.calculation.Operation.{Operation}
use Rattle.rpg_sheet_specs.specs.declared.calculation.Operation.TheVariants as op
use Rattle.rpg_sheet_specs.specs.declared.entry.Entry.{Entry}
use Rattle.rpg_sheet_specs.specs.declared.indicator.Three.{Three}
use Rattle.rpg_sheet_specs.specs.declared.literal.Factor.{Factor}
use Rattle.rpg_sheet_specs.specs.declared.literal.Factor.TheVariants as factor
use Rattle.rpg_compile_program.proofs.Entries as entries
use Rattle.rpg_compile_program.proofs.Entries.{shape_of}
use Rattle.rpg_compile_program.proofs.RightRows.{IsRightAct, IsRightStatement, IsRightUse, right_row}
use Rattle.rpg_compile_program.proofs.Lists.{none_in_option}

-- ---- Booleans, lists

last_of_three : (a b c : Bool) → a ≡ true → b ≡ true → ((a && b) && c) ≡ false → c ≡ false
last_of_three true true c x y e = e
last_of_three true false c x y e = cc
last_of_three false b c x y e = cc

in_sequence : (x y z : Bool) → y ≡ true → (x && (y && not z)) ≡ false → (not x || z) ≡ true
in_sequence false y z is e = refl
in_sequence true true z is e = not-false z e
in_sequence true false z is e = cc

some_shown : (t : Three (Option ℕ)) → (filled_count t == 0) ≡ false → has_shows (shows_of t) ≡ true
some_shown t e = by t.first t.second t.third e
  where
    by : (a b c : Option ℕ) → (option_len a + option_len b + option_len c == 0) ≡ false → (is_some a || (is_some b || is_some c)) ≡ true
    by None None None e = cc
    by None None (Some z) e = refl
    by None (Some y) c e = refl
    by (Some x) b c e = refl

none_in_both : {X : Type 0} (test : X → Bool) (xs ys : List X) → list_any test (xs ++ ys) ≡ false → (list_any test xs ≡ false) × (list_any test ys ≡ false)
none_in_both test xs ys e = or_parts _ _ (sym (list_any-append test xs ys) ∙ e)

-- of three operands none passes
pub record NoneOfThree {X : Type 0} (test : X → Bool) (t : Three (Option X)) : Type 0 where
  pub first : option_map_or test t.first false ≡ false
  pub second : option_map_or test t.second false ≡ false
  pub third : option_map_or test t.third false ≡ false

none_of_three : (test : operands.Operand → Bool) (t : Three (Option operands.Operand)) → list_any test (operands_listed t) ≡ false → NoneOfThree test t
none_of_three test t e =
    let two = none_in_both test (option_to_list t.first ++ option_to_list t.second) (option_to_list t.third) e in
    let one = none_in_both test (option_to_list t.first) (option_to_list t.second) two.0 in
    record { first = none_in_option test t.first one.0; second = none_in_option test t.second one.1; third = none_in_option test t.third two.1 }

module _ (cards : List SpecCard) (forms : Key → Option FieldForm)
    (named : (name : List ℕ) → forms (Named name) ≡ form_in (form_of_name name cards))
    (valid : (name : List ℕ) → is_undefined cards name ≡ false → has_field (form_in (form_of_name name cards)) ≡ true) where
  abbrev IsFit : Content → Option Factor → Type 0
  IsFit c f = entries.IsFit cards forms named valid c f

  abbrev HasForm : Factor → Type 0
  HasForm x = entries.HasForm cards forms named valid x

  abbrev Holds : Shape → Operand Key → Option FieldForm → Type 0
  Holds s o d = entries.Holds cards forms named valid s o d

  abbrev used : Operand Key → Kind → Shape → Use (Operand Key)
  used o k s = entries.used cards forms named valid o k s

  abbrev known : Factor → Option FieldForm
  known x = entries.form_of cards forms named valid x

  -- ---- what the rules of cards say of the columns of an operation

  pub record IsOperationFit (t : OperationColumns) (k : CalculationSpec) : Type 0 where
    pub filled_1 : misses t.factor_1 k.factor_1 ≡ false
    pub filled_2 : misses t.factor_2 k.factor_2 ≡ false
    pub filled_3 : misses t.result_field (option_map factor.Entry k.result_field) ≡ false
    pub shown : bad_shown t.indicators k.resulting_indicators ≡ false
    pub defined : NoneOfThree (names_nothing cards) (operands_by t k)
    pub indexed : NoneOfThree (bad_index_of cards) (operands_by t k)
    pub class_1 : has_wrong_class (field_content t.factor_1) (factor_form cards t.factor_1 k.factor_1) ≡ false
    pub class_2 : has_wrong_class (field_content t.factor_2) (factor_form cards t.factor_2 k.factor_2) ≡ false
    pub class_3 : has_wrong_class (field_content t.result_field) (result_form cards t.result_field k.result_field) ≡ false
    pub kinds : wrong_kinds t.kinds (factor_form cards t.factor_1 k.factor_1) (factor_form cards t.factor_2 k.factor_2) (result_form cards t.result_field k.result_field) ≡ false
    pub result : option_map_or (λ c. wrong_result c (factor_form cards t.factor_2 k.factor_2) (result_form cards t.result_field k.result_field)) (field_content t.result_field) false ≡ false
    pub sequence : is_unordered cards k t ≡ false
    pub literal_1 : ForSome k.factor_1 HasForm
    pub literal_2 : ForSome k.factor_2 HasForm
    pub settable : are_settable (shows_of k.resulting_indicators) ≡ true

  module _ (t : OperationColumns) (k : CalculationSpec) (h : IsOperationFit t k) where
    first_fit : (c : Content) → field_content t.factor_1 ≡ Some c → IsFit c k.factor_1
    first_fit c e = record {
      defined = sym (ap (λ x. option_map_or (names_nothing cards) (option_and_then (λ c. option_map (operand_with c) (option_and_then factor_entry k.factor_1)) x) false) e) ∙ h.defined.first;
      index = sym (ap (λ x. option_map_or (bad_index_of cards) (option_and_then (λ c. option_map (operand_with c) (option_and_then factor_entry k.factor_1)) x) false) e) ∙ h.indexed.first;
      right = sym (ap (λ x. has_wrong_class x (option_and_then (λ (c : Content). option_and_then known k.factor_1) x)) e) ∙ h.class_1;
      literal = h.literal_1;
    }

    second_fit : (c : Content) → field_content t.factor_2 ≡ Some c → IsFit c k.factor_2
    second_fit c e = record {
      defined = sym (ap (λ x. option_map_or (names_nothing cards) (option_and_then (λ c. option_map (operand_with c) (option_and_then factor_entry k.factor_2)) x) false) e) ∙ h.defined.second;
      index = sym (ap (λ x. option_map_or (bad_index_of cards) (option_and_then (λ c. option_map (operand_with c) (option_and_then factor_entry k.factor_2)) x) false) e) ∙ h.indexed.second;
      right = sym (ap (λ x. has_wrong_class x (option_and_then (λ (c : Content). option_and_then known k.factor_2) x)) e) ∙ h.class_2;
      literal = h.literal_2;
    }

    third_fit : (c : Content) → field_content t.result_field ≡ Some c → IsFit c (option_map factor.Entry k.result_field)
    third_fit c e = by k.result_field
        (sym (ap (λ x. option_map_or (names_nothing cards) (option_and_then (λ c. option_map (operand_with c) k.result_field) x) false) e) ∙ h.defined.third)
        (sym (ap (λ x. option_map_or (bad_index_of cards) (option_and_then (λ c. option_map (operand_with c) k.result_field) x) false) e) ∙ h.indexed.third)
        (sym (ap (λ x. has_wrong_class x (option_and_then (λ (c : Content). option_and_then (card_entry_form cards) k.result_field) x)) e) ∙ h.class_3)
      where
        by : (r : Option Entry) → option_map_or (names_nothing cards) (option_map (operand_with c) r) false ≡ false → option_map_or (bad_index_of cards) (option_map (operand_with c) r) false ≡ false
            → option_map_or (is_wrong_class c) (option_and_then (card_entry_form cards) r) false ≡ false → IsFit c (option_map factor.Entry r)
        by None defined index right = record { defined = refl; index = refl; right = refl; literal = λ x is. absurd cc }
        by (Some e) defined index right = record { defined = defined; index = index; right = right; literal = λ x is. let same : factor.Entry e ≡ x = cc in subst HasForm same tt }

    -- what stands in a column that must be filled is there
    first_holds : (c : Content) → is_field_content c ≡ true → field_content t.factor_1 ≡ Some c → misses (Must c) k.factor_1 ≡ false → Holds (shape_of c) (factor_1_operand k) (option_and_then known k.factor_1)
    first_holds c is e filled = entries.column_holds cards forms named valid c k.factor_1 is filled (first_fit c e)

    second_holds : (c : Content) → is_field_content c ≡ true → field_content t.factor_2 ≡ Some c → misses (Must c) k.factor_2 ≡ false → Holds (shape_of c) (factor_2_operand k) (option_and_then known k.factor_2)
    second_holds c is e filled = entries.column_holds cards forms named valid c k.factor_2 is filled (second_fit c e)

    third_holds : (c : Content) → is_field_content c ≡ true → field_content t.result_field ≡ Some c → misses (Must c) (option_map factor.Entry k.result_field) ≡ false
        → Holds (shape_of c) (result_operand k) (option_and_then (card_entry_form cards) k.result_field)
    third_holds c is e filled = entries.result_holds cards forms named valid c k.result_field is filled (third_fit c e)

  -- ---- operands of operations

  abbrev IsNumber : Operand Key → Type 0
  IsNumber o = IsRightUse forms (used o kind.Number shape.One)

  abbrev IsWritten : Operand Key → Type 0
  IsWritten o = may_write (forms o.field) ≡ true

  -- a blank factor 1 is the result field
  first_number : (f : Option Factor) (o : Operand Key) → IsFit Value f → has_text (option_and_then known f) ≡ false → IsNumber o → IsNumber (unwrap_or (option_map keys.factor_operand f) o)
  first_number None o h right number = number
  first_number (Some x) o h right number = entries.number_right cards forms named valid (entries.factor_holds cards forms named valid Value x refl h) right

  record AreThree (k : CalculationSpec) : Type 0 where
    factor_1 : IsNumber (first_or_result k)
    factor_2 : IsNumber (factor_2_operand k)
    number : IsNumber (result_operand k)
    written : IsWritten (result_operand k)

  three : (k : CalculationSpec) → IsOperationFit (card_columns op.Add) k → AreThree k
  three k h =
      let text = or_parts _ _ h.kinds in
      let factors = or_parts _ _ text.0 in
      let r = third_holds (card_columns op.Add) k h Value refl refl h.filled_3 in
      let number = entries.number_right cards forms named valid r text.1 in
      record {
        factor_1 = first_number k.factor_1 (result_operand k) (first_fit (card_columns op.Add) k h Value refl) factors.0 number;
        factor_2 = entries.number_right cards forms named valid (second_holds (card_columns op.Add) k h Value refl refl h.filled_2) factors.1;
        number = number;
        written = entries.result_written cards forms named valid r h.result;
      }

  record AreTwo (k : CalculationSpec) : Type 0 where
    factor_2 : IsNumber (factor_2_operand k)
    number : IsNumber (result_operand k)
    written : IsWritten (result_operand k)

  two : (k : CalculationSpec) → IsOperationFit (card_columns op.ZeroAdd) k → AreTwo k
  two k h =
      let text = or_parts _ _ h.kinds in
      let r = third_holds (card_columns op.ZeroAdd) k h Value refl refl h.filled_3 in
      record {
        factor_2 = entries.number_right cards forms named valid (second_holds (card_columns op.ZeroAdd) k h Value refl refl h.filled_2) text.0;
        number = entries.number_right cards forms named valid r text.1;
        written = entries.result_written cards forms named valid r h.result;
      }

  -- ---- operations

  computed : (k : CalculationSpec) (o : Operator) → IsOperationFit (card_columns op.Add) k → IsRightAct forms (Compute o k.half_adjust (first_or_result k) (factor_2_operand k) (result_operand k) (resulting_shows k))
  unfolding row_of holds_positions
  computed k o h =
      let t = three k h in
      record {
        row = right_row forms _ (record { factor1 = t.factor_1; factor2 = t.factor_2; result = t.number }) t.written refl refl;
        marked = h.settable;
        sought = refl;
      }

  divided : (k : CalculationSpec) → IsOperationFit (card_columns op.Divide) k → IsRightAct forms (Divide k.half_adjust (first_or_result k) (factor_2_operand k) (result_operand k) (resulting_shows k))
  unfolding row_of holds_positions
  divided k h =
      let t = three k h in
      record {
        row = right_row forms _ (record { factor1 = t.factor_1; factor2 = t.factor_2; result = t.number }) t.written refl refl;
        marked = h.settable;
        sought = refl;
      }

  assigned : (k : CalculationSpec) (negated : Bool) → IsOperationFit (card_columns op.ZeroAdd) k → IsRightAct forms (Assign negated k.half_adjust (factor_2_operand k) (result_operand k) (resulting_shows k))
  unfolding row_of holds_positions
  assigned k negated h =
      let t = two k h in
      record {
        row = right_row forms _ (record { factor1 = tt; factor2 = t.factor_2; result = t.number }) t.written refl refl;
        marked = h.settable;
        sought = refl;
      }

  remainder_taken : (k : CalculationSpec) → IsOperationFit (card_columns op.MoveRemainder) k → IsRightAct forms (TakeRemainder (result_operand k) (resulting_shows k))
  unfolding row_of holds_positions
  remainder_taken k h =
      let r = third_holds (card_columns op.MoveRemainder) k h Value refl refl h.filled_3 in
      record {
        row = right_row forms _ (record { factor1 = tt; factor2 = tt; result = entries.number_right cards forms named valid r h.kinds }) (entries.result_written cards forms named valid r h.result) refl refl;
        marked = h.settable;
        sought = refl;
      }

  cross_footed : (k : CalculationSpec) → IsOperationFit (card_columns op.CrossFoot) k → IsRightAct forms (CrossFoot k.half_adjust (factor_2_operand k) (result_operand k) (resulting_shows k))
  unfolding row_of holds_positions
  cross_footed k h =
      let text = or_parts _ _ h.kinds in
      let b = second_holds (card_columns op.CrossFoot) k h WholeArray refl refl h.filled_2 in
      let r = third_holds (card_columns op.CrossFoot) k h Value refl refl h.filled_3 in
      record {
        row = right_row forms _ (record { factor1 = tt; factor2 = entries.number_right cards forms named valid b text.0; result = entries.number_right cards forms named valid r text.1 })
            (entries.result_written cards forms named valid r h.result) refl refl;
        marked = h.settable;
        sought = refl;
      }

  moved : (k : CalculationSpec) (side : Side) → IsOperationFit (card_columns op.Move) k → IsRightAct forms (Move side (factor_2_operand k) (result_operand k))
  unfolding row_of holds_positions
  moved k side h =
      let b = second_holds (card_columns op.Move) k h Value refl refl h.filled_2 in
      let r = third_holds (card_columns op.Move) k h Value refl refl h.filled_3 in
      record {
        row = right_row forms _ (record { factor1 = tt; factor2 = entries.own_right cards forms named valid b; result = entries.own_right cards forms named valid r })
            (entries.result_written cards forms named valid r h.result) refl refl;
        marked = refl;
        sought = refl;
      }

  compared : (k : CalculationSpec) → IsOperationFit (card_columns op.Compare) k → IsRightAct forms (Compare (factor_1_operand k) (factor_2_operand k) (resulting_shows k))
  unfolding row_of holds_positions
  compared k h =
      let a = first_holds (card_columns op.Compare) k h Value refl refl h.filled_1 in
      let b = second_holds (card_columns op.Compare) k h Value refl refl h.filled_2 in
      record {
        row = right_row forms _ (record { factor1 = entries.own_right cards forms named valid a; factor2 = entries.like_right cards forms named valid a b h.kinds; result = tt }) refl refl refl;
        marked = and_from _ _ h.settable (some_shown k.resulting_indicators h.shown);
        sought = refl;
      }

  set : (k : CalculationSpec) (on : Bool) → IsOperationFit (card_columns op.SetOn) k → IsRightAct forms (SetIndicators on (resulting_shows k))
  unfolding row_of holds_positions
  set k on h = record {
    row = right_row forms _ (record { factor1 = tt; factor2 = tt; result = tt }) refl refl refl;
    marked = and_from _ _ h.settable (some_shown k.resulting_indicators h.shown);
    sought = refl;
  }

  -- ---- LOKUP

  module _ (k : CalculationSpec) (h : IsOperationFit (card_columns op.LookUp) k) where
    sought_value : Holds shape.One (factor_1_operand k) (option_and_then known k.factor_1)
    sought_value = first_holds (card_columns op.LookUp) k h Value refl refl h.filled_1

    table_searched : Holds shape.Searched (factor_2_operand k) (option_and_then known k.factor_2)
    table_searched = second_holds (card_columns op.LookUp) k h Searched refl refl h.filled_2

    abbrev form : FieldForm
    form = table_searched.form

    -- a table or an array is searched
    has_positions : (is_array form.class || is_table form.class) ≡ true
    has_positions = not-false _ (subst (λ (o : Option FieldForm). option_map_or (is_wrong_class Searched) o false ≡ false) table_searched.is (second_fit (card_columns op.LookUp) k h Searched refl).right)

    index_holds : can_hold forms (factor_2_operand k).index (entries_of (forms (factor_2_operand k).field)) ≡ true
    index_holds =
        ap (λ (o : Option FieldForm). can_hold forms (factor_2_operand k).index (entries_of o)) table_searched.leads
        ∙ entries.column_searches cards forms named valid k.factor_2 form table_searched.is (second_fit (card_columns op.LookUp) k h Searched refl)

    in_order : (not (is_some k.resulting_indicators.first || is_some k.resulting_indicators.second) || is_form_ascending (forms (factor_2_operand k).field)) ≡ true
    in_order =
        let ordered : ((is_some k.resulting_indicators.first || is_some k.resulting_indicators.second) && lacks_sequence form) ≡ false =
        subst (λ (o : Option FieldForm). ((is_some k.resulting_indicators.first || is_some k.resulting_indicators.second) && option_map_or lacks_sequence o false) ≡ false) table_searched.is h.sequence in
        ap (λ (o : Option FieldForm). not (is_some k.resulting_indicators.first || is_some k.resulting_indicators.second) || is_form_ascending o) table_searched.leads
        ∙ in_sequence _ _ _ has_positions ordered

    marks : (are_settable (resulting_shows k) && has_shows (resulting_shows k)) ≡ true
    marks = and_from _ _ h.settable (some_shown k.resulting_indicators (or_parts _ _ h.shown).0)

    looked_up : (r : Option Entry) → IsFit Table (option_map factor.Entry r) → finds_too_few (option_and_then known k.factor_2) (option_and_then (card_entry_form cards) r) ≡ false
        → IsRightAct forms (LookUp (factor_1_operand k) (factor_2_operand k) (option_map entry_operand r) (resulting_shows k))
    unfolding row_of holds_positions
    looked_up None fit enough = record {
      row = right_row forms _ (record { factor1 = entries.own_right cards forms named valid sought_value; factor2 = entries.like_right cards forms named valid sought_value table_searched h.kinds; result = tt })
          refl (or_parts _ _ h.shown).1 index_holds;
      marked = marks;
      sought = in_order;
    }
    looked_up (Some e) fit enough =
        let r = entries.factor_holds cards forms named valid Table (factor.Entry e) refl fit in
        let few : ((is_table r.form.class && (is_array form.class || is_table form.class)) && nat_lt r.form.entries form.entries) ≡ false =
        sym (λ i. finds_too_few (table_searched.is i) (r.is i)) ∙ enough in
        let less = ltb-false r.form.entries form.entries (last_of_three _ _ _ (and_parts _ _ r.shaped).0 has_positions few) in
        record {
          row = right_row forms _ (record {
            factor1 = entries.own_right cards forms named valid sought_value;
            factor2 = entries.like_right cards forms named valid sought_value table_searched h.kinds;
            result = entries.own_right cards forms named valid r;
          }) refl (or_parts _ _ h.shown).1
              (and_from _ _ index_holds ((λ i. nat_le (entries_of (table_searched.leads i)) (entries_of (r.leads i))) ∙ le-leb form.entries r.form.entries less));
          marked = marks;
          sought = in_order;
        }

  -- ---- all operations

  operation_right : (k : CalculationSpec) (o : Operation) → IsOperationFit (card_columns o) k → IsRightStatement forms (statement_by k o)
  operation_right k op.Add h = computed k operator.Add h
  operation_right k op.Subtract h = computed k operator.Subtract h
  operation_right k op.Multiply h = computed k operator.Multiply h
  operation_right k op.Divide h = divided k h
  operation_right k op.ZeroAdd h = assigned k false h
  operation_right k op.ZeroSubtract h = assigned k true h
  operation_right k op.MoveRemainder h = remainder_taken k h
  operation_right k op.CrossFoot h = cross_footed k h
  operation_right k op.Move h = moved k Right h
  operation_right k op.MoveLeft h = moved k Left h
  operation_right k op.Compare h = compared k h
  operation_right k op.LookUp h = looked_up k h k.result_field (third_fit (card_columns op.LookUp) k h Table refl) h.result
  operation_right k op.SetOn h = set k true h
  operation_right k op.SetOff h = set k false h
  operation_right k op.GoTo h = tt
  operation_right k op.Call h = tt
  operation_right k op.Label h = tt
  operation_right k op.BeginSubroutine h = tt
  operation_right k op.EndSubroutine h = tt
  operation_right k op.Except h = tt

  -- ---- cards

  -- what the rules of cards say of the last card of a group
  pub record IsCardFit (k : CalculationSpec) : Type 0 where
    pub filled : bad_last k ≡ false
    pub defined : list_any (names_nothing cards) (operands_listed (operands_of k)) ≡ false
    pub kinds : wrong_in_calculation cards k ≡ false
    pub indexed : list_any (bad_index_of cards) (operands_listed (operands_of k)) ≡ false
    pub sequence : bad_search cards k ≡ false
    pub literal_1 : ForSome k.factor_1 HasForm
    pub literal_2 : ForSome k.factor_2 HasForm
    pub settable : are_settable (shows_of k.resulting_indicators) ≡ true

  operation_fit : (k : CalculationSpec) (o : Operation) → k.operation ≡ Some o → IsCardFit k → IsOperationFit (card_columns o) k
  operation_fit k o is h =
      let filled : bad_operation k o ≡ false = subst (λ (x : Option Operation). option_map_or (bad_operation k) x true ≡ false) is h.filled in
      let first = or_parts (misses (card_columns o).factor_1 k.factor_1) _ filled in
      let second = or_parts (misses (card_columns o).factor_2 k.factor_2) _ first.1 in
      let third = or_parts (misses (card_columns o).result_field (option_map factor.Entry k.result_field)) _ second.1 in
      let wrong : wrong_by cards k (card_columns o) ≡ false = subst (λ (x : Option Operation). option_map_or (λ o. wrong_by cards k (card_columns o)) x false ≡ false) is h.kinds in
      let result = or_parts _ _ wrong in
      let kinds = or_parts _ _ result.0 in
      let class_3 = or_parts _ _ kinds.0 in
      let class_2 = or_parts _ _ class_3.0 in
      record {
        filled_1 = first.0;
        filled_2 = second.0;
        filled_3 = third.0;
        shown = third.1;
        defined = none_of_three (names_nothing cards) (operands_by (card_columns o) k) (subst (λ (x : Option Operation). list_any (names_nothing cards) (operands_listed (option_map_or (λ o. operands_by (card_columns o) k) x no_operands)) ≡ false) is h.defined);
        indexed = none_of_three (bad_index_of cards) (operands_by (card_columns o) k) (subst (λ (x : Option Operation). list_any (bad_index_of cards) (operands_listed (option_map_or (λ o. operands_by (card_columns o) k) x no_operands)) ≡ false) is h.indexed);
        class_1 = class_2.0;
        class_2 = class_2.1;
        class_3 = class_3.1;
        kinds = kinds.1;
        result = result.1;
        sequence = subst (λ (x : Option Operation). option_map_or (λ o. is_unordered cards k (card_columns o)) x false ≡ false) is h.sequence;
        literal_1 = h.literal_1;
        literal_2 = h.literal_2;
        settable = h.settable;
      }

  pub card_right : (k : CalculationSpec) → IsCardFit k → IsRightStatement forms (statement_of k)
  card_right k h = by k.operation refl
    where
      by : (x : Option Operation) → k.operation ≡ x → IsRightStatement forms (statement_from k x)
      by None is = tt
      by (Some o) is = operation_right k o (operation_fit k o is h)
