-- The instructions of calculations with nothing wrong break none of the rules on operands, results, indicators and tables.
use Rattle.std.proofs.Common.{◌≡◌, ℕ, suc, ◌+◌, ◌≤◌, Bool, true, false, not, cond, ◌||◌, List, [], ◌∷◌, ◌++◌, length, map, Option, None, Some, refl, sym, ap, ◌∙◌, subst, arith, nat_cmp}
use Rattle.std.proofs.lemmas.Bool.{and_from, not_from_false, not_from_true}
use Rattle.std.specs.Option.{ForSome}
use Rattle.std.specs.Prelude.{is_some}
use Rattle.rpg_cards.specs.Statements.{Acts, Begins, Calculation, Statement, Ends, Executes, GoesTo, Marks, Nothing, WritesExceptions, has_instruction, tests}
use Rattle.rpg_cards.specs.Keys.{Key, Name, key_cmp}
use Rattle.rpg_cards.specs.Plain.{Each}
use Rattle.rpg_cards.specs.Sections.{Sections, Subroutine}
use Rattle.rpg_compile_program.proofs.Each.{each_append, each_map, none_broken, none_in_both}
use Rattle.rpg_compile_program.specs.Code.{alternative_code, code_from, group_code, label_place, level_code, on_level, calculations_code, size, sizes, skip_code, step_code, subroutines_code, tests_code, waits}
use Rattle.rpg_compile_program.specs.Whole.{IsCodeOf, called_number}
use Rattle.rpg_program.specs.Control.{has_conditions}
use Rattle.rpg_program.specs.Forms.{form_at}
use Rattle.rpg_program.specs.Right.{KeepsRules}
use Rattle.rpg_program.specs.Rows.{all_used, form_of, holds_positions, is_two_sided, is_writable_use, row_of}
use Rattle.rpg_program.specs.declared.condition.Conditions.{Conditions}
use Rattle.rpg_program.specs.declared.form.FieldForm.{FieldForm}
use Rattle.rpg_program.specs.declared.operation.Action.{Action}
use Rattle.rpg_program.specs.declared.operation.Action.TheVariants.{Assign, Compare, Compute, CrossFoot, Divide, LookUp, Move, SetIndicators, TakeRemainder}
use Rattle.rpg_program.specs.declared.operation.Instruction.{Instruction}
use Rattle.rpg_program.specs.declared.operation.Instruction.TheVariants as made
use Rattle.rpg_program.specs.declared.operation.Operand.{Operand}
use Rattle.rpg_program.specs.declared.row.Use.{Use}
use Rattle.rpg_program.specs.ObjectInstructions.{columns}
use Rattle.rpg_program.specs.Object.{Object}
use Rattle.rpg_program.specs.declared.section.Section.{Section}
use Rattle.rpg_program.specs.declared.section.Section.TheVariants as section
use Rattle.rpg_program.proofs.Renaming.Rows.{right_same}
use Rattle.rpg_program.specs.Naming.{IsRenaming, renamed_action}
use Rattle.rpg_program.specs.declared.rows.Version.{Version}
use Rattle.rpg_verify_rules.proofs.Columns.{columns_same, kinds_same, written_same}
use Rattle.rpg_verify_rules.proofs.Kept.{NoneTrue}
use Rattle.rpg_verify_rules.specs.Indicators.{all_testable}
use Rattle.rpg_verify_rules.specs.PlaceRules.{are_marked, columns_of_kind, holds_found, is_ascending, is_form_ascending, is_ordered, is_searched_well, judged_after_detail, place_breaks, places_judged, section_judged, subroutines_judged}
use Rattle.rpg_verify_rules.specs.declared.rule.PlaceRule.{PlaceRule}
use Rattle.rpg_verify_rules.specs.declared.rule.PlaceRule.TheVariants.{V16, V17, V18, V19, V20, V21, V22}
use Rattle.rpg_compile_program.proofs.Conditions.{IsTested, low_is_testable}
use Rattle.rpg_compile_program.proofs.RightRows.{IsRightAct, IsRightStatement, ascends, is_sought_well, keeps_rules}

-- a rule on what an instruction has, and not on where it leads
abbrev pub IsOfColumns : PlaceRule → Type 0
IsOfColumns V16 = Unit {0}
IsOfColumns V17 = Unit {0}
IsOfColumns V18 = Unit {0}
IsOfColumns V19 = Unit {0}
IsOfColumns V20 = Unit {0}
IsOfColumns V21 = ⊥
IsOfColumns V22 = ⊥

-- a calculation with nothing wrong, in a program of that version
pub record IsRightCalculation (v : Version) (forms : Key → Option FieldForm) (g : Calculation Key) : Type 0 where
  pub tested : Each (Each (IsTested v)) g.alternatives
  pub level : ForSome g.level (λ n. n ≤ 110)
  pub statement : IsRightStatement forms g.statement

module _ (p : Object) (forms : Key → Option FieldForm) (number : Key → ℕ) (renames : IsRenaming key_cmp nat_cmp forms (form_at p.fields) number) where
  abbrev at : ℕ → Option FieldForm
  at n = form_at p.fields n

  abbrev pub IsKept : Instruction ℕ → Type 0
  IsKept i = (s : Section) (r : PlaceRule) → IsOfColumns r → place_breaks r p s i ≡ false

  -- ---- operations

  marks_same : (x : Action (Operand Key)) → are_marked (row_of (form_of at) (renamed_action number x)).marks ≡ are_marked (row_of (form_of forms) x).marks
  unfolding row_of
  marks_same (Compute f half a b r s) = refl
  marks_same (Divide half a b r s) = refl
  marks_same (Assign negated half b r s) = refl
  marks_same (TakeRemainder r s) = refl
  marks_same (CrossFoot half b r s) = refl
  marks_same (Compare a b s) = refl
  marks_same (LookUp a b r s) = refl
  marks_same (Move side b r) = refl
  marks_same (SetIndicators on s) = refl

  sought_same : (x : Action (Operand Key)) → is_sought_well at (row_of (form_of at) (renamed_action number x)) ≡ is_sought_well forms (row_of (form_of forms) x)
  unfolding row_of
  sought_same (Compute f half a b r s) = refl
  sought_same (Divide half a b r s) = refl
  sought_same (Assign negated half b r s) = refl
  sought_same (TakeRemainder r s) = refl
  sought_same (CrossFoot half b r s) = refl
  sought_same (Compare a b s) = refl
  sought_same (LookUp a b r s) = ap (λ (f : Option FieldForm). not (is_some s.plus || is_some s.minus) || is_form_ascending f) (renames.forms b.field)
  sought_same (Move side b r) = refl
  sought_same (SetIndicators on s) = refl

  ascending_same : (u : Option (Use (Operand ℕ))) → all_used (is_ascending p) u ≡ ascends at u
  ascending_same None = refl
  ascending_same (Some u) = refl

  searched_well : (x : Action (Operand Key)) → IsRightAct forms x → is_two_sided (row_of (form_of at) (renamed_action number x)).marks ≡ false → is_searched_well p (row_of (form_of at) (renamed_action number x)) ≡ true
  searched_well x h one_sided =
      let row = row_of (form_of at) (renamed_action number x) in
      and_from _ _ (not_from_false (is_two_sided row.marks) one_sided) (ap (λ b. not (is_ordered row.marks) || b) (ascending_same row.factor2) ∙ sought_same x ∙ h.sought)

  act_kept : (x : Action (Operand Key)) → IsRightAct forms x → IsKept (made.Act (renamed_action number x))
  unfolding place_breaks
  act_kept x h s r of = by r of
    where
      kept : KeepsRules at (row_of (form_of at) (renamed_action number x))
      kept = keeps_rules at (row_of (form_of at) (renamed_action number x)) (right_same renames x h.row)

      acted : Instruction ℕ
      acted = made.Act (renamed_action number x)

      same : columns_of_kind p acted ≡ columns p acted
      same = columns_same p acted kept.valid kept.kinds

      by : (r : PlaceRule) → IsOfColumns r → place_breaks r p s (made.Act (renamed_action number x)) ≡ false
      by V16 of = not_from_true _ kept.valid
      by V17 of = not_from_true _ (kinds_same p acted kept.valid ∙ kept.kinds)
      by V18 of = not_from_true _ (ap (λ r. all_used (is_writable_use at) r.result) same ∙ kept.result)
      by V19 of = not_from_true _ (and_from _ _ (marks_same x ∙ h.marked) (ap (is_searched_well p) same ∙ searched_well x h kept.one_sided))
      by V20 of = not_from_true _ (ap (holds_found p) (written_same p acted kept.valid kept.kinds kept.result) ∙ and_from _ _ kept.tables kept.positions)
      by V21 of = absurd of
      by V22 of = absurd of

  -- ---- other instructions

  branch_kept : (is_taken_where : Bool) (cs : Conditions) (target : ℕ) → all_testable p.version cs ≡ true → (is_taken_where || has_conditions cs) ≡ true → IsKept (made.Branch is_taken_where cs target)
  unfolding place_breaks holds_positions
  branch_kept is_taken_where cs target testable some s V16 of = refl
  branch_kept is_taken_where cs target testable some s V17 of = refl
  branch_kept is_taken_where cs target testable some s V18 of = refl
  branch_kept is_taken_where cs target testable some s V19 of = not_from_true _ (and_from _ _ (and_from _ _ testable some) refl)
  branch_kept is_taken_where cs target testable some s V20 of = refl
  branch_kept is_taken_where cs target testable some s V21 of = absurd of
  branch_kept is_taken_where cs target testable some s V22 of = absurd of

  except_kept : IsKept made.Except
  unfolding place_breaks holds_positions
  except_kept s V16 of = refl
  except_kept s V17 of = refl
  except_kept s V18 of = refl
  except_kept s V19 of = refl
  except_kept s V20 of = refl
  except_kept s V21 of = absurd of
  except_kept s V22 of = absurd of

  call_kept : (n : ℕ) → IsKept (made.Call n)
  unfolding place_breaks holds_positions
  call_kept n s V16 of = refl
  call_kept n s V17 of = refl
  call_kept n s V18 of = refl
  call_kept n s V19 of = refl
  call_kept n s V20 of = refl
  call_kept n s V21 of = absurd of
  call_kept n s V22 of = absurd of

  return_kept : (n : ℕ) → IsKept (made.Return n)
  unfolding place_breaks holds_positions
  return_kept n s V16 of = refl
  return_kept n s V17 of = refl
  return_kept n s V18 of = refl
  return_kept n s V19 of = refl
  return_kept n s V20 of = refl
  return_kept n s V21 of = absurd of
  return_kept n s V22 of = absurd of

  -- ---- a calculation's code

  skips_kept : (target : ℕ) (cs : List Conditions) → Each (IsTested p.version) cs → Each IsKept (map (skip_code target) cs)
  skips_kept target [] h = tt
  skips_kept target (c ∷ cs) h = (branch_kept false c target h.0.testable h.0.some, skips_kept target cs h.1)

  alternative_kept : (next operation : ℕ) (cs : List Conditions) → Each (IsTested p.version) cs → Each IsKept (alternative_code next operation cs)
  alternative_kept next operation [] h = tt
  alternative_kept next operation (c ∷ []) h = (branch_kept true c operation h.0.testable refl, tt)
  alternative_kept next operation (c ∷ d ∷ rest) h = (branch_kept false c next h.0.testable h.0.some, alternative_kept next operation (d ∷ rest) h.1)

  tests_kept : (place operation following : ℕ) (alts : List (List Conditions)) → Each (Each (IsTested p.version)) alts → Each IsKept (tests_code place operation following alts)
  tests_kept place operation following [] h = tt
  tests_kept place operation following (cs ∷ []) h = skips_kept following cs h.0
  tests_kept place operation following (cs ∷ ds ∷ rest) h =
      each_append IsKept (alternative_code (place + length cs) operation cs) (tests_code (place + length cs) operation following (ds ∷ rest)) (alternative_kept (place + length cs) operation cs h.0)
      (tests_kept (place + length cs) operation following (ds ∷ rest) h.1)

  level_kept : (following : ℕ) (o : Option ℕ) → ForSome o (λ n. n ≤ 110) → Each IsKept (level_code following o)
  level_kept following None h = tt
  level_kept following (Some n) h = let within = h n refl in (branch_kept false (on_level n) following (and_from _ _ (low_is_testable p.version n (omega arith)) refl) refl, tt)

  when_kept : (b : Bool) (code : List (Instruction ℕ)) → Each IsKept code → Each IsKept (cond b code [])
  when_kept true code h = h
  when_kept false code h = tt

  module _ (place_of callee_of : Option Name → ℕ) (own : ℕ) where
    step_kept : (d : Statement Key) → IsRightStatement forms d → Each IsKept (step_code number place_of callee_of own d)
    unfolding step_code
    step_kept (Acts x) h = (act_kept x h, tt)
    step_kept WritesExceptions h = (except_kept, tt)
    step_kept (GoesTo l) h = (branch_kept true _ (place_of l) refl refl, tt)
    step_kept (Executes n) h = (call_kept (callee_of n), tt)
    step_kept (Marks l) h = tt
    step_kept (Begins n) h = tt
    step_kept (Ends l) h = (return_kept own, tt)
    step_kept Nothing h = tt

    group_kept : (place : ℕ) (g : Calculation Key) → IsRightCalculation p.version forms g → Each IsKept (group_code number place_of callee_of own place g)
    unfolding group_code
    group_kept place g h =
        let waiting = level_code (place + size g) g.level in
        let asking = tests_code (place + waits g.level) (place + waits g.level + tests g.alternatives) (place + size g) g.alternatives in
        let doing = step_code number place_of callee_of own g.statement in
        when_kept (has_instruction g.statement) (waiting ++ (asking ++ doing))
        (each_append IsKept waiting (asking ++ doing) (level_kept (place + size g) g.level h.level)
        (each_append IsKept asking doing (tests_kept (place + waits g.level) (place + waits g.level + tests g.alternatives) (place + size g) g.alternatives h.tested) (step_kept g.statement h.statement)))

    code_kept : (place : ℕ) (gs : List (Calculation Key)) → Each (IsRightCalculation p.version forms) gs → Each IsKept (code_from number place_of callee_of own place gs)
    unfolding code_from
    code_kept place [] h = tt
    code_kept place (g ∷ gs) h =
        each_append IsKept (group_code number place_of callee_of own place g) (code_from number place_of callee_of own (place + size g) gs) (group_kept place g h.0) (code_kept (place + size g) gs h.1)

  -- ---- sections

  section_kept : (callee_of : Option Name → ℕ) (own first : ℕ) (gs : List (Calculation Key)) → Each (IsRightCalculation p.version forms) gs → Each IsKept (calculations_code number callee_of own first gs)
  unfolding calculations_code
  section_kept callee_of own first gs h = code_kept (λ l. label_place l gs first) callee_of own first gs h

  none_of_section : (s : Section) (r : PlaceRule) → IsOfColumns r → (code : List (Instruction ℕ)) → Each IsKept code → NoneTrue (map (place_breaks r p s) code)
  none_of_section s r of code h = none_broken (place_breaks r p s) code (each_map IsKept (λ i. place_breaks r p s i ≡ false) code (λ i kept. kept s r of) h)

  pub record AreRight (s : Sections Key) : Type 0 where
    pub detail : Each (IsRightCalculation p.version forms) s.detail
    pub total : Each (IsRightCalculation p.version forms) s.total
    pub subroutines : Each (λ (x : Subroutine Key). Each (IsRightCalculation p.version forms) x.body) s.subroutines

  module _ (level : ℕ → ℕ) (s : Sections Key) (code : IsCodeOf number level s p) (h : AreRight s) (r : PlaceRule) (of : IsOfColumns r) where
    none_of_subroutines : (n own first : ℕ) (ss : List (Subroutine Key)) → Each (λ (x : Subroutine Key). Each (IsRightCalculation p.version forms) x.body) ss
        → NoneTrue (subroutines_judged r p n (subroutines_code number (called_number s) level own first ss))
    unfolding subroutines_code
    none_of_subroutines n own first [] h = λ k e. absurd cc
    none_of_subroutines n own first (x ∷ ss) h =
        none_in_both (map (place_breaks r p (section.Subroutine n)) (calculations_code number (called_number s) own first x.body)) (subroutines_judged r p (n + 1) (subroutines_code number (called_number s) level (suc own) (first + sizes x.body) ss))
        (none_of_section (section.Subroutine n) r of (calculations_code number (called_number s) own first x.body) (section_kept (called_number s) own first x.body h.0))
        (none_of_subroutines (n + 1) (suc own) (first + sizes x.body) ss h.1)

    pub places_kept : NoneTrue (places_judged r p)
    places_kept =
        none_in_both (section_judged r p section.Detail) (judged_after_detail r p)
        (subst (λ is. NoneTrue (map (place_breaks r p section.Detail) is)) (sym code.detail) (none_of_section section.Detail r of (calculations_code number (called_number s) 0 0 s.detail) (section_kept (called_number s) 0 0 s.detail h.detail)))
        (none_in_both (section_judged r p section.Total) (subroutines_judged r p 0 p.subroutines)
        (subst (λ is. NoneTrue (map (place_breaks r p section.Total) is)) (sym code.total)
        (none_of_section section.Total r of (calculations_code number (called_number s) 0 (sizes s.detail) s.total) (section_kept (called_number s) 0 (sizes s.detail) s.total h.total)))
        (subst (λ rows. NoneTrue (subroutines_judged r p 0 rows)) (sym code.subroutines) (none_of_subroutines 0 0 (sizes s.detail + sizes s.total) s.subroutines h.subroutines)))
