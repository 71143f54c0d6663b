-- What the operation of a group becomes.
use Rattle.std.proofs.Common.{◌≡◌, ℕ, ◌+◌, true, false, cond, List, [], ◌∷◌, ◌++◌, length, Option, Some, refl, sym, ap, ◌∙◌, append-nil, append_assoc}
use Rattle.std.specs.Option.{option_map}
use Rattle.rpg_cards.specs.Calculations.{CalculationGroup, awaited_level, calculation_of, last_card}
use Rattle.rpg_cards.specs.Statements.{Acts, Begins, Calculation, Statement, Ends, Executes, GoesTo, Marks, Nothing, WritesExceptions, statement_of, has_instruction, tests}
use Rattle.rpg_cards.specs.Keys.{Key, Name}
use Rattle.rpg_cards.specs.declared.spec_card.SpecCard.{SpecCard}
use Rattle.rpg_compile_program.specs.Code.{code_from, group_code, level_code, size, step_code, tests_code, waits}
use Rattle.rpg_program.specs.declared.operation.Action.{Action}
use Rattle.rpg_program.specs.declared.operation.Instruction.TheVariants as made
use Rattle.rpg_program.specs.declared.operation.Operand.{Operand}
use Rattle.rpg_program.specs.declared.condition.Conditions.{Conditions}
use Rattle.rpg_program.specs.declared.operation.Instruction.{Instruction}
use Rattle.rpg_compile.proofs.Groups.{group_alternatives, group_tests, size_of_instruction}
use Rattle.rpg_compile.specs.Steps.{action_in, code_of_group}
use Rattle.rpg_compile.specs.Tests.{alternatives_in, tests_in}
use Rattle.rpg_compile.specs.Walk.{first_calculation, group_of, size_with}
use Rattle.rpg_program.specs.Naming.{renamed_action}
use Rattle.rpg_sheet_specs.specs.declared.calculation.CalculationSpec.{CalculationSpec}

pub acted : (number : Key → ℕ) (place_of callee_of : Option Name → ℕ) (own : ℕ) (d : Statement Key) (a : Action (Operand ℕ)) → Some a ≡ option_map (renamed_action number) (action_in d)
    → made.Act a ∷ [] ≡ step_code number place_of callee_of own d
unfolding step_code
acted number place_of callee_of own (Acts b) a is = let same : a ≡ renamed_action number b = cc in ap (λ x. made.Act x ∷ []) same
acted number place_of callee_of own WritesExceptions a is = absurd cc
acted number place_of callee_of own (GoesTo l) a is = absurd cc
acted number place_of callee_of own (Executes n) a is = absurd cc
acted number place_of callee_of own (Marks l) a is = absurd cc
acted number place_of callee_of own (Begins n) a is = absurd cc
acted number place_of callee_of own (Ends l) a is = absurd cc
acted number place_of callee_of own Nothing a is = absurd cc

module _ (number : Key → ℕ) (place_of callee_of : Option Name → ℕ) (own : ℕ) where
  abbrev pub steps : Statement Key → List (Instruction ℕ)
  steps d = step_code number place_of callee_of own d

  has_none : (d : Statement Key) → [] ≡ steps d → has_instruction d ≡ false
  unfolding step_code
  has_none (Acts a) is = absurd cc
  has_none WritesExceptions is = absurd cc
  has_none (GoesTo l) is = absurd cc
  has_none (Executes n) is = absurd cc
  has_none (Marks l) is = refl
  has_none (Begins n) is = refl
  has_none (Ends l) is = absurd cc
  has_none Nothing is = refl

  pub has_one : (d : Statement Key) (i : Instruction ℕ) → i ∷ [] ≡ steps d → has_instruction d ≡ true
  unfolding step_code
  has_one (Acts a) i is = refl
  has_one WritesExceptions i is = refl
  has_one (GoesTo l) i is = refl
  has_one (Executes n) i is = refl
  has_one (Marks l) i is = absurd cc
  has_one (Begins n) i is = absurd cc
  has_one (Ends l) i is = refl
  has_one Nothing i is = absurd cc

  -- ---- groups

  module _ (place : ℕ) (g : CalculationGroup) where
    alternatives : List (List Conditions)
    alternatives = (calculation_of g).alternatives

    level : Option ℕ
    level = awaited_level g.first.control_level

    whole : ℕ → List (Instruction ℕ)
    whole s = level_code (place + s) level ++ (tests_code (place + waits level) (place + waits level + tests alternatives) (place + s) alternatives ++ steps (statement_of (last_card g)))

    pub group_of_nothing : [] ≡ steps (statement_of (last_card g)) → group_code number place_of callee_of own place (calculation_of g) ≡ []
    unfolding group_code alternatives level whole
    group_of_nothing none = ap (λ b. cond b (whole (size (calculation_of g))) []) (has_none (statement_of (last_card g)) none)

    has_whole : (i : Instruction ℕ) → i ∷ [] ≡ steps (statement_of (last_card g)) → group_code number place_of callee_of own place (calculation_of g) ≡ whole (size (calculation_of g))
    unfolding group_code alternatives level whole
    has_whole i one = ap (λ b. cond b (whole (size (calculation_of g))) []) (has_one (statement_of (last_card g)) i one)

  pub group_of_one : (place : ℕ) (first : CalculationSpec) (cards : List SpecCard) (i : Instruction ℕ) → first_calculation cards ≡ Some first → i ∷ [] ≡ steps (statement_of (last_card (group_of first cards)))
      → group_code number place_of callee_of own place (calculation_of (group_of first cards)) ≡ code_of_group place first cards i
  unfolding alternatives level whole
  group_of_one place first cards i is one =
      let g = group_of first cards in
      let waited = waits (awaited_level first.control_level) in
      has_whole place g i one
      ∙ ap (whole place g) (size_of_instruction first cards is (has_one (statement_of (last_card g)) i one))
      ∙ ap (λ n. level_code (place + size_with first cards) (awaited_level first.control_level) ++ (tests_code (place + waited) (place + waited + n) (place + size_with first cards) (calculation_of g).alternatives ++ steps (statement_of (last_card g)))) (group_tests first cards is)
      ∙ ap (λ alts. level_code (place + size_with first cards) (awaited_level first.control_level) ++ (tests_code (place + waited) (place + waited + length (tests_in cards)) (place + size_with first cards) alts ++ steps (statement_of (last_card g)))) (sym (group_alternatives first cards is))
      ∙ ap (λ is. level_code (place + size_with first cards) (awaited_level first.control_level) ++ (tests_code (place + waited) (place + waited + length (tests_in cards)) (place + size_with first cards) (alternatives_in cards) ++ is)) (sym one)

  -- ---- sections

  -- a group is put after the code, and the others are left
  pub one_more : (now new all : List (Instruction ℕ)) (place : ℕ) (g : Calculation Key) (rest following : List (Calculation Key)) → rest ≡ g ∷ following → new ≡ now ++ group_code number place_of callee_of own place g
      → now ++ code_from number place_of callee_of own place rest ≡ all → new ++ code_from number place_of callee_of own (place + size g) following ≡ all
  unfolding code_from
  one_more now new all place g rest following split made so_far =
      ap (λ is. is ++ code_from number place_of callee_of own (place + size g) following) made
      ∙ append_assoc now (group_code number place_of callee_of own place g) (code_from number place_of callee_of own (place + size g) following)
      ∙ ap (λ gs. now ++ code_from number place_of callee_of own place gs) (sym split) ∙ so_far

  pub none_left : (now all : List (Instruction ℕ)) (place : ℕ) (rest : List (Calculation Key)) → rest ≡ [] → now ++ code_from number place_of callee_of own place rest ≡ all → now ≡ all
  unfolding code_from
  none_left now all place rest none so_far = sym (append-nil now) ∙ ap (λ gs. now ++ code_from number place_of callee_of own place gs) (sym none) ∙ so_far
