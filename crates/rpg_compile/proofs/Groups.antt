-- What the cards of a group say together.
use Rattle.std.proofs.Common.{◌≡◌, ◌+◌, Bool, true, false, cond, List, [], ◌∷◌, ◌++◌, length, Option, None, Some, refl, sym, ap, ◌∙◌, arith, append-nil, length-append}
use Rattle.std.specs.List.{cons_option}
use Rattle.std.specs.Option.{option_map_or}
use Rattle.rpg_cards.specs.Calculations.{alternatives, awaited_level, calculation_of, is_or, last_card, tests_on}
use Rattle.rpg_cards.specs.Statements.{statement_of, has_instruction, tests}
use Rattle.rpg_cards.specs.Cards.{calculation_on, calculation_specs_in}
use Rattle.rpg_cards.specs.declared.spec_card.SpecCard.{SpecCard}
use Rattle.rpg_compile_program.specs.Code.{size, waits}
use Rattle.rpg_program.specs.declared.condition.Conditions.{Conditions}
use Rattle.rpg_compile.specs.Tests.{alternatives_from, alternatives_in, begins_alternative, tests_at, tests_in}
use Rattle.rpg_compile.specs.Walk.{first_calculation, group_of, size_with}
use Rattle.rpg_sheet_specs.specs.declared.calculation.CalculationSpec.{CalculationSpec}

-- ---- alternatives

alternatives_are : (so_far : List Conditions) (cards : List SpecCard) → alternatives_from so_far cards ≡ alternatives so_far (calculation_specs_in cards)
alternatives_are so_far [] = refl
alternatives_are so_far (c ∷ cs) = by_card (calculation_on c.spec) (λ s. alternatives_are s cs)
  where
    by_or : (k : CalculationSpec) (b : Bool) → ((s : List Conditions) → alternatives_from s cs ≡ alternatives s (calculation_specs_in cs))
        → cond b (so_far ∷ alternatives_from (tests_on k) cs) (alternatives_from (so_far ++ tests_on k) cs) ≡ cond b (so_far ∷ alternatives (tests_on k) (calculation_specs_in cs)) (alternatives (so_far ++ tests_on k) (calculation_specs_in cs))
    by_or k true rest = ap (λ alts. so_far ∷ alts) (rest (tests_on k))
    by_or k false rest = rest (so_far ++ tests_on k)

    by_card : (o : Option CalculationSpec) → ((s : List Conditions) → alternatives_from s cs ≡ alternatives s (calculation_specs_in cs))
        → cond (option_map_or (λ k. is_or k.control_level) o false) (so_far ∷ alternatives_from (option_map_or tests_on o []) cs) (alternatives_from (so_far ++ option_map_or tests_on o []) cs)
        ≡ alternatives so_far (cons_option o (calculation_specs_in cs))
    by_card None rest = ap (λ ts. alternatives_from ts cs) (append-nil so_far) ∙ rest so_far
    by_card (Some k) rest = by_or k (is_or k.control_level) rest

tests_are : (so_far : List Conditions) (cards : List SpecCard) → tests (alternatives_from so_far cards) ≡ length so_far + length (tests_in cards)
tests_are so_far [] = refl
tests_are so_far (c ∷ cs) = by_or (begins_alternative c) (λ s. tests_are s cs)
  where
    by_or : (b : Bool) → ((s : List Conditions) → tests (alternatives_from s cs) ≡ length s + length (tests_in cs))
        → tests (cond b (so_far ∷ alternatives_from (tests_at c) cs) (alternatives_from (so_far ++ tests_at c) cs)) ≡ length so_far + length (tests_at c ++ tests_in cs)
    by_or true rest =
        let here = rest (tests_at c) in
        let both = length-append (tests_at c) (tests_in cs) in
        omega arith
    by_or false rest =
        let here = rest (so_far ++ tests_at c) in
        let front = length-append so_far (tests_at c) in
        let both = length-append (tests_at c) (tests_in cs) in
        omega arith

-- ---- a group

tests_of_first : (first : CalculationSpec) (c : SpecCard) → calculation_on c.spec ≡ Some first → tests_at c ≡ tests_on first
tests_of_first first c is = ap (λ o. option_map_or tests_on o []) is

pub group_alternatives : (first : CalculationSpec) (cards : List SpecCard) → first_calculation cards ≡ Some first → alternatives_in cards ≡ (calculation_of (group_of first cards)).alternatives
group_alternatives first [] is = absurd cc
group_alternatives first (c ∷ cs) is = alternatives_are (tests_at c) cs ∙ ap (λ ts. alternatives ts (calculation_specs_in cs)) (tests_of_first first c is)

pub group_tests : (first : CalculationSpec) (cards : List SpecCard) → first_calculation cards ≡ Some first → tests (calculation_of (group_of first cards)).alternatives ≡ length (tests_in cards)
group_tests first [] is = absurd cc
group_tests first (c ∷ cs) is =
    ap tests (sym (group_alternatives first (c ∷ cs) is)) ∙ tests_are (tests_at c) cs ∙ sym (length-append (tests_at c) (tests_in cs))

-- ---- sizes

pub size_of_instruction : (first : CalculationSpec) (cards : List SpecCard) → first_calculation cards ≡ Some first → has_instruction (statement_of (last_card (group_of first cards))) ≡ true
    → size (calculation_of (group_of first cards)) ≡ size_with first cards
unfolding size
size_of_instruction first cards is has =
    ap (λ b. cond b (waits (awaited_level first.control_level) + tests (calculation_of (group_of first cards)).alternatives + 1) 0) has
    ∙ ap (λ n. waits (awaited_level first.control_level) + n + 1) (group_tests first cards is)

pub size_of_nothing : (first : CalculationSpec) (cards : List SpecCard) → has_instruction (statement_of (last_card (group_of first cards))) ≡ false → size (calculation_of (group_of first cards)) ≡ 0
unfolding size
size_of_nothing first cards has = ap (λ b. cond b (waits (awaited_level first.control_level) + tests (calculation_of (group_of first cards)).alternatives + 1) 0) has
