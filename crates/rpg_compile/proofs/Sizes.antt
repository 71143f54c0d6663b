-- Cards become at most three times as many instructions.
use Rattle.std.proofs.Common.{◌≡◌, ℕ, suc, ◌+◌, ◌*◌, ◌≤◌, Bool, true, false, cond, List, [], ◌∷◌, ◌++◌, length, Option, None, Some, refl, ap, arith, append-nil, length-append}
use Rattle.std.proofs.lemmas.Grind.{flat_map-append}
use Rattle.std.specs.List.{flat_map}
use Rattle.std.specs.Option.{option_map, option_map_or, option_to_list}
use Rattle.rpg_cards.specs.Calculations.{CalculationGroup, alone, alternatives, awaited_level, calculation_of, calculations, calculations_from, conditions_on, continues, group_with, is_or, joined_group, last_card, tests_on}
use Rattle.rpg_cards.specs.Statements.{Calculation, statement_of, has_instruction, tests}
use Rattle.rpg_cards.specs.Keys.{Key, Name}
use Rattle.rpg_cards.specs.Sections.{Subroutine, begun_by, is_detail, is_subroutine, is_total, of_control, subroutines_of, unless_begun, up_to_begin, with_begun}
use Rattle.rpg_cards.specs.Cards.{calculation_on}
use Rattle.rpg_cards.specs.Groups.{joins}
use Rattle.rpg_cards.specs.declared.spec_card.SpecCard.{SpecCard}
use Rattle.rpg_compile_program.specs.Code.{size, sizes, waits}
use Rattle.rpg_program.specs.Control.{has_conditions}
use Rattle.rpg_program.specs.declared.condition.Conditions.{Conditions}
use Rattle.rpg_compile.proofs.Walk.{after_group, closed, opened}
use Rattle.rpg_compile.specs.Numbers.{body_sizes}
use Rattle.rpg_compile.specs.Walk.{section_in, subroutines_in}
use Rattle.rpg_compile.specs.declared.part.Part.TheVariants.{Detail, Total}
use Rattle.rpg_sheet_specs.specs.declared.calculation.CalculationSpec.{CalculationSpec}
use Rattle.rpg_sheet_specs.specs.declared.calculation.ControlLevel.{ControlLevel}
use Rattle.rpg_sheet_specs.specs.declared.calculation.ControlLevel.TheVariants as control

-- ---- tests

one_test : (k : CalculationSpec) → length (tests_on k) ≤ 1
one_test k = by (has_conditions (conditions_on k))
  where
    by : (b : Bool) → length (cond b (conditions_on k ∷ []) []) ≤ 1
    by true = omega arith
    by false = omega arith

tests_sum : (so_far : List Conditions) (ks : List CalculationSpec) → tests (alternatives so_far ks) ≡ length so_far + length (flat_map tests_on ks)
tests_sum so_far [] = refl
tests_sum so_far (k ∷ ks) = by_or (is_or k.control_level) (λ s. tests_sum s ks)
  where
    by_or : (b : Bool) → ((s : List Conditions) → tests (alternatives s ks) ≡ length s + length (flat_map tests_on ks))
        → tests (cond b (so_far ∷ alternatives (tests_on k) ks) (alternatives (so_far ++ tests_on k) ks)) ≡ length so_far + length (tests_on k ++ flat_map tests_on ks)
    by_or true rest = let here = rest (tests_on k) in let both = length-append (tests_on k) (flat_map tests_on ks) in omega arith
    by_or false rest = let here = rest (so_far ++ tests_on k) in let front = length-append so_far (tests_on k) in let both = length-append (tests_on k) (flat_map tests_on ks) in omega arith

abbrev pub tests_of : CalculationGroup → ℕ
tests_of g = tests (alternatives (tests_on g.first) g.followers)

one_alone : (k : CalculationSpec) → tests_of (alone k) ≤ 1
one_alone k = let sum = tests_sum (tests_on k) [] in let one = one_test k in omega arith

one_joined : (g : CalculationGroup) (k : CalculationSpec) → tests_of (joined_group g k) ≤ tests_of g + 1
one_joined g k =
    let before = tests_sum (tests_on g.first) g.followers in
    let after = tests_sum (tests_on g.first) (g.followers ++ k ∷ []) in
    let split = ap length (flat_map-append tests_on g.followers (k ∷ [])) in
    let both = length-append (flat_map tests_on g.followers) (flat_map tests_on (k ∷ [])) in
    let last = ap length (append-nil (tests_on k)) in
    let one = one_test k in
    omega (arith, before, after, split, both, last, one)

small : (g : CalculationGroup) → size (calculation_of g) ≤ tests_of g + 2
unfolding size
small g = by (has_instruction (statement_of (last_card g))) (one_wait (awaited_level g.first.control_level))
  where
    one_wait : (o : Option ℕ) → waits o ≤ 1
    one_wait None = omega arith
    one_wait (Some n) = omega arith

    by : (b : Bool) → waits (awaited_level g.first.control_level) ≤ 1 → cond b (waits (awaited_level g.first.control_level) + tests_of g + 1) 0 ≤ tests_of g + 2
    by true h = omega arith
    by false h = omega arith

-- ---- all calculations

-- the tests of the open group, where it continues
abbrev pub pending : Option CalculationGroup → Bool → ℕ
pending None b = 0
pending (Some g) b = cond b (tests_of g) 0

-- a C card, after an open group
one_card : (o : Option CalculationGroup) (k : CalculationSpec) → tests_of (group_with o k) ≤ pending o (joins k.control_level) + 1
one_card None k = one_alone k
one_card (Some g) k = by (joins k.control_level)
  where
    by : (b : Bool) → tests_of (cond b (joined_group g k) (alone k)) ≤ cond b (tests_of g) 0 + 1
    by true = one_joined g k
    by false = let one = one_alone k in omega arith

abbrev emitted : CalculationGroup → List SpecCard → Bool → List (Calculation Key)
emitted h cs b = option_to_list (option_map calculation_of (cond b None (Some h))) ++ calculations_from (Some h) cs []

by_group : (h : CalculationGroup) (cs : List SpecCard) (b : Bool) (pend : ℕ) → continues cs ≡ b → tests_of h ≤ pend + 1 → sizes (calculations_from (Some h) cs []) ≤ 3 * length cs + cond b (tests_of h) 0
    → sizes (after_group h cs) ≤ 3 * suc (length cs) + pend
by_group h cs true pend goes few rest =
    let same : sizes (after_group h cs) ≡ sizes (calculations_from (Some h) cs []) = ap (λ b. sizes (emitted h cs b)) goes in
    omega (arith, same, few, rest)
by_group h cs false pend goes few rest =
    let same : sizes (after_group h cs) ≡ size (calculation_of h) + sizes (calculations_from (Some h) cs []) = ap (λ b. sizes (emitted h cs b)) goes in
    let here = small h in
    omega (arith, same, few, rest, here)

all_small : (o : Option CalculationGroup) (cs : List SpecCard) → sizes (calculations_from o cs []) ≤ 3 * length cs + pending o (continues cs)
all_small o [] = omega arith
all_small o (c ∷ cs) = by_card (calculation_on c.spec) refl (λ p. all_small p cs)
  where
    by_card : (p : Option CalculationSpec) → calculation_on c.spec ≡ p → ((q : Option CalculationGroup) → sizes (calculations_from q cs []) ≤ 3 * length cs + pending q (continues cs))
        → sizes (calculations_from o (c ∷ cs) []) ≤ 3 * length (c ∷ cs) + pending o (continues (c ∷ cs))
    by_card None is rest =
        let same = ap sizes (closed o c cs (ap (option_map (group_with o)) is)) in
        let all = rest None in
        omega (arith, same, all)
    by_card (Some k) is rest =
        let same = ap sizes (opened o c cs (group_with o k) (ap (option_map (group_with o)) is)) in
        let joined_so : pending o (continues (c ∷ cs)) ≡ pending o (joins k.control_level) = ap (pending o) (ap (λ p. option_map_or (λ k. joins k.control_level) p false) is) in
        let all = by_group (group_with o k) cs (continues cs) (pending o (joins k.control_level)) refl (one_card o k) (rest (Some (group_with o k))) in
        omega (arith, same, joined_so, all)

-- ---- sections

-- each calculation is in one section
apart : (gs : List (Calculation Key)) → sizes (of_control is_detail gs) + sizes (of_control is_total gs) + sizes (of_control is_subroutine gs) ≤ sizes gs
apart [] = omega arith
apart (g ∷ gs) = by_control g.control (apart gs)
  where
    by_control : (l : ControlLevel) → sizes (of_control is_detail gs) + sizes (of_control is_total gs) + sizes (of_control is_subroutine gs) ≤ sizes gs
        → sizes (cond (is_detail l) (g ∷ of_control is_detail gs) (of_control is_detail gs)) + sizes (cond (is_total l) (g ∷ of_control is_total gs) (of_control is_total gs))
        + sizes (cond (is_subroutine l) (g ∷ of_control is_subroutine gs) (of_control is_subroutine gs)) ≤ size g + sizes gs
    by_control control.Detail rest = omega arith
    by_control (control.Total n) rest = omega arith
    by_control control.Subroutine rest = omega arith
    by_control control.And rest = omega arith
    by_control control.Or rest = omega arith

-- and in one subroutine at most
bodies : (gs : List (Calculation Key)) → sizes (up_to_begin gs) + body_sizes (subroutines_of gs) ≤ sizes gs
bodies [] = omega arith
bodies (g ∷ gs) = by_begin (begun_by g.statement) (bodies gs)
  where
    by_begin : (o : Option (Option Name)) → sizes (up_to_begin gs) + body_sizes (subroutines_of gs) ≤ sizes gs
        → sizes (unless_begun o (g ∷ up_to_begin gs)) + body_sizes (with_begun o (up_to_begin gs) (subroutines_of gs)) ≤ size g + sizes gs
    by_begin None rest = omega arith
    by_begin (Some n) rest = omega arith

pub all_sizes : (cards : List SpecCard) → sizes (section_in Detail cards) + sizes (section_in Total cards) + body_sizes (subroutines_in cards) ≤ 3 * length cards
all_sizes cards =
    let all = all_small None cards in
    let sections = apart (calculations cards) in
    let subroutines = bodies (of_control is_subroutine (calculations cards)) in
    omega (arith, all, sections, subroutines)
