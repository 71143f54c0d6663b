-- Path costs are the greatest sums, and `most` is above the costs that a spend leads to.
use Rattle.std.proofs.Common.{◌≡◌, ℕ, zero, suc, ◌+◌, ◌-◌, ◌≤◌, Bool, true, false, cond, List, [], ◌∷◌, length, Some, slice_get, refl, sym, ap, ◌∙◌, subst, arith}
use Rattle.std.specs.Prelude.{nat_le, slice_index}
use Rattle.std.proofs.lemmas.Bool.{le-leb}
use Rattle.rpg_program.specs.declared.condition.Conditions.{Conditions}
use Rattle.rpg_program.specs.declared.operation.Instruction.{Instruction}
use Rattle.rpg_program.specs.declared.operation.Instruction.TheVariants.{Branch}
use Rattle.rpg_program.specs.ObjectInstructions.{weight}
use Rattle.rpg_program.specs.Kept.{IsProgram}
use Rattle.rpg_program.specs.Object.{Object, SubroutineRow}
use Rattle.rpg_program.specs.Sections.{body_of, first_in, first_place, instruction_at, section_instructions}
use Rattle.rpg_program.specs.declared.section.Place.{Place}
use Rattle.rpg_program.specs.declared.section.Section.{Section}
use Rattle.rpg_program.specs.declared.section.Section.TheVariants.{Detail, Total, Subroutine}
use Rattle.rpg_verify_rules.specs.Sound.{IsAt}
use Rattle.rpg_verify.proofs.PathCosts.{costs_are}
use Rattle.rpg_verify.proofs.Placing.{cost_there}
use Rattle.rpg_verify.proofs.Sizes.{bound_few}
use Rattle.rpg_verify.specs.Bound.{back_cost, cost, cost_in, costs_at, most, most_at, most_back, most_called, most_in, code_of_section}
use Rattle.rpg_verify.specs.Greatest.{AreGreatest}
use Rattle.rpg_verify.specs.Paths.{IsCost}

pub greatest_at : (p : Object) (x : Place) → first_place p x.section ≤ x.number → IsCost (weight p) (code_of_section p x.section) x.number (cost p x)
greatest_at p x low = subst (IsCost (weight p) (code_of_section p x.section) x.number) (sym (cost_there p x low)) (costs_are (weight p) (first_place p x.section) (section_instructions p x.section) x.number low)

-- ---- targets of branches

one_back : (first : ℕ) (costs : List ℕ) (place : ℕ) (code : List (Instruction ℕ)) (k : ℕ) (i : Instruction ℕ) → slice_get code k ≡ Some i → back_cost first costs (place + k) i ≤ most_back first costs place code
one_back first costs place [] k i e = absurd (cc)
one_back first costs place (j ∷ js) zero i e = here same
  where
    same : j ≡ i
    same = cc

    here : j ≡ i → back_cost first costs (place + 0) i ≤ most_back first costs place (j ∷ js)
    here e =
        let own : back_cost first costs (place + 0) i ≡ back_cost first costs place j = ap (λ n. back_cost first costs n i) (omega arith) ∙ ap (back_cost first costs place) (sym e) in
        omega (arith, own)
one_back first costs place (j ∷ js) (suc k) i e =
    let later = one_back first costs (place + 1) js k i e in
    let own : back_cost first costs (place + suc k) i ≡ back_cost first costs (place + 1 + k) i = ap (λ n. back_cost first costs n i) (omega arith) in
    omega (arith, own, later)

-- a subroutine's is no more than that of all
sub_most : (p : Object) (b : ℕ) (ss : List SubroutineRow) (n : ℕ) → most_called p (first_in b ss n) (body_of (slice_get ss n)) ≤ most_in p b ss
sub_most p b [] n = omega arith
sub_most p b (s ∷ ss) zero = omega arith
sub_most p b (s ∷ ss) (suc n) = let h = sub_most p (b + length s.instructions) ss n in omega (arith, h)

section_most : (p : Object) (s : Section) → most_at p (first_place p s) (section_instructions p s) ≤ most p
unfolding first_place
section_most p Detail = omega arith
section_most p Total = omega arith
section_most p (Subroutine n) = let h = sub_most p (length p.detail + length p.total) p.subroutines n in omega (arith, h)

back : (p : Object) (x : Place) (k : Bool) (cs : Conditions) (target : ℕ) → IsAt p x (Branch k cs target) → target ≤ x.number → cost p (record { section = x.section; number = target }) ≤ most p
unfolding instruction_at
back p x k cs target at low =
    let first = first_place p x.section in
    let costs = costs_at p first (section_instructions p x.section) in
    let begins = at.0 in
    let one = one_back first costs first (section_instructions p x.section) (x.number - first) (Branch k cs target) at.1 in
    let here : back_cost first costs (first + (x.number - first)) (Branch k cs target) ≡ back_cost first costs x.number (Branch k cs target) = ap (λ n. back_cost first costs n (Branch k cs target)) (omega (arith, begins)) in
    let taken : back_cost first costs x.number (Branch k cs target) ≡ cost p (record { section = x.section; number = target }) = by_test (nat_le target x.number) (le-leb target x.number low) in
    let all = section_most p x.section in
    omega (arith, one, here, taken, all)
  where
    by_test : (b : Bool) → b ≡ true → cond b (cost_in (first_place p x.section) (costs_at p (first_place p x.section) (section_instructions p x.section)) target) 0 ≡ cost_in (first_place p x.section) (costs_at p (first_place p x.section) (section_instructions p x.section)) target
    by_test true e = refl
    by_test false e = cc

-- ---- first places of subroutines

calls : (p : Object) (n : ℕ) → cost p (record { section = Subroutine n; number = first_place p (Subroutine n) }) ≤ most p
unfolding first_place
calls p n =
    let first = first_in (length p.detail + length p.total) p.subroutines n in
    let costs = costs_at p first (body_of (slice_get p.subroutines n)) in
    let h = sub_most p (length p.detail + length p.total) p.subroutines n in
    let there = cost_there p (record { section = Subroutine n; number = first }) (omega arith) in
    let zero_on : slice_index costs (first - first) ≡ slice_index costs 0 = ap (slice_index costs) (omega arith) in
    omega (arith, h, there, zero_on)

pub greatest : (p : Object) → IsProgram p → AreGreatest p
greatest p h = record { each = greatest_at p; back = back p; calls = calls p; few = bound_few p h }
