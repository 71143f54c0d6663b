-- No spend leads to more than `most`, and one to just as much.
use Rattle.std.proofs.Common.{◌≡◌, ℕ, suc, ◌+◌, ◌-◌, ◌<◌, ◌≤◌, inl, inr, Bool, true, false, cond, leb-true, ltb-true, ltb-false, List, [], ◌∷◌, length, Some, slice_get, refl, sym, ap, ◌∙◌, subst, arith}
use Rattle.std.specs.Prelude.{max, nat_le, nat_lt, slice_index}
use Rattle.rpg_program.specs.declared.operation.Instruction.{Instruction}
use Rattle.rpg_program.specs.declared.operation.Instruction.TheVariants.{Act, Except, Branch, Call, Return}
use Rattle.rpg_cycle_safety.specs.Buying.{IsGreatestSpend, IsSpendCost}
use Rattle.rpg_program.specs.Kept.{IsProgram}
use Rattle.rpg_program.specs.Object.{Object, SubroutineRow}
use Rattle.rpg_program.specs.Sections.{body_of, first_in, first_place, instruction_at, section_instructions}
use Rattle.rpg_program.specs.declared.section.Section.{Section}
use Rattle.rpg_program.specs.declared.section.Section.TheVariants.{Detail, Total, Subroutine}
use Rattle.rpg_verify.proofs.Most.{greatest}
use Rattle.rpg_verify.proofs.Placing.{cost_there}
use Rattle.rpg_verify.specs.Bound.{back_cost, cost_in, costs_at, first_cost, main_most, most, most_at, most_back, most_called, most_in}

max_of : (F : ℕ → Type 0) (a b : ℕ) → F a → F b → F (max a b)
max_of F a b h k = by (nat_lt a b) refl
  where
    by : (t : Bool) → nat_lt a b ≡ t → F (max a b)
    by true e = let l = ltb-true a b e in let is : b ≡ max a b = omega (arith, l) in subst F is k
    by false e = let l = ltb-false a b e in let is : a ≡ max a b = omega (arith, l) in subst F is h

module _ (p : Object) where
  -- ---- branches

  branch_there : (s : Section) (k : ℕ) (i : Instruction ℕ) → slice_get (section_instructions p s) k ≡ Some i →
      instruction_at p (record { section = s; number = first_place p s + k }) ≡ Some i
  unfolding instruction_at
  branch_there s k i at =
      let same : k ≡ first_place p s + k - first_place p s = omega arith in
      subst (λ (n : ℕ). slice_get (section_instructions p s) n ≡ Some i) same at

  module _ (s : Section) where
    back_of : (k : ℕ) (i : Instruction ℕ) → slice_get (section_instructions p s) k ≡ Some i → IsSpendCost p (back_cost (first_place p s) (costs_at p (first_place p s) (section_instructions p s)) (first_place p s + k) i)
    back_of k (Branch is_taken_where cs target) at = by (nat_le target (first_place p s + k)) refl
      where
        by : (t : Bool) → nat_le target (first_place p s + k) ≡ t → IsSpendCost p (cond t (cost_in (first_place p s) (costs_at p (first_place p s) (section_instructions p s)) target) 0)
        by true e = inr (inl (
          record { section = s; number = first_place p s + k },
          target,
          record { is_taken_where = is_taken_where; conditions = cs; there = (omega arith, branch_there s k (Branch is_taken_where cs target) at); back = leb-true target (first_place p s + k) e },
          refl,
        ))
        by false e = inl refl
    back_of k (Act a) at = inl refl
    back_of k Except at = inl refl
    back_of k (Call n) at = inl refl
    back_of k (Return n) at = inl refl

    most_of : (place : ℕ) (part : List (Instruction ℕ)) (k : ℕ) → place ≡ first_place p s + k →
        ((j : ℕ) (i : Instruction ℕ) → slice_get part j ≡ Some i → slice_get (section_instructions p s) (k + j) ≡ Some i) →
        IsSpendCost p (most_back (first_place p s) (costs_at p (first_place p s) (section_instructions p s)) place part)
    most_of place [] k same h = inl refl
    most_of place (i ∷ is) k same h =
        let first = first_place p s in
        let costs = costs_at p first (section_instructions p s) in
        let zeroth : k + 0 ≡ k = omega arith in
        max_of (IsSpendCost p) (back_cost first costs place i) (most_back first costs (place + 1) is)
        (subst (λ (n : ℕ). IsSpendCost p (back_cost first costs n i)) (sym same) (back_of k i (subst (λ (n : ℕ). slice_get (section_instructions p s) n ≡ Some i) zeroth (h 0 i refl))))
        (most_of (place + 1) is (k + 1) (omega (arith, same)) (λ j x e.
        let next : k + suc j ≡ k + 1 + j = omega arith in
        subst (λ (n : ℕ). slice_get (section_instructions p s) n ≡ Some x) next (h (suc j) x e)))

    section_of : IsSpendCost p (most_at p (first_place p s) (section_instructions p s))
    section_of =
        most_of (first_place p s) (section_instructions p s) 0 (omega arith) (λ j i e.
        let same : j ≡ 0 + j = omega arith in
        subst (λ (n : ℕ). slice_get (section_instructions p s) n ≡ Some i) same e)

  -- ---- calls

  called_of : (n : ℕ) → n < length p.subroutines → IsSpendCost p (most_called p (first_place p (Subroutine n)) (section_instructions p (Subroutine n)))
  called_of n l =
      let s = Subroutine n in
      let first = first_place p s in
      let costs = costs_at p first (section_instructions p s) in
      let start : slice_index costs 0 ≡ slice_index costs (first - first) = ap (slice_index costs) (omega arith) in
      max_of (IsSpendCost p) (first_cost p first (section_instructions p s)) (most_at p first (section_instructions p s))
      (inr (inr (n, l, start ∙ sym (cost_there p (record { section = s; number = first }) (omega arith)))))
      (section_of s)

  -- subroutines from the k-th on, the first of which begins at b
  record AreFrom (b k : ℕ) (ss : List SubroutineRow) : Type 0 where
    pub few : k + length ss ≡ length p.subroutines
    pub rows : (n : ℕ) → slice_get p.subroutines (k + n) ≡ slice_get ss n
    pub firsts : (n : ℕ) → first_place p (Subroutine (k + n)) ≡ first_in b ss n

  subs_of : (b k : ℕ) (ss : List SubroutineRow) → AreFrom b k ss → IsSpendCost p (most_in p b ss)
  subs_of b k [] h = inl refl
  subs_of b k (s ∷ ss) h =
      let few = h.few in
      let zeroth : k + 0 ≡ k = omega arith in
      let first : first_place p (Subroutine k) ≡ b = subst (λ (n : ℕ). first_place p (Subroutine n) ≡ b) zeroth (h.firsts 0) in
      let code : section_instructions p (Subroutine k) ≡ s.instructions = ap body_of (subst (λ (n : ℕ). slice_get p.subroutines n ≡ Some s) zeroth (h.rows 0)) in
      let one : IsSpendCost p (most_called p b s.instructions) =
      subst (λ (x : ℕ). IsSpendCost p (most_called p x s.instructions)) first
      (subst (λ (x : List (Instruction ℕ)). IsSpendCost p (most_called p (first_place p (Subroutine k)) x)) code (called_of k (omega (arith, few)))) in
      max_of (IsSpendCost p) (most_called p b s.instructions) (most_in p (b + length s.instructions) ss) one
      (subs_of (b + length s.instructions) (k + 1) ss (record {
        few = omega (arith, few);
        rows = λ n. let next : k + suc n ≡ k + 1 + n = omega arith in subst (λ (m : ℕ). slice_get p.subroutines m ≡ slice_get ss n) next (h.rows (suc n));
        firsts = λ n. let next : k + suc n ≡ k + 1 + n = omega arith in subst (λ (m : ℕ). first_place p (Subroutine m) ≡ first_in (b + length s.instructions) ss n) next (h.firsts (suc n));
      }))

  all_of : IsSpendCost p (most_in p (length p.detail + length p.total) p.subroutines)
  unfolding first_place
  all_of =
      subs_of (length p.detail + length p.total) 0 p.subroutines (record {
        few = omega arith;
        rows = λ n. let same : n ≡ 0 + n = omega arith in subst (λ (m : ℕ). slice_get p.subroutines m ≡ slice_get p.subroutines n) same refl;
        firsts = λ n. let same : n ≡ 0 + n = omega arith in subst (λ (m : ℕ). first_place p (Subroutine m) ≡ first_in (length p.detail + length p.total) p.subroutines n) same refl;
      })

  main_of : IsSpendCost p (main_most p)
  unfolding first_place
  main_of = max_of (IsSpendCost p) (most_at p 0 p.detail) (most_at p (length p.detail) p.total) (section_of Detail) (section_of Total)

  -- ---- the greatest

  above : IsProgram p → (k : ℕ) → IsSpendCost p k → k ≤ most p
  above kept k (inl is) = omega (arith, is)
  above kept k (inr (inl (x, target, h, is))) = let low = (greatest p kept).back x h.is_taken_where h.conditions target h.there h.back in omega (arith, is, low)
  above kept k (inr (inr (n, l, is))) = let low = (greatest p kept).calls n in omega (arith, is, low)

  -- `most` is the greatest cost that a spend leads to
  pub most_greatest : IsProgram p → IsGreatestSpend p (most p)
  most_greatest kept = record {
    above = above kept;
    reached = max_of (IsSpendCost p) (main_most p) (most_in p (length p.detail + length p.total) p.subroutines) main_of all_of;
  }
