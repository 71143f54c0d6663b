-- One pass from the last place down finds the greatest sums along forward paths.
use Rattle.std.proofs.Common.{◌≡◌, ℕ, suc, ◌+◌, ◌-◌, ◌<◌, ◌≤◌, ◌⊎◌, inl, inr, max, Bool, true, false, cond, List, [], ◌∷◌, Option, Some, None, slice_get, refl, sym, ap, ◌∙◌, subst, arith}
use Rattle.std.specs.Prelude.{nat_lt, nat_le, slice_index}
use borrow.Author.Tests.{ltb-true, ltb-false, leb-true, leb-false}
use Rattle.rpg_program.specs.declared.condition.Conditions.{Conditions}
use Rattle.rpg_program.specs.declared.operation.Instruction.{Instruction}
use Rattle.rpg_program.specs.declared.operation.Instruction.TheVariants.{Act, Except, Branch, Call, Return}
use Rattle.rpg_program.specs.Control.{always_goes}
use Rattle.rpg_verify.specs.Paths.{SectionCode, at_place, Follows, IsPath, IsFrom, weight_in, weight_along, IsCost, cost_onward, with_cost, costs_from, AreCosts}

abbrev pub section_code_of : ℕ → List (Instruction ℕ) → SectionCode
section_code_of n is = record { first = n; code = is }

-- ---- places of a section and of what is left of it after its first place

at_first : (n : ℕ) (i : Instruction ℕ) (is : List (Instruction ℕ)) → at_place (section_code_of n (i ∷ is)) n ≡ Some i
at_first n i is = by_test (nat_le n n) refl
  where
    at_none : n - n ≡ 0 → slice_get (i ∷ is) (n - n) ≡ Some i
    at_none e = ap (slice_get (i ∷ is)) e

    by_test : (b : Bool) → nat_le n n ≡ b → cond b (slice_get (i ∷ is) (n - n)) None ≡ Some i
    by_test true t = at_none (omega arith)
    by_test false t = absurd (omega (arith, leb-false))

at_later : (n : ℕ) (i : Instruction ℕ) (is : List (Instruction ℕ)) (x : ℕ) → n < x → at_place (section_code_of n (i ∷ is)) x ≡ at_place (section_code_of (n + 1) is) x
at_later n i is x h = by_tests (nat_le n x) (nat_le (n + 1) x) refl refl
  where
    one_down : x - n ≡ suc (x - (n + 1)) → slice_get (i ∷ is) (x - n) ≡ slice_get is (x - (n + 1))
    one_down e = ap (slice_get (i ∷ is)) e

    by_tests : (a b : Bool) → nat_le n x ≡ a → nat_le (n + 1) x ≡ b → cond a (slice_get (i ∷ is) (x - n)) None ≡ cond b (slice_get is (x - (n + 1))) None
    by_tests true true s t = one_down (omega arith)
    by_tests false b s t = absurd (omega (arith, leb-false))
    by_tests a false s t = absurd (omega (arith, leb-false))

at_end : (n x : ℕ) → at_place (section_code_of n []) x ≡ None
at_end n x = by_test (nat_le n x)
  where
    nothing : Option (Instruction ℕ)
    nothing = None

    by_test : (b : Bool) → cond b nothing nothing ≡ nothing
    by_test true = refl
    by_test false = refl

follows_later : (x y : ℕ) (i : Instruction ℕ) → Follows x i y → x < y
follows_later x y (Act a) f = omega arith
follows_later x y Except f = omega arith
follows_later x y (Branch k cs t) f = f.0
follows_later x y (Call s) f = omega arith
follows_later x y (Return s) f = absurd f

-- a path that begins after the first place is a path of what is left
down : (n : ℕ) (i : Instruction ℕ) (is : List (Instruction ℕ)) (x : ℕ) (rest : List ℕ) → n < x → IsPath (section_code_of n (i ∷ is)) (x ∷ rest) → IsPath (section_code_of (n + 1) is) (x ∷ rest)
down n i is x [] h p = (p.0, sym (at_later n i is x h) ∙ p.1)
down n i is x (y ∷ rest) h p =
    let l = p.0 in
    let up = follows_later x y l.0 l.2 in
    ((l.0, sym (at_later n i is x h) ∙ l.1, l.2), down n i is y rest (omega arith) p.1)

up_again : (n : ℕ) (i : Instruction ℕ) (is : List (Instruction ℕ)) (x : ℕ) (rest : List ℕ) → n < x → IsPath (section_code_of (n + 1) is) (x ∷ rest) → IsPath (section_code_of n (i ∷ is)) (x ∷ rest)
up_again n i is x [] h p = (p.0, at_later n i is x h ∙ p.1)
up_again n i is x (y ∷ rest) h p =
    let l = p.0 in
    let up = follows_later x y l.0 l.2 in
    ((l.0, at_later n i is x h ∙ l.1, l.2), up_again n i is y rest (omega arith) p.1)

module _ (weight : Instruction ℕ → ℕ) where
  -- sums are the same, too
  same_weight : (n : ℕ) (i : Instruction ℕ) (is : List (Instruction ℕ)) (x : ℕ) (rest : List ℕ) → n < x → IsPath (section_code_of n (i ∷ is)) (x ∷ rest) → weight_along weight (section_code_of n (i ∷ is)) (x ∷ rest) ≡ weight_along weight (section_code_of (n + 1) is) (x ∷ rest)
  same_weight n i is x [] h p = ap (λ o. weight_in weight o + 0) (at_later n i is x h)
  same_weight n i is x (y ∷ rest) h p =
      let l = p.0 in
      let up = follows_later x y l.0 l.2 in
      let here : weight_in weight (at_place (section_code_of n (i ∷ is)) x) ≡ weight_in weight (at_place (section_code_of (n + 1) is) x) = ap (weight_in weight) (at_later n i is x h) in
      let there = same_weight n i is y rest (omega arith) p.1 in
      omega (arith, here, there)

  -- the cost of a place after the first one is that in what is left
  following : (n : ℕ) (i : Instruction ℕ) (is : List (Instruction ℕ)) (x c : ℕ) → n < x → IsCost weight (section_code_of (n + 1) is) x c → IsCost weight (section_code_of n (i ∷ is)) x c
  following n i is x c h g = record { above = above; reached = (g.reached.0, reach g.reached.0 g.reached.1 g.reached.2, g.reached.2, sums g.reached.0 g.reached.1 g.reached.2 ∙ g.reached.3) }
    where
      above : (path : List ℕ) → IsPath (section_code_of n (i ∷ is)) path → IsFrom x path → weight_along weight (section_code_of n (i ∷ is)) path ≤ c
      above [] p f = omega arith
      above (y ∷ rest) p f =
          let low : n < y = omega arith in
          let less = g.above (y ∷ rest) (down n i is y rest low p) f in
          let same = same_weight n i is y rest low p in
          omega (arith, less, same)

      reach : (path : List ℕ) → IsPath (section_code_of (n + 1) is) path → IsFrom x path → IsPath (section_code_of n (i ∷ is)) path
      reach [] p f = tt
      reach (y ∷ rest) p f = let low : n < y = omega arith in up_again n i is y rest low p

      sums : (path : List ℕ) → IsPath (section_code_of (n + 1) is) path → IsFrom x path → weight_along weight (section_code_of n (i ∷ is)) path ≡ weight_along weight (section_code_of (n + 1) is) path
      sums [] p f = refl
      sums (y ∷ rest) p f = let low : n < y = omega arith in same_weight n i is y rest low (up_again n i is y rest low p)

  -- from after the end nothing leads on
  at_none : (n x : ℕ) → IsCost weight (section_code_of n []) x 0
  at_none n x = record { above = above; reached = ([], tt, tt, refl) }
    where
      nowhere : (i : Instruction ℕ) → at_place (section_code_of n []) x ≡ Some i → ⊥
      nowhere i e = let none = at_end n x in cc

      above : (path : List ℕ) → IsPath (section_code_of n []) path → IsFrom x path → weight_along weight (section_code_of n []) path ≤ 0
      above [] p f = omega arith
      above (y ∷ []) p f = absurd (nowhere p.0 (ap (at_place (section_code_of n [])) (sym f) ∙ p.1))
      above (y ∷ z ∷ rest) p f = absurd (nowhere p.0.0 (ap (at_place (section_code_of n [])) (sym f) ∙ p.0.1))

  -- the place itself, and then what follows
  here : (n : ℕ) (i : Instruction ℕ) (is : List (Instruction ℕ)) → weight_in weight (at_place (section_code_of n (i ∷ is)) n) ≡ weight i
  here n i is = ap (weight_in weight) (at_first n i is)

  only : (n : ℕ) (i j : Instruction ℕ) (is : List (Instruction ℕ)) → at_place (section_code_of n (i ∷ is)) n ≡ Some j → i ≡ j
  only n i j is e = let f = at_first n i is in cc

  -- of the places that can come next, the greatest cost of one; 0 where there is none
  pub record IsBest (s : SectionCode) (next : ℕ → Type 0) (cost : ℕ) : Type 0 where
    pub above : (y : ℕ) → next y → (path : List ℕ) → IsPath s (y ∷ path) → weight_along weight s (y ∷ path) ≤ cost
    pub reached : (cost ≡ 0) ⊎ ((y : ℕ) × next y × ((path : List ℕ) × IsPath s (y ∷ path) × (weight_along weight s (y ∷ path) ≡ cost)))

  best_of_none : (s : SectionCode) (next : ℕ → Type 0) → ((y : ℕ) → ¬ next y) → IsBest s next 0
  best_of_none s next h = record { above = λ y n path p. absurd (h y n); reached = inl refl }

  best_of_one : (s : SectionCode) (next : ℕ → Type 0) (z c : ℕ) → IsCost weight s z c → ((y : ℕ) → next y → y ≡ z) → next z → IsBest s next c
  best_of_one s next z c g one n = record {
    above = λ y h path p. g.above (y ∷ path) p (one y h);
    reached = by_path g.reached.0 g.reached.1 g.reached.2 g.reached.3;
  }
    where
      by_path : (path : List ℕ) → IsPath s path → IsFrom z path → weight_along weight s path ≡ c → (c ≡ 0) ⊎ ((y : ℕ) × next y × ((path : List ℕ) × IsPath s (y ∷ path) × (weight_along weight s (y ∷ path) ≡ c)))
      by_path [] p h e = inl (sym e)
      by_path (x ∷ rest) p h e = inr (x, subst next (sym h) n, (rest, p, e))

  best_of_both : (s : SectionCode) (F G H : ℕ → Type 0) (a b : ℕ) → IsBest s F a → IsBest s G b → ((y : ℕ) → H y → F y ⊎ G y) → ((y : ℕ) → F y → H y) → ((y : ℕ) → G y → H y) → IsBest s H (max a b)
  best_of_both s F G H a b f g split left right = record { above = above; reached = by_test (nat_le a b) refl }
    where
      above : (y : ℕ) → H y → (path : List ℕ) → IsPath s (y ∷ path) → weight_along weight s (y ∷ path) ≤ max a b
      above y h path p = elim (split y h) [ inl x ↦ (let l = f.above y x path p in omega arith) | inr x ↦ (let l = g.above y x path p in omega arith) ]

      Reached : (ℕ → Type 0) → ℕ → Type 0
      Reached next c = (c ≡ 0) ⊎ ((y : ℕ) × next y × ((path : List ℕ) × IsPath s (y ∷ path) × (weight_along weight s (y ∷ path) ≡ c)))

      wider : (next : ℕ → Type 0) (c d : ℕ) → ((y : ℕ) → next y → H y) → c ≡ d → Reached next c → Reached H d
      wider next c d h e (inl z) = inl (sym e ∙ z)
      wider next c d h e (inr x) = inr (x.0, h x.0 x.1, (x.2.0, x.2.1, x.2.2 ∙ e))

      by_test : (t : Bool) → nat_le a b ≡ t → Reached H (max a b)
      by_test true t = let l : a ≤ b = omega (arith, leb-true) in wider G b (max a b) right (omega arith) g.reached
      by_test false t = let l : b < a = omega (arith, leb-false) in wider F a (max a b) left (omega arith) f.reached

  -- ---- the next place, and a branch's target

  next_cost : (n : ℕ) (is : List (Instruction ℕ)) (costs : List ℕ) → AreCosts weight (section_code_of (n + 1) is) costs → IsCost weight (section_code_of (n + 1) is) (n + 1) (slice_index costs 0)
  next_cost n is costs g = subst (λ k. IsCost weight (section_code_of (n + 1) is) (n + 1) (slice_index costs k)) (omega arith) (g (n + 1) (omega arith))

  straight : (n : ℕ) (i : Instruction ℕ) (is : List (Instruction ℕ)) (costs : List ℕ) → AreCosts weight (section_code_of (n + 1) is) costs → ((y : ℕ) → Follows n i y → y ≡ n + 1) → Follows n i (n + 1) → IsBest (section_code_of (n + 1) is) (Follows n i) (slice_index costs 0)
  straight n i is costs g one f = best_of_one (section_code_of (n + 1) is) (Follows n i) (n + 1) (slice_index costs 0) (next_cost n is costs g) one f

  branching : (n : ℕ) (k : Bool) (cs : Conditions) (t : ℕ) (is : List (Instruction ℕ)) (costs : List ℕ) → AreCosts weight (section_code_of (n + 1) is) costs → IsBest (section_code_of (n + 1) is) (Follows n (Branch k cs t)) (cost_onward n (Branch k cs t) costs)
  branching n k cs t is costs g = best_of_both s Target FallsThrough (Follows n (Branch k cs t)) _ _ (to_target (nat_lt n t) refl) (after_it (always_goes k cs) refl) split left right
    where
      s : SectionCode
      s = section_code_of (n + 1) is

      Target : ℕ → Type 0
      Target y = (n < y) × (y ≡ t)

      FallsThrough : ℕ → Type 0
      FallsThrough y = (y ≡ n + 1) × (always_goes k cs ≡ false)

      to_target : (b : Bool) → nat_lt n t ≡ b → IsBest s Target (cond b (slice_index costs (t - (n + 1))) 0)
      to_target true h = let up : n < t = omega (arith, ltb-true) in best_of_one s Target t _ (g t (omega arith)) (λ y x. x.1) (up, refl)
      to_target false h = let down : t ≤ n = omega (arith, ltb-false) in best_of_none s Target (λ y x. (let e = x.1 in let l = x.0 in omega arith))

      after_it : (b : Bool) → always_goes k cs ≡ b → IsBest s FallsThrough (cond b 0 (slice_index costs 0))
      after_it true h = best_of_none s FallsThrough (λ y x. (let e = x.1 in cc))
      after_it false h = best_of_one s FallsThrough (n + 1) _ (next_cost n is costs g) (λ y x. x.0) (refl, h)

      split : (y : ℕ) → Follows n (Branch k cs t) y → Target y ⊎ FallsThrough y
      split y f = elim f.1 [ inl e ↦ inl (f.0, e) | inr e ↦ inr e ]

      left : (y : ℕ) → Target y → Follows n (Branch k cs t) y
      left y x = (x.0, inl x.1)

      right : (y : ℕ) → FallsThrough y → Follows n (Branch k cs t) y
      right y x = ((let e = x.0 in omega arith), inr x)

  onward : (n : ℕ) (i : Instruction ℕ) (is : List (Instruction ℕ)) (costs : List ℕ) → AreCosts weight (section_code_of (n + 1) is) costs → IsBest (section_code_of (n + 1) is) (Follows n i) (cost_onward n i costs)
  onward n (Act a) is costs g = straight n (Act a) is costs g (λ y f. f) refl
  onward n Except is costs g = straight n Except is costs g (λ y f. f) refl
  onward n (Call s) is costs g = straight n (Call s) is costs g (λ y f. f) refl
  onward n (Return s) is costs g = best_of_none (section_code_of (n + 1) is) (Follows n (Return s)) (λ y f. f)
  onward n (Branch k cs t) is costs g = branching n k cs t is costs g

  -- ---- the first place, with what follows

  at_front : (n : ℕ) (i : Instruction ℕ) (is : List (Instruction ℕ)) (c : ℕ) → IsBest (section_code_of (n + 1) is) (Follows n i) c → IsCost weight (section_code_of n (i ∷ is)) n (weight i + c)
  at_front n i is c g = record { above = above; reached = by_cases g.reached }
    where
      s : SectionCode
      s = section_code_of n (i ∷ is)

      above : (path : List ℕ) → IsPath s path → IsFrom n path → weight_along weight s path ≤ weight i + c
      above [] p f = omega arith
      above (x ∷ []) p f =
          let same : weight_in weight (at_place s x) ≡ weight i = ap (λ y. weight_in weight (at_place s y)) f ∙ here n i is in
          omega (arith, same)
      above (x ∷ y ∷ rest) p f =
          let same : weight_in weight (at_place s x) ≡ weight i = ap (λ y. weight_in weight (at_place s y)) f ∙ here n i is in
          let it : i ≡ p.0.0 = only n i p.0.0 is (ap (at_place s) (sym f) ∙ p.0.1) in
          let fo : Follows n i y = subst (λ j. Follows n j y) (sym it) (subst (λ z. Follows z p.0.0 y) f p.0.2) in
          let up : n < y = follows_later n y i fo in
          let less = g.above y fo rest (down n i is y rest up p.1) in
          let sums = same_weight n i is y rest up p.1 in
          omega (arith, same, less, sums)

      by_cases : (c ≡ 0) ⊎ ((y : ℕ) × Follows n i y × ((path : List ℕ) × IsPath (section_code_of (n + 1) is) (y ∷ path) × (weight_along weight (section_code_of (n + 1) is) (y ∷ path) ≡ c))) → (path : List ℕ) × IsPath s path × IsFrom n path × (weight_along weight s path ≡ weight i + c)
      by_cases (inl z) = (n ∷ [], (i, at_first n i is), refl, (let h = here n i is in omega (arith, h)))
      by_cases (inr x) =
          let up : n < x.0 = follows_later n x.0 i x.1 in
          let p = up_again n i is x.0 x.2.0 up x.2.1 in
          let sums = same_weight n i is x.0 x.2.0 up p in
          let h = here n i is in
          let e = x.2.2 in
          (n ∷ x.0 ∷ x.2.0, ((i, at_first n i is, x.1), p), refl, omega (arith, h, sums, e))

  -- the costs after a place, and its own in front of them
  one_more : (n : ℕ) (i : Instruction ℕ) (is : List (Instruction ℕ)) (rest : List ℕ) → AreCosts weight (section_code_of (n + 1) is) rest → AreCosts weight (section_code_of n (i ∷ is)) (with_cost weight n i rest)
  one_more n i is rest g x h = by_test (nat_lt n x) refl
    where
      all : List ℕ
      all = with_cost weight n i rest

      ahead : n < x → x - n ≡ suc (x - (n + 1)) → IsCost weight (section_code_of n (i ∷ is)) x (slice_index all (x - n))
      ahead up e = subst (λ k. IsCost weight (section_code_of n (i ∷ is)) x (slice_index all k)) (sym e) (following n i is x _ up (g x (omega arith)))

      at_itself : n ≡ x → 0 ≡ x - n → IsCost weight (section_code_of n (i ∷ is)) x (slice_index all (x - n))
      at_itself e z = subst (λ y. IsCost weight (section_code_of n (i ∷ is)) y (slice_index all (x - n))) e (subst (λ k. IsCost weight (section_code_of n (i ∷ is)) n (slice_index all k)) z (at_front n i is _ (onward n i is rest g)))

      by_test : (b : Bool) → nat_lt n x ≡ b → IsCost weight (section_code_of n (i ∷ is)) x (slice_index all (x - n))
      by_test true t = let up : n < x = omega (arith, ltb-true) in ahead up (omega arith)
      by_test false t = let l : x ≤ n = omega (arith, ltb-false) in at_itself (omega arith) (omega arith)

  -- one pass from the last place down gives the cost of each place
  pub costs_are : (n : ℕ) (is : List (Instruction ℕ)) → AreCosts weight (section_code_of n is) (costs_from weight n is)
  costs_are n [] = λ x h. at_none n x
  costs_are n (i ∷ is) = one_more n i is (costs_from weight (n + 1) is) (costs_are (n + 1) is)
