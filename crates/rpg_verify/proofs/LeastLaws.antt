-- The first rule that is broken, with its first row, is the least.
use Rattle.std.proofs.Common.{◌≡◌, ℕ, zero, suc, ◌+◌, ◌≤◌, ◌⊎◌, inl, inr, Bool, true, false, List, [], ◌∷◌, Option, Some, None, MatchOption, slice_get, refl, sym, ap, ◌∙◌, arith}
use Rattle.rpg_verify_rules.specs.Least.{first_true, IsBroken, IsFaultless, NotAfter, IsLeast, or_later, first_broken}

-- ---- the first row

abbrev pub IsFirst : ℕ → List Bool → Option ℕ → Type 0
IsFirst n bs o =
    MatchOption o ((k : ℕ) → ¬ (slice_get bs k ≡ Some true))
    (λ m. (k : ℕ) × (m ≡ n + k) × (slice_get bs k ≡ Some true) × ((j : ℕ) → slice_get bs j ≡ Some true → k ≤ j))

pub is_first : (n : ℕ) (bs : List Bool) → IsFirst n bs (first_true n bs)
is_first n [] = λ k e. cc
is_first n (true ∷ bs) = (0, (omega arith), refl, λ j e. omega arith)
is_first n (false ∷ bs) = later (first_true (n + 1) bs) (is_first (n + 1) bs)
  where
    none : ((k : ℕ) → ¬ (slice_get bs k ≡ Some true)) → (k : ℕ) → ¬ (slice_get (false ∷ bs) k ≡ Some true)
    none h zero e = cc
    none h (suc k) e = h k e

    least : (k : ℕ) → ((j : ℕ) → slice_get bs j ≡ Some true → k ≤ j) → (j : ℕ) → slice_get (false ∷ bs) j ≡ Some true → k + 1 ≤ j
    least k h zero e = absurd (cc)
    least k h (suc j) e = let l = h j e in omega arith

    later : (o : Option ℕ) → IsFirst (n + 1) bs o → IsFirst n (false ∷ bs) o
    later None h = none h
    later (Some m) h = (suc h.0, (let e = h.1 in omega arith), h.2, λ j e. let l = least h.0 h.3 j e in omega arith)

-- ---- the least of all rules

module _ {R : Type 0} (number : R → ℕ) (broken : R → List Bool) where
  abbrev pub IsOneOf : R → List R → Type 0
  IsOneOf r [] = ⊥
  IsOneOf r (x ∷ xs) = (r ≡ x) ⊎ IsOneOf r xs

  -- their numbers go up
  abbrev pub Ascends : ℕ → List R → Type 0
  Ascends m [] = Unit {0}
  Ascends m (r ∷ rs) = (m ≤ number r) × Ascends (number r + 1) rs

  above : (m : ℕ) (r : R) (rs : List R) → Ascends m rs → IsOneOf r rs → m ≤ number r
  above m r [] a i = absurd i
  above m r (x ∷ xs) a (inl e) = let same : number r ≡ number x = ap number e in let l = a.0 in omega arith
  above m r (x ∷ xs) a (inr i) = let later = above (number x + 1) r xs a.1 i in let l = a.0 in omega arith

  -- the least of the rules of a list
  abbrev pub IsLeastOf : List R → Option (R × ℕ) → Type 0
  IsLeastOf rs o =
      MatchOption o ((r : R) (row : ℕ) → IsOneOf r rs → ¬ IsBroken number broken r row)
      (λ x. IsBroken number broken x.0 x.1 × ((q : R) (other : ℕ) → IsOneOf q rs → IsBroken number broken q other → NotAfter number broken x.0 x.1 q other))

  joined : (m : ℕ) (x : R) (xs : List R) → Ascends m (x ∷ xs) → (o : Option ℕ) → IsFirst 0 (broken x) o → (l : Option (R × ℕ)) → IsLeastOf xs l → IsLeastOf (x ∷ xs) (or_later number broken x o l)
  joined m x xs a (Some row) f l h = (at f.0 (let e = f.1 in omega arith) f.2, λ q other i b. least q other i b)
    where
      at : (k : ℕ) → row ≡ k → slice_get (broken x) k ≡ Some true → slice_get (broken x) row ≡ Some true
      at k e g = ap (slice_get (broken x)) e ∙ g

      least : (q : R) (other : ℕ) → IsOneOf q (x ∷ xs) → IsBroken number broken q other → NotAfter number broken x row q other
      least q other (inl e) b =
          let here : slice_get (broken x) other ≡ Some true = ap (λ r. slice_get (broken r) other) (sym e) ∙ b in
          let k = f.3 other here in
          let same = f.1 in
          inr (sym e, (omega arith))
      least q other (inr i) b = let k = above (number x + 1) q xs a.1 i in inl (omega arith)
  joined m x xs a None f None h = λ r row i. none r row i
    where
      none : (r : R) (row : ℕ) → IsOneOf r (x ∷ xs) → ¬ IsBroken number broken r row
      none r row (inl e) b = f row (ap (λ q. slice_get (broken q) row) (sym e) ∙ b)
      none r row (inr i) b = h r row i b
  joined m x xs a None f (Some y) h = (h.0, λ q other i b. least q other i b)
    where
      least : (q : R) (other : ℕ) → IsOneOf q (x ∷ xs) → IsBroken number broken q other → NotAfter number broken y.0 y.1 q other
      least q other (inl e) b = absurd (f other (ap (λ r. slice_get (broken r) other) (sym e) ∙ b))
      least q other (inr i) b = h.1 q other i b

  least_of : (m : ℕ) (rs : List R) → Ascends m rs → IsLeastOf rs (first_broken number broken rs)
  least_of m [] a = λ r row i b. i
  least_of m (x ∷ xs) a = joined m x xs a (first_true 0 (broken x)) (is_first 0 (broken x)) (first_broken number broken xs) (least_of (number x + 1) xs a.1)

  -- over all rules in the order of their numbers
  pub least : (rs : List R) → Ascends 0 rs → ((r : R) → IsOneOf r rs) → MatchOption (first_broken number broken rs) (IsFaultless number broken) (λ x. IsLeast number broken x.0 x.1)
  least rs a all = found (first_broken number broken rs) (least_of 0 rs a)
    where
      found : (o : Option (R × ℕ)) → IsLeastOf rs o → MatchOption o (IsFaultless number broken) (λ x. IsLeast number broken x.0 x.1)
      found None h = λ r row b. h r row (all r) b
      found (Some x) h = record { is = h.0; least = λ q other b. h.1 q other (all q) b }
