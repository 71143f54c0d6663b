-- A search position by position.
use Rattle.std.proofs.Common.{◌≡◌, ℕ, zero, suc, ◌+◌, ◌-◌, ◌≤◌, ◌<◌, Bool, true, false, cond, List, [], ◌∷◌, ◌++◌, reverse, Option, None, Some, Ordering, refl, ap, ◌∙◌, arith}
use Rattle.std.proofs.lemmas.List.{reverse-append}
use Rattle.std.specs.List.{find, range_with_len}
use Rattle.rpg_program.specs.Search.{first_one, last_one, positions, stands}

-- ---- positions

counted : (n m a : ℕ) → n ≡ suc m → range_with_len a n ≡ a ∷ range_with_len (a + 1) m
counted n m a h = rw h refl

pub positions_first : (from last : ℕ) → from ≤ last → positions from last ≡ from ∷ positions (from + 1) last
positions_first from last h = counted (last + 1 - from) (last + 1 - (from + 1)) from (omega arith)

no_length : (n a : ℕ) → n ≡ 0 → range_with_len a n ≡ []
no_length n a h = rw h refl

pub positions_none : (from last : ℕ) → last < from → positions from last ≡ []
positions_none from last h = no_length (last + 1 - from) from (omega arith)

pub one_more : (n a z : ℕ) → a + n ≡ z → range_with_len a (suc n) ≡ range_with_len a n ++ z ∷ []
one_more zero a z h = let e : a ≡ z = omega arith in ap (λ x. x ∷ []) e
one_more (suc n) a z h = ap (λ xs. a ∷ xs) (one_more n (a + 1) z (omega arith))

one_more_of : (n m a z : ℕ) → n ≡ suc m → a + m ≡ z → range_with_len a n ≡ range_with_len a m ++ z ∷ []
one_more_of n m a z h e = rw h (one_more m a z e)

pub positions_last : (from last before : ℕ) → from ≤ last → before + 1 ≡ last → positions from last ≡ positions from before ++ last ∷ []
positions_last from last before h e = one_more_of (last + 1 - from) (before + 1 - from) from last (omega arith) (omega arith)

reverse_last : (xs : List ℕ) (z : ℕ) → reverse (xs ++ z ∷ []) ≡ z ∷ reverse xs
reverse_last xs z = reverse-append xs (z ∷ [])

pub reverse_more : (n a : ℕ) → reverse (range_with_len a (suc n)) ≡ (a + n) ∷ reverse (range_with_len a n)
reverse_more n a = ap reverse (one_more n a (a + n) refl) ∙ reverse-append (range_with_len a n) ((a + n) ∷ [])

module _ (standing : ℕ → Ordering) (order : Ordering) where
  found : (b : Bool) (p : ℕ) (o : Option ℕ) → b ≡ true → cond b (Some p) o ≡ Some p
  found b p o h = rw h refl

  passed : (b : Bool) (p : ℕ) (o : Option ℕ) → b ≡ false → cond b (Some p) o ≡ o
  passed b p o h = rw h refl

  pub first_here : (p last : ℕ) → p ≤ last → stands standing order p ≡ true → first_one standing order (positions p last) ≡ Some p
  unfolding first_one
  first_here p last h s = ap (find (stands standing order)) (positions_first p last h) ∙ found _ p _ s

  pub first_later : (p last : ℕ) → p ≤ last → stands standing order p ≡ false → first_one standing order (positions p last) ≡ first_one standing order (positions (p + 1) last)
  unfolding first_one
  first_later p last h s = ap (find (stands standing order)) (positions_first p last h) ∙ passed _ p _ s

  pub first_none : (p last : ℕ) → last < p → first_one standing order (positions p last) ≡ None
  unfolding first_one
  first_none p last h = ap (find (stands standing order)) (positions_none p last h)

  pub last_here : (from p : ℕ) → from ≤ p → 1 ≤ p → stands standing order p ≡ true → last_one standing order (positions from p) ≡ Some p
  unfolding last_one
  last_here from p h l s =
      ap (λ xs. find (stands standing order) (reverse xs)) (positions_last from p (p - 1) h (omega arith))
      ∙ ap (find (stands standing order)) (reverse_last (positions from (p - 1)) p) ∙ found _ p _ s

  last_before : (from p before : ℕ) → from ≤ p → before + 1 ≡ p → stands standing order p ≡ false → last_one standing order (positions from p) ≡ last_one standing order (positions from before)
  unfolding last_one
  last_before from p before h l s =
      ap (λ xs. find (stands standing order) (reverse xs)) (positions_last from p before h l)
      ∙ ap (find (stands standing order)) (reverse_last (positions from before) p) ∙ passed _ p _ s

  pub last_earlier : (from last back : ℕ) → from ≤ last - back → 1 ≤ last - back → stands standing order (last - back) ≡ false → last_one standing order (positions from (last - back)) ≡ last_one standing order (positions from (last - (back + 1)))
  last_earlier from last back h l s = last_before from (last - back) (last - (back + 1)) h (omega arith) s

  pub last_none : (from p : ℕ) → p < from → last_one standing order (positions from p) ≡ None
  unfolding last_one
  last_none from p h = ap (λ xs. find (stands standing order) (reverse xs)) (positions_none from p h)
