-- A search finds the first position that passes, or the last one.
use Rattle.std.proofs.Common.{◌≡◌, ℕ, zero, suc, ◌+◌, ◌-◌, ◌≤◌, ◌<◌, Bool, true, false, cond, List, reverse, Option, None, Some, MatchOption, refl, sym, ap, ◌∙◌, subst, arith, ◌⊎◌, inl, inr}
use Rattle.std.proofs.lemmas.Bool.{cases_lt}
use Rattle.std.specs.List.{find, range_with_len}
use Rattle.rpg_program.specs.Search.{first_one, last_one, stands}
use Rattle.rpg_program.specs.Places.{FindsFirst, FindsLast, IsFirst, IsLast, NonePasses}
use Rattle.rpg_program.proofs.Searches.{reverse_more}

-- the same of n positions from a on
pub record First (t : ℕ → Bool) (a n p : ℕ) : Type 0 where
  low : a ≤ p
  high : p < a + n
  passes : t p ≡ true
  before : (m : ℕ) → a ≤ m → m < p → t m ≡ false

pub record Last (t : ℕ → Bool) (a n p : ℕ) : Type 0 where
  low : a ≤ p
  high : p < a + n
  passes : t p ≡ true
  following : (m : ℕ) → p < m → m < a + n → t m ≡ false

abbrev Fails : (ℕ → Bool) → ℕ → ℕ → Type 0
Fails t a n = (m : ℕ) → a ≤ m → m < a + n → t m ≡ false

apart : (a m : ℕ) → a ≤ m → (m ≡ a) ⊎ (a + 1 ≤ m)
apart a m h = by (cases_lt a m)
  where
    by : (a < m) ⊎ (m ≤ a) → (m ≡ a) ⊎ (a + 1 ≤ m)
    by (inl l) = inr (omega arith)
    by (inr l) = inl (omega arith)

or_below : (m z : ℕ) → m < z + 1 → (m ≡ z) ⊎ (m < z)
or_below m z h = by (cases_lt m z)
  where
    by : (m < z) ⊎ (z ≤ m) → (m ≡ z) ⊎ (m < z)
    by (inl l) = inr l
    by (inr l) = inl (omega arith)

at_or_below : (t : ℕ → Bool) (z m : ℕ) → t z ≡ false → (m ≡ z) ⊎ (m < z) → (m < z → t m ≡ false) → t m ≡ false
at_or_below t z m h (inl e) k = ap t e ∙ h
at_or_below t z m h (inr l) k = k l

at_or : (t : ℕ → Bool) (a m : ℕ) → t a ≡ false → (m ≡ a) ⊎ (a + 1 ≤ m) → (a + 1 ≤ m → t m ≡ false) → t m ≡ false
at_or t a m h (inl e) k = ap t e ∙ h
at_or t a m h (inr l) k = k l

first_next : (t : ℕ → Bool) (a n : ℕ) (o : Option ℕ) → t a ≡ false → MatchOption o (Fails t (a + 1) n) (First t (a + 1) n) → MatchOption o (Fails t a (suc n)) (First t a (suc n))
first_next t a n None h k = λ m low high. at_or t a m h (apart a m low) (λ l. k m l (omega arith))
first_next t a n (Some p) h k = record {
  low = omega (arith, k.low);
  high = omega (arith, k.high);
  passes = k.passes;
  before = λ m low high. at_or t a m h (apart a m low) (λ l. k.before m l high);
}

first_at : (t : ℕ → Bool) (a n : ℕ) (b : Bool) → t a ≡ b → MatchOption (find t (range_with_len (a + 1) n)) (Fails t (a + 1) n) (First t (a + 1) n) →
    MatchOption (cond b (Some a) (find t (range_with_len (a + 1) n))) (Fails t a (suc n)) (First t a (suc n))
first_at t a n true h k = record { low = omega arith; high = omega arith; passes = h; before = λ m low high. absurd (omega arith) }
first_at t a n false h k = first_next t a n _ h k

first_of : (t : ℕ → Bool) (n a : ℕ) → MatchOption (find t (range_with_len a n)) (Fails t a n) (First t a n)
first_of t zero a = λ m low high. absurd (omega arith)
first_of t (suc n) a = first_at t a n (t a) refl (first_of t n (a + 1))

last_next : (t : ℕ → Bool) (a n : ℕ) (o : Option ℕ) → t (a + n) ≡ false → MatchOption o (Fails t a n) (Last t a n) → MatchOption o (Fails t a (suc n)) (Last t a (suc n))
last_next t a n None h k = λ m low high. at_or_below t (a + n) m h (or_below m (a + n) (omega arith)) (λ l. k m low l)
last_next t a n (Some p) h k = record {
  low = k.low;
  high = omega (arith, k.high);
  passes = k.passes;
  following = λ m low high. at_or_below t (a + n) m h (or_below m (a + n) (omega arith)) (λ l. k.following m low l);
}

last_at : (t : ℕ → Bool) (a n : ℕ) (b : Bool) → t (a + n) ≡ b → MatchOption (find t (reverse (range_with_len a n))) (Fails t a n) (Last t a n) →
    MatchOption (cond b (Some (a + n)) (find t (reverse (range_with_len a n)))) (Fails t a (suc n)) (Last t a (suc n))
last_at t a n true h k = record { low = omega arith; high = omega arith; passes = h; following = λ m low high. absurd (omega arith) }
last_at t a n false h k = last_next t a n _ h k

last_of : (t : ℕ → Bool) (n a : ℕ) → MatchOption (find t (reverse (range_with_len a n))) (Fails t a n) (Last t a n)
last_of t zero a = λ m low high. absurd (omega arith)
last_of t (suc n) a = subst (λ (xs : List ℕ). MatchOption (find t xs) (Fails t a (suc n)) (Last t a (suc n))) (sym (reverse_more n a)) (last_at t a n (t (a + n)) refl (last_of t n a))

first_is : (t : ℕ → Bool) (from last : ℕ) (o : Option ℕ) → MatchOption o (Fails t from (last + 1 - from)) (First t from (last + 1 - from)) → MatchOption o (NonePasses t from last) (IsFirst t from last)
first_is t from last None h = λ m low high. h m low (omega arith)
first_is t from last (Some p) h = record { low = h.low; high = omega (arith, h.low, h.high); passes = h.passes; before = h.before }

last_is : (t : ℕ → Bool) (from last : ℕ) (o : Option ℕ) → MatchOption o (Fails t from (last + 1 - from)) (Last t from (last + 1 - from)) → MatchOption o (NonePasses t from last) (IsLast t from last)
last_is t from last None h = λ m low high. h m low (omega arith)
last_is t from last (Some p) h = record { low = h.low; high = omega (arith, h.low, h.high); passes = h.passes; following = λ m low high. h.following m low (omega (arith, h.low)) }

pub finds_first : FindsFirst
unfolding first_one
finds_first standing order from last = first_is (stands standing order) from last _ (first_of (stands standing order) (last + 1 - from) from)

pub finds_last : FindsLast
unfolding last_one
finds_last standing order from last = last_is (stands standing order) from last _ (last_of (stands standing order) (last + 1 - from) from)
