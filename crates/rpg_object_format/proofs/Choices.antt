-- Tests and what they decide, numbers that pass them, and tables of rows that keep something.
use Rattle.std.proofs.Common.{◌≡◌, ℕ, zero, suc, ◌<◌, ◌≤◌, ◌^◌, Bool, true, false, cond, List, [], ◌∷◌, length, Option, Some, Ok, Err, refl, arith, inl, inr, leb}
use Rattle.std.specs.Prelude.{All, ◌⊎◌}
use Rattle.std.proofs.lemmas.Bool.{and_from, and_parts, le-leb, leb-true}
use Rattle.rpg_object_format.specs.declared.fault.Code.TheVariants.{NotAllowed, PastLimit}
use Rattle.rpg_object_format.specs.Format.{AllAlong, Format, keep, table, times_with}
use Rattle.rpg_object_format.specs.Numbers.{allowed, flag, flag_number, up_to}
use Rattle.rpg_object_format.proofs.Rules.{chosen, stands_for}
use Rattle.rpg_text.specs.Texts.{is_between}

pub decided : {A : Type 0} (b : Bool) (x y : A) → ((b ≡ true) × (cond b x y ≡ x)) ⊎ ((b ≡ false) × (cond b x y ≡ y))
decided true x y = inl (refl, refl)
decided false x y = inr (refl, refl)

pub some_is : {A : Type 0} (x y : A) → ◌≡◌ {A = Option A} (Some x) (Some y) → x ≡ y
some_is x y e = cc

-- ---- numbers

-- a number that a test takes
pub passed : (test : ℕ → Bool) (n : ℕ) → allowed test n ≡ Ok n → test n ≡ true
passed test n e =
    elim (chosen (test n) (stands_for n) (Err NotAllowed) (stands_for n) e) [
      | inl w ↦ w.0
      | inr w ↦ absurd (let k = w.1 in cc)
    ]

pub taken : (test : ℕ → Bool) (n : ℕ) → test n ≡ true → allowed test n ≡ Ok n
taken test n e = rw e refl

pub within : (low high n : ℕ) → allowed (is_between low high) n ≡ Ok n → (low ≤ n) × (n ≤ high)
within low high n e = let k = and_parts (leb low n) (leb n high) (passed (is_between low high) n e) in (leb-true _ _ k.0, leb-true _ _ k.1)

pub between : (low high n : ℕ) → low ≤ n → n ≤ high → allowed (is_between low high) n ≡ Ok n
between low high n a b = taken (is_between low high) n (and_from (leb low n) (leb n high) (le-leb low n a) (le-leb n high b))

pub counted : (limit n : ℕ) → up_to limit n ≡ Ok n → n ≤ limit
counted limit n e =
    elim (chosen (leb n limit) (stands_for n) (Err PastLimit) (stands_for n) e) [
      | inl w ↦ leb-true _ _ w.0
      | inr w ↦ absurd (let k = w.1 in cc)
    ]

pub few : (limit n : ℕ) → n ≤ limit → up_to limit n ≡ Ok n
few limit n h = rw (le-leb n limit h) refl

pub flag_from : (b : Bool) → (flag (flag_number b) ≡ Ok b) × (flag_number b < 2 ^ 8)
flag_from true = (refl, omega arith)
flag_from false = (refl, omega arith)

-- ---- tables

all_from_along : {X : Type 0} (P Q : X → Type 0) → ((x : X) → P x → Q x) → (xs : List X) → AllAlong (λ s x. P x) keep tt xs → All Q xs
all_from_along P Q each [] h k d lt = absurd (omega arith)
all_from_along P Q each (x ∷ xs) h zero d lt = each x h.0
all_from_along P Q each (x ∷ xs) h (suc k) d lt = all_from_along P Q each xs h.1 k d (omega arith)

-- what each row keeps, all rows of a table keep
pub all_from_table : {X : Type 0} (f : Format X) (Q : X → Type 0) → ((x : X) → f.Holds x → Q x) → (n : ℕ) (xs : List X) → (table n f).Holds xs → All Q xs
unfolding times_with
all_from_table f Q each n xs h = all_from_along f.Holds Q each xs h.1

along_from_all : {X : Type 0} (P Q : X → Type 0) → ((x : X) → Q x → P x) → (xs : List X) → All Q xs → AllAlong (λ s x. P x) keep tt xs
along_from_all P Q each [] h = tt
along_from_all P Q each (x ∷ xs) h = (each x (h 0 x (omega arith)), along_from_all P Q each xs (λ k d lt. h (suc k) d (omega arith)))

pub table_from_all : {X : Type 0} (f : Format X) (Q : X → Type 0) → ((x : X) → Q x → f.Holds x) → (xs : List X) → All Q xs → (table (length xs) f).Holds xs
unfolding times_with
table_from_all f Q each xs h = (refl, along_from_all f.Holds Q each xs h)
