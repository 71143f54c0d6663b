-- The rules of single numbers, and the laws of their formats.
use Rattle.std.proofs.Common.{◌≡◌, ℕ, Bool, true, false, cond, List, [], ◌∷◌, Result, Ok, Err, refl, sym, ap, ◌∙◌, inl, inr, eqb, leb, eqb-true}
use Rattle.std.specs.Prelude.{◌⊎◌}
use Rattle.rpg_object_format.specs.declared.fault.Code.{Code}
use Rattle.rpg_object_format.specs.declared.fault.Code.TheVariants.{NotAllowed, PastLimit}
use Rattle.rpg_object_format.specs.Numbers.{allowed, is_any_number, choice, up_to, exactly, flag_number, number_where, any_number, byte_where, choice_format, yes_or_no, count, only_byte, only_number}
use Rattle.rpg_object_format.proofs.Laws.{IsRule, IsFormat, byte_law, two_law}

pub chosen : {A : Type 0} (b : Bool) (x y z : A) → cond b x y ≡ z → ((b ≡ true) × (x ≡ z)) ⊎ ((b ≡ false) × (y ≡ z))
chosen true x y z e = inl (refl, e)
chosen false x y z e = inr (refl, e)

abbrev pub stands_for : {A : Type 0} → A → Result A Code
stands_for x = Ok x

pub value_is : {A : Type 0} (x y : A) → stands_for x ≡ stands_for y → x ≡ y
value_is x y e = cc

pub guarded : {A : Type 0} (b : Bool) (c : Code) (x y : A) → cond b (stands_for x) (Err c) ≡ stands_for y → x ≡ y
guarded true c x y e = cc
guarded false c x y e = absurd cc

pub choice_rule : {K : Type 0} (ks : List K) (number : K → ℕ) → IsRule (choice ks number) number
choice_rule [] number n x e = absurd cc
choice_rule (k ∷ ks) number n x e =
    elim (chosen (eqb (number k) n) (stands_for k) (choice ks number n) (stands_for x) e) [
      | inl w ↦ ap number (sym (value_is k x w.1)) ∙ eqb-true _ _ w.0
      | inr w ↦ choice_rule ks number n x w.1
    ]

pub allowed_rule : (test : ℕ → Bool) → IsRule (allowed test) (λ n. n)
allowed_rule test n x e = sym (guarded (test n) NotAllowed n x e)

pub up_to_rule : (limit : ℕ) → IsRule (up_to limit) (λ n. n)
up_to_rule limit n x e = sym (guarded (leb n limit) PastLimit n x e)

pub only_rule : (k : ℕ) (c : Code) → IsRule (exactly k c) (λ u. k)
only_rule k c n x e =
    elim (chosen (eqb n k) (stands_for tt) (Err c) (stands_for x) e) [
      | inl w ↦ sym (eqb-true _ _ w.0)
      | inr w ↦ absurd (let m = w.1 in cc)
    ]

-- ---- formats of single numbers

pub number_law : (test : ℕ → Bool) → IsFormat (number_where test)
number_law test = two_law _ _ (allowed_rule test)

pub any_number_law : IsFormat any_number
any_number_law = number_law is_any_number

pub byte_where_law : (test : ℕ → Bool) → IsFormat (byte_where test)
byte_where_law test = byte_law _ _ (allowed_rule test)

pub one_of_law : {K : Type 0} (ks : List K) (number : K → ℕ) → IsFormat (choice_format ks number)
one_of_law ks number = byte_law (choice ks number) number (choice_rule ks number)

pub yes_or_no_law : IsFormat yes_or_no
yes_or_no_law = one_of_law (false ∷ true ∷ []) flag_number

pub count_law : (limit : ℕ) → IsFormat (count limit)
count_law limit = two_law (up_to limit) (λ n. n) (up_to_rule limit)

pub only_byte_law : (k : ℕ) (c : Code) → IsFormat (only_byte k c)
only_byte_law k c = byte_law _ _ (only_rule k c)

pub only_number_law : (k : ℕ) (c : Code) → IsFormat (only_number k c)
only_number_law k c = two_law _ _ (only_rule k c)
