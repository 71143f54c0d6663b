-- The results of operations on numbers.
use Rattle.std.proofs.Common.{◌≡◌, ◌≢◌, ℕ, zero, suc, Bool, true, false, not, ◌&&◌, ◌||◌, cond, ℤ, pos, negsuc, ◌+ℤ◌, Option, None, Some, Ordering, List, [], ◌∷◌, ◌++◌, map, refl, sym, ap, ap₂, ◌∙◌, subst, arith, nat_cmp}
use Rattle.std.proofs.lemmas.Bool.{le-ltb, lt-ltb}
use Rattle.std.proofs.lemmas.Cmp.{tied_itself}
use Rattle.std.specs.Cmp.{IsTotalOrder, nat_cmp_total, on_total, then_total, unsigned_tied}
use Rattle.std.specs.FinMap as maps
use Rattle.std.specs.FinSet as set
use Rattle.std.specs.List.{fold, range_with_len}
use Rattle.std.specs.Ordering.{int_eq, is_eq}
use Rattle.std.specs.declared.cmp.Ordering.TheVariants.{Less, Equal, Greater}
use Rattle.rpg_decimal_words.specs.Fraction.{Fraction, over, with_decimals}
use Rattle.rpg_program.proofs.Searches.{one_more}
use Rattle.rpg_program.specs.Act.{act, remainder_after, store, stored_value, sum_to}
use Rattle.rpg_program.specs.Ended.{Ended, Gives, or_halt}
use Rattle.rpg_program.specs.Forms.{decimals_of, entries_of}
use Rattle.rpg_program.specs.Showing.{named_off, shown, sign_of, turned_off, turned_on}
use Rattle.rpg_program.specs.Values.{Number, Value, entry_cmp}
use Rattle.rpg_program.specs.World.{Data, Fields, number_at, value_at, value_in, with_value}
use Rattle.rpg_program.specs.declared.form.FieldForm.{FieldForm}
use Rattle.rpg_program.specs.declared.operation.Action.TheVariants.{CrossFoot}
use Rattle.rpg_program.specs.declared.operation.Entry.{Entry}
use Rattle.rpg_program.specs.declared.operation.Shows.{Shows}
use Rattle.rpg_operation_laws.specs.Results.{Computes, HasResult, ShowOutcome, names, names_for, number_of_entry, sign, stays}

-- ---- indicators and entries

on_is : (o : Option ℕ) (on : set.FinSet nat_cmp) (i : ℕ) → set.contains (turned_on o on) i ≡ (names o i || set.contains on i)
on_is None on i = refl
on_is (Some n) on i = set.contains-insert nat_cmp_total on n i ∙ ap (λ b. b || set.contains on i) (unsigned_tied i n)

off_is : (o : Option ℕ) (on : set.FinSet nat_cmp) (i : ℕ) → set.contains (turned_off o on) i ≡ (not (names o i) && set.contains on i)
off_is None on i = refl
off_is (Some n) on i = set.contains-remove nat_cmp_total on n i ∙ ap (λ b. not b && set.contains on i) (unsigned_tied i n)

pub named_off_is : (s : Shows) (on : set.FinSet nat_cmp) (i : ℕ) → set.contains (named_off s on) i ≡ stays s on i
named_off_is s on i = off_is s.zero _ i ∙ ap (λ b. not (names s.zero i) && b) (off_is s.minus _ i ∙ ap (λ b. not (names s.minus i) && b) (off_is s.plus on i))

pub shown_is : (s : Shows) (order : Ordering) (on : set.FinSet nat_cmp) → ShowOutcome s order on (shown s order on)
unfolding shown
shown_is s Less on i = on_is s.minus _ i ∙ ap (λ b. names s.minus i || b) (named_off_is s on i)
shown_is s Equal on i = on_is s.zero _ i ∙ ap (λ b. names s.zero i || b) (named_off_is s on i)
shown_is s Greater on i = on_is s.plus _ i ∙ ap (λ b. names s.plus i || b) (named_off_is s on i)

module _ {K : Type 0} {R : K → K → Ordering} (o : IsTotalOrder R) where
  pub entries_total : IsTotalOrder (entry_cmp R)
  entries_total = then_total (on_total (λ p. p.0) o) (on_total (λ p. p.1) nat_cmp_total)

  pub has_value : (fields : Fields R) (e : K × ℕ) (v : Value) → value_in (with_value e v fields) e ≡ Some v
  has_value fields e v = maps.get-insert entries_total fields.values e v e ∙ ap (λ x. cond (is_eq x) (Some v) (maps.get fields.values e)) (tied_itself entries_total e)

-- ---- numbers

sign_is : (n : ℤ) → sign_of n ≡ sign n
sign_is (negsuc n) = refl
sign_is (pos zero) = refl
sign_is (pos (suc n)) = ap₂ (λ a b. cond a Less (cond b Greater Equal)) (le-ltb (suc n) 0 (omega arith)) (lt-ltb 0 (suc n) (omega arith))

not_zero : (n : ℤ) → n ≢ pos 0 → int_eq n (pos 0) ≡ false
not_zero (pos zero) h = absurd (h refl)
not_zero (pos (suc n)) h = ap is_eq (sign_is (pos (suc n)))
not_zero (negsuc n) h = refl

-- the sum of all entries, one more at a time
summed_is : (f : ℕ → ℤ) (n : ℕ) → sum_to f n ≡ fold (λ x y. x +ℤ y) (pos 0) (map f (range_with_len 1 n))
summed_is f zero = refl
summed_is f (suc n) =
    ap (λ z. z +ℤ f (suc n)) (summed_is f n) ∙ sym (ap (λ xs. fold (λ x y. x +ℤ y) (pos 0) (map f xs)) (one_more n 1 (suc n) (omega arith)) ∙ from (pos 0) (range_with_len 1 n))
  where
    from : (a : ℤ) (xs : List ℕ) → fold (λ x y. x +ℤ y) a (map f (xs ++ suc n ∷ [])) ≡ fold (λ x y. x +ℤ y) a (map f xs) +ℤ f (suc n)
    from a [] = refl
    from a (x ∷ xs) = from (a +ℤ f x) xs

-- ---- operations

module _ {K : Type 0} {R : K → K → Ordering} (o : IsTotalOrder R) (forms : K → Option FieldForm) (d : Data R) where
  result : (rest : Fraction) (half : Bool) (r : Entry K) (s : Shows) (p : Fraction) → HasResult forms d r s half p (Gives (store (record d { remainder = rest }) r s (stored_value half (forms r.field) p)))
  result rest half r s p =
      let n = stored_value half (forms r.field) p in
      record {
        goes_on = refl;
        value = has_value o d.fields (r.field, r.position) (Number n);
        others = λ k q apart. maps.get-insert (entries_total o) d.fields.values (r.field, r.position) (Number n) (k, q) ∙ ap (λ b. cond b (Some (Number n)) (value_at d k q)) apart;
        current = refl;
        shows = subst (λ x. (i : ℕ) → set.contains (store d r s n).on i ≡ (names_for s x i || stays s d.on i)) (sign_is n) (shown_is s (sign_of n) d.on);
      }

  divided_by : Bool → Bool → Entry K → Entry K → Entry K → Shows → Ended R
  divided_by is_zero half a b r s =
      or_halt (cond is_zero None (Some (over (number_of_entry forms d a) (number_of_entry forms d b)))) 1 d
      (λ n. Gives (store (record d { remainder = remainder_after forms half d a b r }) r s (stored_value half (forms r.field) n)))

  pub computes : (half : Bool) (a b r : Entry K) (s : Shows) → Computes forms d half a b r s
  unfolding act divided_by
  computes half a b r s = record {
    add = result d.remainder half r s _;
    subtract = result d.remainder half r s _;
    multiply = result d.remainder half r s _;
    zero_add = result d.remainder half r s _;
    zero_subtract = result d.remainder half r s _;
    cross_foot = subst (λ z. HasResult forms d r s half (with_decimals z (decimals_of (forms b.field))) (act forms (CrossFoot half b r s) d))
        (summed_is (number_at d b.field) (entries_of (forms b.field))) (result d.remainder half r s _);
    divide = λ some. subst (λ z. HasResult forms d r s half (over (number_of_entry forms d a) (number_of_entry forms d b)) (divided_by z half a b r s))
        (sym (not_zero (number_at d b.field b.position) some)) (result (remainder_after forms half d a b r) half r s _);
    left = λ some. ap (λ z. (divided_by z false a b r s).data.remainder) (not_zero (number_at d b.field b.position) some);
    half_left = λ some. ap (λ z. (divided_by z true a b r s).data.remainder) (not_zero (number_at d b.field b.position) some);
    remainder = result d.remainder false r s d.remainder;
  }
