-- What operations on numbers leave in result fields, indicators and the remainder.
use Rattle.std.specs.Prelude.{◌≡◌, ◌≢◌, ℕ, zero, suc, ◌+◌, max, ℤ, pos, negsuc, ◌+ℤ◌, neg_ℤ, Bool, true, false, not, ◌&&◌, ◌||◌, ◌==◌, map, Option, None, Some}
use Rattle.std.specs.FinSet as set
use Rattle.std.specs.List.{fold, range_with_len}
use Rattle.std.specs.Ordering.{eq_by_cmp, nat_cmp}
use Rattle.std.specs.declared.cmp.Ordering.{Ordering}
use Rattle.std.specs.declared.cmp.Ordering.TheVariants.{Less, Equal, Greater}
use Rattle.rpg_decimal_words.specs.Fraction.{Fraction, aligned_number, minus, over, plus, quotient_of, stored_number, times, with_decimals}
use Rattle.rpg_program.specs.Act.{act}
use Rattle.rpg_program.specs.Ended.{Ended}
use Rattle.rpg_program.specs.Ends.{Continues}
use Rattle.rpg_program.specs.Forms.{decimals_of, entries_of, length_of}
use Rattle.rpg_program.specs.Values.{Number, entry_cmp}
use Rattle.rpg_program.specs.World.{Data, number_at, value_at}
use Rattle.rpg_program.specs.declared.form.FieldForm.{FieldForm}
use Rattle.rpg_program.specs.declared.operation.Action.TheVariants.{Compute, Divide, Assign, TakeRemainder, CrossFoot}
use Rattle.rpg_program.specs.declared.operation.Entry.{Entry}
use Rattle.rpg_program.specs.declared.operation.Operator.TheVariants.{Add, Subtract, Multiply}
use Rattle.rpg_program.specs.declared.operation.Shows.{Shows}

-- the order of a number to zero
abbrev pub sign : ℤ → Ordering
sign (negsuc n) = Less
sign (pos zero) = Equal
sign (pos (suc n)) = Greater

-- ---- resulting indicators

-- this indicator is named
abbrev pub names : Option ℕ → ℕ → Bool
names None i = false
names (Some n) i = i == n

-- it is named for this outcome: plus or high, minus or low, zero or equal
abbrev pub names_for : Shows → Ordering → ℕ → Bool
names_for s Greater i = names s.plus i
names_for s Less i = names s.minus i
names_for s Equal i = names s.zero i

-- it is on already, and no outcome names it
abbrev pub stays : Shows → set.FinSet nat_cmp → ℕ → Bool
stays s on i = not (names s.zero i) && (not (names s.minus i) && (not (names s.plus i) && set.contains on i))

-- the indicators for the outcome are on, those for other outcomes off, and all others as they were
abbrev pub ShowOutcome : Shows → Ordering → set.FinSet nat_cmp → set.FinSet nat_cmp → Type 0
ShowOutcome s order before after = (i : ℕ) → set.contains after i ≡ (names_for s order i || stays s before i)

-- ---- operations

module _ {K : Type 0} {R : K → K → Ordering} (forms : K → Option FieldForm) where
  -- the number at a position of a field
  abbrev pub number_there : Data R → K → ℕ → Fraction
  number_there d k p = with_decimals (number_at d k p) (decimals_of (forms k))

  -- the number of an operand
  abbrev pub number_of_entry : Data R → Entry K → Fraction
  number_of_entry d e = number_there d e.field e.position

  -- the sum of all entries of an array
  abbrev pub array_total : Data R → Entry K → Fraction
  array_total d b = with_decimals (fold (λ x y. x +ℤ y) (pos 0) (map (number_at d b.field) (range_with_len 1 (entries_of (forms b.field))))) (decimals_of (forms b.field))

  -- What a division leaves: dividend less divisor times quotient, with the decimals of the dividend, or those of divisor and quotient together if
  -- these are more
  abbrev pub rest_left : Data R → Entry K → Entry K → Entry K → Fraction
  rest_left d a b r =
      let decimals = max (decimals_of (forms a.field)) (decimals_of (forms b.field) + decimals_of (forms r.field)) in
      let p = number_of_entry d a in
      let q = number_of_entry d b in
      with_decimals (aligned_number false decimals (minus p (times q (quotient_of p q (decimals_of (forms r.field)))))) decimals

  -- The operation goes on. The result field has n, all other entries stay, and the indicators show the sign.
  pub record Has (d : Data R) (r : Entry K) (s : Shows) (n : ℤ) (o : Ended R) : Type 0 where
    pub goes_on : o.ending ≡ Continues
    pub value : value_at o.data r.field r.position ≡ Some (Number n)
    pub others : (k : K) (q : ℕ) → eq_by_cmp (entry_cmp R) (k, q) (r.field, r.position) ≡ false → value_at o.data k q ≡ value_at d k q
    pub current : o.data.fields.current ≡ d.fields.current
    pub shows : ShowOutcome s (sign n) d.on o.data.on

  -- the result field has an exact number as it keeps it: cut off or half adjusted, and without digits too many on the left
  abbrev pub HasResult : Data R → Entry K → Shows → Bool → Fraction → Ended R → Type 0
  HasResult d r s half p = Has d r s (stored_number half (decimals_of (forms r.field)) (length_of (forms r.field)) p)

  -- the result of each operation on numbers, and the remainder that DIV leaves
  pub record Computes (d : Data R) (half : Bool) (a b r : Entry K) (s : Shows) : Type 0 where
    pub add : HasResult d r s half (plus (number_of_entry d a) (number_of_entry d b)) (act forms (Compute Add half a b r s) d)
    pub subtract : HasResult d r s half (minus (number_of_entry d a) (number_of_entry d b)) (act forms (Compute Subtract half a b r s) d)
    pub multiply : HasResult d r s half (times (number_of_entry d a) (number_of_entry d b)) (act forms (Compute Multiply half a b r s) d)
    pub zero_add : HasResult d r s half (number_of_entry d b) (act forms (Assign false half b r s) d)
    pub zero_subtract : HasResult d r s half (with_decimals (neg_ℤ (number_at d b.field b.position)) (decimals_of (forms b.field))) (act forms (Assign true half b r s) d)
    pub cross_foot : HasResult d r s half (array_total d b) (act forms (CrossFoot half b r s) d)
    pub divide : number_at d b.field b.position ≢ pos 0 → HasResult d r s half (over (number_of_entry d a) (number_of_entry d b)) (act forms (Divide half a b r s) d)
    pub left : number_at d b.field b.position ≢ pos 0 → (act forms (Divide false a b r s) d).data.remainder ≡ rest_left d a b r
    pub half_left : number_at d b.field b.position ≢ pos 0 → (act forms (Divide true a b r s) d).data.remainder ≡ d.remainder
    pub remainder : HasResult d r s false d.remainder (act forms (TakeRemainder r s) d)

-- operations on numbers, for fields by any keys
abbrev pub OperationsCompute : {K : Type 0} → (K → K → Ordering) → Type 0
OperationsCompute {K} R = (forms : K → Option FieldForm) (d : Data R) (half : Bool) (a b r : Entry K) (s : Shows) → Computes forms d half a b r s
