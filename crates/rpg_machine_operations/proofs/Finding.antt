-- What a search finds is among the positions that it goes through, and fits where it goes.
use Rattle.std.proofs.Common.{◌≡◌, ℕ, zero, suc, pos, ◌+◌, ◌-◌, ◌≤◌, ◌<◌, ◌^◌, unsigned_abs, Bool, true, false, ◌&&◌, cond, nat_le, List, reverse, Option, None, Some, IfSome, Ordering, nat_cmp, Less, Equal, Greater, refl, sym, ap, ◌∙◌, subst, arith, leb-true}
use Rattle.std.proofs.Math.Nat.{pow-le-pow_right}
use Rattle.std.proofs.lemmas.Option.{same_Some}
use Rattle.std.specs.List.{find, range_with_len}
use Rattle.rpg_program.specs.Act.{found_in, found_shown, looked_up, with_found, position_fault, order_at, search_start}
use Rattle.rpg_program.specs.Forms.{entries_of, length_of}
use Rattle.rpg_program.specs.Ended.{ends_with}
use Rattle.rpg_program.specs.Rows.{can_hold, holds_position}
use Rattle.rpg_program.specs.Search.{first_one, found_as, if_named, last_one, nearest, or_else, positions, search_of, stands}
use Rattle.rpg_program.specs.World.{Data}
use Rattle.rpg_program.specs.declared.form.FieldForm.{FieldForm}
use Rattle.rpg_program.specs.declared.form.Kind.{Kind}
use Rattle.rpg_program.specs.declared.operation.Entry.{Entry}
use Rattle.rpg_program.specs.declared.operation.Found.{Found}
use Rattle.rpg_program.specs.declared.operation.Index.{Index}
use Rattle.rpg_program.specs.declared.operation.Index.TheVariants.{Blank, Literal, Field}
use Rattle.rpg_program.specs.declared.operation.Shows.{Shows}
use Rattle.rpg_program.specs.Ends.{Fault, Continues}
use Rattle.rpg_memory.specs.Fields.{AreForms, IsValue, reads_index}
use Rattle.rpg_machine_operations.specs.Valid.{FitsPosition, HasPosition}
use Rattle.rpg_memory.proofs.Entries.{index_value, and_true}
use Rattle.rpg_program.proofs.Searches.{reverse_more}
use Rattle.rpg_memory.proofs.Values.{length_low}
use Rattle.rpg_program.specs.Forms.{form_at}

pub record Between (from last p : ℕ) : Type 0 where
  pub low : from ≤ p
  pub high : p ≤ last

-- ---- positions that are found

first_within : (t : ℕ → Bool) (n a p : ℕ) → find t (range_with_len a n) ≡ Some p → (a ≤ p) × (p < a + n)
first_within t zero a p h = cc
first_within t (suc n) a p h = at (λ e. first_within t n (a + 1) p e) (t a) h
  where
    at : (find t (range_with_len (a + 1) n) ≡ Some p → (a + 1 ≤ p) × (p < a + 1 + n)) → (b : Bool) → cond b (Some a) (find t (range_with_len (a + 1) n)) ≡ Some p → (a ≤ p) × (p < a + suc n)
    at rest true e = let is : a ≡ p = same_Some a p e in (omega arith, omega arith)
    at rest false e = let r = rest e in (omega (arith, r.0), omega (arith, r.1))

last_within : (t : ℕ → Bool) (n a p : ℕ) → find t (reverse (range_with_len a n)) ≡ Some p → (a ≤ p) × (p < a + n)
last_within t zero a p h = cc
last_within t (suc n) a p h = at (λ e. last_within t n a p e) (t (a + n)) (sym (ap (find t) (reverse_more n a)) ∙ h)
  where
    at : (find t (reverse (range_with_len a n)) ≡ Some p → (a ≤ p) × (p < a + n)) → (b : Bool) → cond b (Some (a + n)) (find t (reverse (range_with_len a n))) ≡ Some p → (a ≤ p) × (p < a + suc n)
    at rest true e = let is : a + n ≡ p = same_Some (a + n) p e in (omega arith, omega arith)
    at rest false e = let r = rest e in (omega (arith, r.0), omega (arith, r.1))

between : (from last p : ℕ) → (from ≤ p) × (p < from + (last + 1 - from)) → Between from last p
between from last p h = record { low = h.0; high = omega (arith, h.0, h.1) }

module _ (standing : ℕ → Ordering) (from last : ℕ) where
  nearest_within : (order : Ordering) (p : ℕ) → nearest standing order (positions from last) ≡ Some p → Between from last p
  unfolding first_one last_one
  nearest_within Equal p h = between from last p (first_within (stands standing Equal) (last + 1 - from) from p h)
  nearest_within Greater p h = between from last p (first_within (stands standing Greater) (last + 1 - from) from p h)
  nearest_within Less p h = between from last p (last_within (stands standing Less) (last + 1 - from) from p h)

  abbrev IsWithin : Option Found → Type 0
  IsWithin o = IfSome o (λ f. Between from last f.position)

  as_within : (order : Ordering) (o : Option ℕ) → nearest standing order (positions from last) ≡ o → IsWithin (found_as order o)
  as_within order None h = tt
  as_within order (Some p) h = nearest_within order p h

  asked_within : (indicator : Option ℕ) (o : Option Found) → IsWithin o → IsWithin (if_named indicator o)
  asked_within None o h = tt
  asked_within (Some n) o h = h

  else_within : (f g : Option Found) → IsWithin f → IsWithin g → IsWithin (or_else f g)
  else_within None g h k = k
  else_within (Some f) g h k = h

  one_within : (order : Ordering) (indicator : Option ℕ) → IsWithin (if_named indicator (found_as order (nearest standing order (positions from last))))
  one_within order indicator = asked_within indicator _ (as_within order _ refl)

  pub search_within : (s : Shows) → IsWithin (search_of standing s (positions from last))
  unfolding search_of
  search_within s = else_within _ _ (one_within Equal s.zero) (else_within _ _ (one_within Greater s.plus) (one_within Less s.minus))

-- ---- where a search starts

start_at : (forms : List FieldForm) (k : Kind) (e : Entry ℕ) (index : Index ℕ) → e.index ≡ index → IsValue forms k e.field e.position → (1 ≤ search_start e) × (search_start e ≤ entries_of (form_at forms e.field))
start_at forms k e Blank is v =
    let one : search_start e ≡ 1 = rw is refl in
    let n : entries_of (form_at forms e.field) ≡ v.form.entries = ap entries_of v.there in
    (omega (arith, one), omega (arith, one, n, v.low, v.high))
start_at forms k e (Literal m) is v =
    let one : search_start e ≡ e.position = rw is refl in
    let n : entries_of (form_at forms e.field) ≡ v.form.entries = ap entries_of v.there in
    (omega (arith, one, v.low), omega (arith, one, n, v.high))
start_at forms k e (Field m) is v =
    let one : search_start e ≡ e.position = rw is refl in
    let n : entries_of (form_at forms e.field) ≡ v.form.entries = ap entries_of v.there in
    (omega (arith, one, v.low), omega (arith, one, n, v.high))

pub start_within : (forms : List FieldForm) (k : Kind) (e : Entry ℕ) → IsValue forms k e.field e.position → (1 ≤ search_start e) × (search_start e ≤ entries_of (form_at forms e.field))
start_within forms k e v = start_at forms k e e.index refl v

-- ---- what is found fits where it goes

le_trans_test : (n m last : ℕ) → n ≤ m → nat_le m last ≡ true → nat_le n last ≡ true
le_trans_test n m last h k = let l : m ≤ last = leb-true m last k in grind arith

hold_less : (forms : ℕ → Option FieldForm) (index : Index ℕ) (n m : ℕ) → n ≤ m → can_hold forms index m ≡ true → can_hold forms index n ≡ true
hold_less forms Blank n m h k = refl
hold_less forms (Literal l) n m h k = refl
hold_less forms (Field f) n m h k = le_trans_test (suc n) (suc m) (10 ^ length_of (forms f)) (omega arith) k

and_both : (a b : Bool) → a ≡ true → b ≡ true → (a && b) ≡ true
and_both true b h k = k
and_both false b h k = cc

holds_less : (forms : ℕ → Option FieldForm) (index : Index ℕ) (table : Option ℕ) (n m : ℕ) → n ≤ m → holds_position forms index table m ≡ true → holds_position forms index table n ≡ true
holds_less forms index None n m h k = hold_less forms index n m h k
holds_less forms index (Some t) n m h k =
    let both = and_true _ _ k in
    and_both _ _ (hold_less forms index n m h both.0) (le_trans_test n m (entries_of (forms t)) h both.1)

fits_if : (forms : List FieldForm) (k : Kind) (b : Entry ℕ) (table : Option ℕ) (o : Option Found) → IsValue forms k b.field b.position → holds_position (form_at forms) b.index table (entries_of (form_at forms b.field)) ≡ true →
    IfSome o (λ f. Between (search_start b) (entries_of (form_at forms b.field)) f.position) → IfSome o (λ f. FitsPosition forms b table f.position)
fits_if forms k b table None v holds h = tt
fits_if forms k b table (Some f) v holds h =
    let s = start_within forms k b v in
    record { low = omega (arith, s.0, h.low); high = h.high; holds = holds_less (form_at forms) b.index table f.position _ h.high holds }

-- a position that a search finds fits where it goes
pub found_fits : (forms : List FieldForm) (k : Kind) (w : Data nat_cmp) (a b : Entry ℕ) (table : Option ℕ) (s : Shows) (o : Option Found) → IsValue forms k b.field b.position →
    holds_position (form_at forms) b.index table (entries_of (form_at forms b.field)) ≡ true → o ≡ found_in (form_at forms) w a b s → IfSome o (λ f. FitsPosition forms b table f.position)
unfolding found_in
found_fits forms k w a b table s o v holds is =
    fits_if forms k b table o v holds (subst (λ (x : Option Found). IfSome x (λ f. Between (search_start b) (entries_of (form_at forms b.field)) f.position)) (sym is) (search_within (order_at (form_at forms) w a b) (search_start b) (entries_of (form_at forms b.field)) s))

no_fault : (b : Bool) (f : Fault) → b ≡ true → cond b None (Some f) ≡ None
no_fault b f h = rw h refl

pub no_position_fault : (forms : List FieldForm) (b : Entry ℕ) (table : Option ℕ) (o : Option Found) → IfSome o (λ f. FitsPosition forms b table f.position) → position_fault (form_at forms) b table o ≡ None
unfolding position_fault
no_position_fault forms b table None h = refl
no_position_fault forms b table (Some f) h = no_fault _ _ h.holds

-- ---- index fields

pub held : (forms : List FieldForm) (k n : ℕ) → can_hold (form_at forms) (Field k) n ≡ true → unsigned_abs (pos n) < 10 ^ length_of (form_at forms k)
held forms k n h = leb-true (suc n) _ h

ten_above : (len : ℕ) → 1 ≤ len → 1 < 10 ^ len
ten_above len h =
    let ten : 0 < 10 = omega arith in
    let p : 10 ^ 1 ≤ 10 ^ len = pow-le-pow_right ten h in
    omega (arith, p)

-- the first position fits any index field
pub first_fits : (forms : List FieldForm) (index : Index ℕ) → AreForms forms → reads_index forms index ≡ true → can_hold (form_at forms) index 1 ≡ true
first_fits forms Blank valid h = refl
first_fits forms (Literal n) valid h = refl
first_fits forms (Field k) valid h =
    let low : 1 < 10 ^ length_of (form_at forms k) = ten_above _ (length_low forms k 1 valid (index_value forms k valid h)) in
    grind arith

pub has_position : (forms : List FieldForm) (b : Entry ℕ) (table : Option ℕ) (n : ℕ) → FitsPosition forms b table n → HasPosition forms table n
has_position forms b None n h = tt
has_position forms b (Some t) n h = leb-true n (entries_of (form_at forms t)) (and_true _ _ h.holds).1

pub holds_index : (forms : List FieldForm) (b : Entry ℕ) (table : Option ℕ) (n : ℕ) → FitsPosition forms b table n → can_hold (form_at forms) b.index n ≡ true
holds_index forms b None n h = h.holds
holds_index forms b (Some t) n h = (and_true _ _ h.holds).0

-- where nothing is wrong with the position, LOKUP leaves the data with what was found
pub looked : (forms : List FieldForm) (w v : Data nat_cmp) (b : Entry ℕ) (table : Option ℕ) (s : Shows) (o : Option Found) → IfSome o (λ f. FitsPosition forms b table f.position) → v ≡ found_shown (form_at forms) s o (with_found (form_at forms) b table o w) →
    ends_with Continues v ≡ looked_up (form_at forms) w b table s o
unfolding looked_up
looked forms w v b table s o fits is = rw (no_position_fault forms b table o fits) (ap (λ (x : Data nat_cmp). ends_with Continues x) is)
