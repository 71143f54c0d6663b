-- What LOKUP finds, and the entry that an operand names.
use Rattle.std.proofs.Common.{◌≡◌, ℕ, ◌≤◌, Bool, true, false, cond, ◌||◌, ℤ, pos, negsuc, Option, None, Some, MatchOption, Ordering, refl, ap, ◌∙◌, subst, arith}
use Rattle.std.proofs.lemmas.Bool.Decides.{nat_tests}
use Rattle.std.proofs.lemmas.Cmp.{tied_itself}
use Rattle.std.specs.Cmp.{IsTotalOrder}
use Rattle.std.specs.FinMap as map
use Rattle.std.specs.Option.{option_map}
use Rattle.std.specs.Ordering.{eq_by_cmp, is_eq}
use Rattle.std.specs.Prelude.{is_some, unwrap_or}
use Rattle.std.specs.declared.cmp.Ordering.TheVariants.{Less, Equal, Greater}
use Rattle.rpg_program.proofs.PlaceLaws.{finds_first, finds_last}
use Rattle.rpg_program.specs.Act.{act, entry_at, field_of_entry, found_in, found_shown, index_set, looked_up, made_current, made_current_if_any, order_at, order_by, position_fault, search_start, with_found}
use Rattle.rpg_program.specs.Ended.{Gives, if_right}
use Rattle.rpg_program.specs.Ends.{Continues, Fault}
use Rattle.rpg_program.specs.Entries.{in_range, position_of}
use Rattle.rpg_program.specs.Forms.{entries_of, is_table_form, kind_of}
use Rattle.rpg_program.specs.Places.{IsFirst, IsLast, NonePasses}
use Rattle.rpg_program.specs.Rows.{is_blank_index}
use Rattle.rpg_program.specs.Search.{first_one, found_as, if_named, last_one, or_else, positions, same_order, search_of}
use Rattle.rpg_program.specs.Showing.{shown_if_any}
use Rattle.rpg_program.specs.Values.{Number}
use Rattle.rpg_program.specs.World.{Data, Fields, current_in, set_current}
use Rattle.rpg_program.specs.declared.form.FieldForm.{FieldForm}
use Rattle.rpg_program.specs.declared.form.Kind.{Kind}
use Rattle.rpg_program.specs.declared.form.Kind.TheVariants as kinds
use Rattle.rpg_program.specs.declared.operation.Action.TheVariants.{LookUp}
use Rattle.rpg_program.specs.declared.operation.Entry.{Entry}
use Rattle.rpg_program.specs.declared.operation.Found.{Found}
use Rattle.rpg_program.specs.declared.operation.Index.{Index}
use Rattle.rpg_program.specs.declared.operation.Index.TheVariants.{Blank, Literal, Field}
use Rattle.rpg_program.specs.declared.operation.Shows.{Shows}
use Rattle.rpg_operation_laws.proofs.Results.{has_value, named_off_is, shown_is}
use Rattle.rpg_operation_laws.specs.Found.{AfterFound, AfterNone, FindsNearest, FindsNone, IndexHas, LooksUp, NamesEntries, begins_at, entry_against, is_order}
use Rattle.rpg_operation_laws.specs.Results.{names_for, stays}

-- ---- the nearest entry

same_test : (order x : Ordering) → same_order order x ≡ is_order order x
same_test Less Less = refl
same_test Less Equal = refl
same_test Less Greater = refl
same_test Equal Less = refl
same_test Equal Equal = refl
same_test Equal Greater = refl
same_test Greater Less = refl
same_test Greater Equal = refl
same_test Greater Greater = refl

module _ (entry : ℕ → Ordering) (from last : ℕ) where
  abbrev none : Ordering → Type 0
  none order = NonePasses (λ m. is_order order (entry m)) from last

  first_is : (order : Ordering) → MatchOption (first_one entry order (positions from last)) (none order) (IsFirst (λ m. is_order order (entry m)) from last)
  first_is order = subst (λ (t : ℕ → Bool). MatchOption (first_one entry order (positions from last)) (NonePasses t from last) (IsFirst t from last))
      (λ i m. same_test order (entry m) i) (finds_first entry order from last)

  last_is : (order : Ordering) → MatchOption (last_one entry order (positions from last)) (none order) (IsLast (λ m. is_order order (entry m)) from last)
  last_is order = subst (λ (t : ℕ → Bool). MatchOption (last_one entry order (positions from last)) (NonePasses t from last) (IsLast t from last))
      (λ i m. same_test order (entry m) i) (finds_last entry order from last)

  -- the columns one after the other; `e`, `g` and `l` are what each finds
  low : (s : Shows) (minus : Option ℕ) → s.minus ≡ minus → (l : Option ℕ) → MatchOption l (none Less) (IsLast (λ m. is_order Less (entry m)) from last)
      → FindsNone entry s from last s.zero Equal → FindsNone entry s from last s.plus Greater → FindsNearest entry s from last (if_named minus (found_as Less l))
  low s None is l h a b = (a, b, λ k. absurd cc)
  low s (Some i) is None h a b = (a, b, λ k. h)
  low s (Some i) is (Some n) h a b = (a, b, ap is_some is, h)

  high : (s : Shows) (plus : Option ℕ) → s.plus ≡ plus → (g : Option ℕ) → MatchOption g (none Greater) (IsFirst (λ m. is_order Greater (entry m)) from last)
      → (rest : Option Found) → (FindsNone entry s from last s.plus Greater → FindsNearest entry s from last rest)
      → FindsNone entry s from last s.zero Equal → FindsNearest entry s from last (or_else (if_named plus (found_as Greater g)) rest)
  high s None is g h rest go a = go (λ k. absurd cc)
  high s (Some i) is None h rest go a = go (λ k. h)
  high s (Some i) is (Some n) h rest go a = (a, ap is_some is, h)

  equal : (s : Shows) (zero : Option ℕ) → s.zero ≡ zero → (e : Option ℕ) → MatchOption e (none Equal) (IsFirst (λ m. is_order Equal (entry m)) from last)
      → (rest : Option Found) → (FindsNone entry s from last s.zero Equal → FindsNearest entry s from last rest) → FindsNearest entry s from last (or_else (if_named zero (found_as Equal e)) rest)
  equal s None is e h rest go = go (λ k. absurd cc)
  equal s (Some i) is None h rest go = go (λ k. h)
  equal s (Some i) is (Some n) h rest go = (ap is_some is, h)

  nearest_is : (s : Shows) → FindsNearest entry s from last (search_of entry s (positions from last))
  unfolding search_of
  nearest_is s = equal s s.zero refl _ (first_is Equal) _ (λ a. high s s.plus refl _ (first_is Greater) _ (λ b. low s s.minus refl _ (last_is Less) a b) a)

-- ---- what LOKUP leaves

module _ {K : Type 0} {R : K → K → Ordering} (o : IsTotalOrder R) (forms : K → Option FieldForm) where
  against_is : (kind : Kind) (d : Data R) (a b : Entry K) (n : ℕ) → order_by forms kind d (entry_at b n) a ≡ entry_against forms kind d a b n
  against_is kinds.Number d a b n = refl
  against_is kinds.Text d a b n = refl

  start_is : (i : Index K) (p : ℕ) → cond (is_blank_index i) 1 p ≡ begins_at i p
  start_is Blank p = refl
  start_is (Literal n) p = refl
  start_is (Field k) p = refl

  -- a position is stored in the index field, and nothing else changes
  record Indexed (i : Index K) (n : ℕ) (d e : Data R) : Type 0 where
    has : (f : Data R) → f.fields.values ≡ e.fields.values → IndexHas i n f
    on : e.on ≡ d.on
    current : e.fields.current ≡ d.fields.current

  indexed : (i : Index K) (n : ℕ) (d : Data R) → Indexed i n d (index_set i n d)
  indexed Blank n d = record { has = λ f h. tt; on = refl; current = refl }
  indexed (Literal m) n d = record { has = λ f h. tt; on = refl; current = refl }
  indexed (Field k) n d = record { has = λ f h. ap (λ v. map.get v (k, 1)) h ∙ has_value o d.fields (k, 1) (Number (pos n)); on = refl; current = refl }

  -- an entry of a table becomes current: the same entry of another stays it
  record Turned (n : ℕ) (d e : Data R) : Type 0 where
    values : e.fields.values ≡ d.fields.values
    on : e.on ≡ d.on
    current : (k : K) → current_in d.fields k ≡ n → current_in e.fields k ≡ n

  turned : (t : K) (n : ℕ) (d : Data R) → Turned n d (made_current forms t n d)
  turned t n d = by (is_table_form (forms t))
    where
      either : (k : K) (b : Bool) → current_in d.fields k ≡ n → unwrap_or (cond b (Some n) (map.get d.fields.current k)) 1 ≡ n
      either k true h = refl
      either k false h = h

      by : (b : Bool) → Turned n d (cond b (set_current d t n) d)
      by true = record { values = refl; on = refl; current = λ k h. ap (λ x. unwrap_or x 1) (map.get-insert o d.fields.current t n k) ∙ either k (eq_by_cmp R k t) h }
      by false = record { values = refl; on = refl; current = λ k h. h }

  turned_if_any : (t : Option K) (n : ℕ) (d : Data R) → Turned n d (made_current_if_any forms t n d)
  turned_if_any None n d = record { values = refl; on = refl; current = λ k h. h }
  turned_if_any (Some t) n d = turned t n d

  is_current : (k : K) (n : ℕ) (d : Data R) → is_table_form (forms k) ≡ true → current_in (made_current forms k n d).fields k ≡ n
  is_current k n d h =
      ap (λ b. current_in (cond b (set_current d k n) d).fields k) h
      ∙ ap (λ x. unwrap_or x 1) (map.get-insert o d.fields.current k n k ∙ ap (λ x. cond (is_eq x) (Some n) (map.get d.fields.current k)) (tied_itself o k))

  module _ (d : Data R) (b : Entry K) (table : Option (Entry K)) (s : Shows) where
    abbrev after : Option Found → Data R
    after f = found_shown forms s f (with_found forms b (option_map field_of_entry table) f d)

    leaves : (f : Option Found) → MatchOption f (AfterNone forms d b s (after f)) (λ x. AfterFound forms d b table s x (after f))
    unfolding with_found shown_if_any
    leaves None =
        let one = indexed b.index 1 d in
        record { off = λ i. named_off_is s _ i ∙ ap (λ on. stays s on i) one.on; index = one.has (after None) refl; current = one.current }
    leaves (Some f) =
        let n = f.position in
        let one = indexed b.index n d in
        let two = turned b.field n (index_set b.index n d) in
        let three = turned_if_any (option_map field_of_entry table) n (made_current forms b.field n (index_set b.index n d)) in
        record {
          shows = λ i. shown_is s f.order _ i ∙ ap (λ on. names_for s f.order i || stays s on i) (three.on ∙ two.on ∙ one.on);
          index = one.has (after (Some f)) (three.values ∙ two.values);
          current = λ h. three.current b.field (is_current b.field n (index_set b.index n d) h);
          result = λ t e h. ap (λ x. current_in (made_current_if_any forms (option_map field_of_entry x) n (made_current forms b.field n (index_set b.index n d))).fields t.field) e
              ∙ is_current t.field n (made_current forms b.field n (index_set b.index n d)) h;
        }

  right_goes : (f : Option Fault) (d x : Data R) → (if_right f d (Gives x)).ending ≡ Continues → x ≡ (if_right f d (Gives x)).data
  right_goes None d x h = refl
  right_goes (Some f) d x h = absurd cc

  pub finds : (d : Data R) (a b : Entry K) (table : Option (Entry K)) (s : Shows) → (act forms (LookUp a b table s) d).ending ≡ Continues
      → LooksUp forms d a b table s (act forms (LookUp a b table s) d).data
  unfolding act looked_up found_in
  finds d a b table s goes =
      let found = found_in forms d a b s in
      let last = entries_of (forms b.field) in
      subst (λ x. LooksUp forms d a b table s x) (right_goes (position_fault forms b (option_map field_of_entry table) found) d (after d b table s found) goes)
      (record {
        found = found;
        nearest = subst (λ (f : (ℕ → Ordering) × ℕ). FindsNearest f.0 s f.1 last found)
            (λ i. ((λ n. against_is (kind_of (forms a.field)) d a b n i), start_is b.index b.position i)) (nearest_is (order_at forms d a b) (search_start b) last s);
        leaves = leaves d b table s found;
      })

-- ---- operands

inside : (entries n : ℕ) → 1 ≤ n → n ≤ entries → in_range entries (pos n) ≡ Some n
inside entries n low high = grind (arith, nat_tests)

outside : (entries : ℕ) (z : ℤ) → ((n : ℕ) → z ≡ pos n → 1 ≤ n → n ≤ entries → ⊥) → in_range entries z ≡ None
outside entries (negsuc n) h = refl
outside entries (pos n) h = let k : 1 ≤ n → n ≤ entries → ⊥ = h n refl in grind (arith, nat_tests)

pub names_entries : {K : Type 0} {R : K → K → Ordering} (forms : K → Option FieldForm) (fields : Fields R) (k : K) → NamesEntries forms fields k
unfolding position_of
names_entries forms fields k = record {
  alone = λ e. ap (λ b. Some (cond b (current_in fields k) 1)) e;
  table = λ e. ap (λ b. Some (cond b (current_in fields k) 1)) e;
  literal = λ n. refl;
  within = λ i n e low high. ap (in_range (entries_of (forms k))) e ∙ inside (entries_of (forms k)) n low high;
  otherwise = λ i h. outside (entries_of (forms k)) _ h;
}
