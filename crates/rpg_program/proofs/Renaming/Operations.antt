-- Renaming keys commutes with what operations do.
use Rattle.std.proofs.Common.{◌≡◌, ℕ, zero, suc, ℤ, ◌+ℤ◌, Bool, true, false, ◌&&◌, cond, Option, None, Some, refl, sym, ap, ◌∙◌, subst, nat_cmp, Ordering}
use Rattle.std.specs.Cmp.{IsTotalOrder, nat_cmp_total, on_total, then_total, tied_then}
use Rattle.std.specs.FinMap as maps
use Rattle.std.specs.FinSet as set
use Rattle.std.specs.Option.{option_map}
use Rattle.std.specs.Ordering.{eq_by_cmp, is_eq}
use Rattle.std.specs.Prelude.{unwrap_or, is_some, nat_lt, nat_le, ◌^◌}
use Rattle.rpg_decimal_words.specs.Fraction.{Fraction, fraction_cmp, with_decimals}
use Rattle.rpg_decimal_words.specs.Order.{text_cmp}
use Rattle.rpg_decimal_words.specs.Zoned.{number_in, zoned_text}
use Rattle.rpg_program.specs.Act.{act, assigned, number_over, text_over, computed, divided, entry_at, exact, found_in, index_set, stored_value, left_over, looked_up, made_current, made_current_if_any, moved, number_after, order_by, with_found, position_fault, remainder_after, source_text, store, sum_to, summed}
use Rattle.rpg_program.specs.Ends.{End, Fault, Continues, Halt, Storage, Wrong}
use Rattle.rpg_program.specs.Entries.{entry_of, in_range, position_by, position_of}
use Rattle.rpg_program.specs.Forms.{decimals_of, entries_of, has_field, is_table_form, kind_of, length_of}
use Rattle.rpg_program.specs.Operate.{has_entries, operate, resolved, with_operands}
use Rattle.rpg_program.specs.Ended.{Gives, Ended, ends_with, followed_by, followed_if, if_right, or_halt}
use Rattle.rpg_program.specs.Rows.{can_hold, holds_position, is_blank_index, row_of}
use Rattle.rpg_program.specs.Search.{positions, search_of}
use Rattle.rpg_program.specs.Showing.{set_to, shown, shown_if_any, sign_of}
use Rattle.rpg_program.specs.Values.{Value, Number, Text, entry_cmp, number_of, characters_of}
use Rattle.rpg_program.specs.World.{Data, Fields, characters_at, number_at, set_current, set_value, with_current, with_value}
use Rattle.rpg_program.specs.declared.form.FieldForm.{FieldForm}
use Rattle.rpg_program.specs.declared.form.Kind.{Kind}
use Rattle.rpg_program.specs.declared.form.Kind.TheVariants as kinds
use Rattle.rpg_program.specs.declared.operation.Action.{Action}
use Rattle.rpg_program.specs.declared.operation.Action.TheVariants.{Compute, Divide, Assign, TakeRemainder, CrossFoot, Compare, LookUp, Move, SetIndicators}
use Rattle.rpg_program.specs.declared.operation.Entry.{Entry}
use Rattle.rpg_program.specs.declared.operation.Found.{Found}
use Rattle.rpg_program.specs.declared.operation.Index.{Index}
use Rattle.rpg_program.specs.declared.operation.Index.TheVariants.{Blank, Literal, Field}
use Rattle.rpg_program.specs.declared.operation.Operand.{Operand}
use Rattle.rpg_program.specs.declared.operation.Shows.{Shows}
use Rattle.rpg_program.specs.declared.operation.Side.{Side}
use Rattle.rpg_program.specs.Naming.{AgreeData, AgreeFields, HasIndex, IsNamed, IsRenaming, SameEnd, Uses, renamed_action, renamed_entry, renamed_index, renamed_operand}

pub entries_total : {K : Type 0} {R : K → K → Ordering} → IsTotalOrder R → IsTotalOrder (entry_cmp R)
entries_total o = then_total (on_total (λ p. p.0) o) (on_total (λ p. p.1) nat_cmp_total)

module _ {K L : Type 0} {R : K → K → Ordering} {S : L → L → Ordering} {old : K → Option FieldForm} {new : L → Option FieldForm} {at : K → L} (r : IsRenaming R S old new at) where
  -- ---- one entry changes by both names

  pub tied : (k f : K) (n p : ℕ) → has_field (old f) ≡ true → eq_by_cmp (entry_cmp S) (at k, n) (at f, p) ≡ eq_by_cmp (entry_cmp R) (k, n) (f, p)
  tied k f n p there = sym (tied_then (S (at k) (at f)) (nat_cmp n p)) ∙ ap (λ b. b && is_eq (nat_cmp n p)) (r.apart k f there) ∙ tied_then (R k f) (nat_cmp n p)

  pub written : (v : Fields R) (w : Fields S) → AgreeFields old at v w → (f : K) → has_field (old f) ≡ true → (p : ℕ) (x y : Value) → y ≡ x → AgreeFields old at (with_value (f, p) x v) (with_value (at f, p) y w)
  written v w a f there p x y e = record {
    values = λ k is n. maps.get-insert (entries_total r.new_total) w.values (at f, p) y (at k, n)
        ∙ (λ i. cond (tied k f n p there i) (Some (e i)) (a.values k is n i))
        ∙ sym (maps.get-insert (entries_total r.old_total) v.values (f, p) x (k, n));
    current = a.current;
  }

  pub turned : (v : Fields R) (w : Fields S) → AgreeFields old at v w → (f : K) → has_field (old f) ≡ true → (p : ℕ) → AgreeFields old at (with_current f p v) (with_current (at f) p w)
  turned v w a f there p = record {
    values = a.values;
    current = λ k is. maps.get-insert r.new_total w.current (at f) p (at k)
        ∙ (λ i. cond (r.apart k f there i) (Some p) (a.current k is i))
        ∙ sym (maps.get-insert r.old_total v.current f p k);
  }

  pub set_agrees : (v : Data R) (w : Data S) → AgreeData old at v w → (f : K) → has_field (old f) ≡ true → (p : ℕ) (x y : Value) → y ≡ x → AgreeData old at (set_value v f p x) (set_value w (at f) p y)
  set_agrees v w a f there p x y e = record {
    fields = written v.fields w.fields a.fields f there p x y e;
    on = a.on;
    remainder = a.remainder;
  }

  pub current_agrees : (v : Data R) (w : Data S) → AgreeData old at v w → (f : K) → has_field (old f) ≡ true → (p : ℕ) → AgreeData old at (set_current v f p) (set_current w (at f) p)
  current_agrees v w a f there p = record {
    fields = turned v.fields w.fields a.fields f there p;
    on = a.on;
    remainder = a.remainder;
  }

  pub on_agrees : (v : Data R) (w : Data S) → AgreeData old at v w → (x y : set.FinSet nat_cmp) → y ≡ x → AgreeData old at (record v { on = x }) (record w { on = y })
  on_agrees v w a x y e = record {
    fields = a.fields;
    on = e;
    remainder = a.remainder;
  }

  pub remainder_agrees : (v : Data R) (w : Data S) → AgreeData old at v w → (x y : Fraction) → y ≡ x → AgreeData old at (record v { remainder = x }) (record w { remainder = y })
  remainder_agrees v w a x y e = record {
    fields = a.fields;
    on = a.on;
    remainder = e;
  }

  store_agrees : (v : Data R) (w : Data S) → AgreeData old at v w → (e : Entry K) → has_field (old e.field) ≡ true → (s : Shows) (m n : ℤ) → n ≡ m → AgreeData old at (store v e s m) (store w (renamed_entry at e) s n)
  store_agrees v w a e there s m n same =
      on_agrees _ _ (set_agrees v w a e.field there e.position (Number m) (Number n) (ap Number same)) _ _ (λ i. shown s (sign_of (same i)) (a.on i))

  -- ---- how it ends

  pub gives_same : (v : Data R) (w : Data S) → AgreeData old at v w → SameEnd old at (Gives v) (Gives w)
  gives_same v w a = record { ending = refl; «data» = a }

  pub ends_same : (e : End) (v : Data R) (w : Data S) → AgreeData old at v w → SameEnd old at (ends_with e v) (ends_with e w)
  ends_same e v w a = record { ending = refl; «data» = a }

  -- the one and then the other
  pub followed_same : (d : Ended R) (e : Ended S) (go : Data R → Ended R) (went : Data S → Ended S) → SameEnd old at d e → ((v : Data R) (w : Data S) → AgreeData old at v w → SameEnd old at (go v) (went w)) → SameEnd old at (followed_by d go) (followed_by e went)
  followed_same d e go went one next = subst (λ x. SameEnd old at (followed_by d go) (followed_if x e went)) (sym one.ending) (by_end d.ending)
    where
      by_end : (x : End) → SameEnd old at (followed_if x d go) (followed_if x e went)
      by_end Continues = next d.data e.data one.data
      by_end (Halt k) = one
      by_end (Wrong f) = one

  or_halt_same : {A B : Type 0} (f : A → B) (x : Option A) (y : Option B) → y ≡ option_map f x → (k : ℕ) (v : Data R) (w : Data S) → AgreeData old at v w → (go : A → Ended R) (went : B → Ended S) → ((a : A) → SameEnd old at (go a) (went (f a))) → SameEnd old at (or_halt x k v go) (or_halt y k w went)
  or_halt_same f x y e k v w a go went both = subst (λ z. SameEnd old at (or_halt x k v go) (or_halt z k w went)) (sym e) (by_answer x)
    where
      by_answer : (x : Option _) → SameEnd old at (or_halt x k v go) (or_halt (option_map f x) k w went)
      by_answer None = ends_same _ v w a
      by_answer (Some z) = both z

  if_right_same : (x y : Option Fault) → y ≡ x → (v : Data R) (w : Data S) → AgreeData old at v w → (d : Ended R) (e : Ended S) → SameEnd old at d e → SameEnd old at (if_right x v d) (if_right y w e)
  if_right_same x y e v w a d f both = subst (λ z. SameEnd old at (if_right x v d) (if_right z w f)) (sym e) (by_fault x)
    where
      by_fault : (x : Option Fault) → SameEnd old at (if_right x v d) (if_right x w f)
      by_fault None = both
      by_fault (Some z) = ends_same _ v w a

  -- ---- what is read

  number_same : (v : Data R) (w : Data S) → AgreeData old at v w → (k : K) → has_field (old k) ≡ true → (n : ℕ) → number_at w (at k) n ≡ number_at v k n
  number_same v w a k is n = ap number_of (a.fields.values k is n)

  characters_same : (v : Data R) (w : Data S) → AgreeData old at v w → (k : K) → has_field (old k) ≡ true → (n : ℕ) → characters_at w (at k) n ≡ characters_at v k n
  characters_same v w a k is n = ap characters_of (a.fields.values k is n)

  exact_same : (v : Data R) (w : Data S) → AgreeData old at v w → (e : Entry K) → has_field (old e.field) ≡ true → exact new w (renamed_entry at e) ≡ exact old v e
  exact_same v w a e is = λ i. with_decimals (number_same v w a e.field is e.position i) (decimals_of (r.forms e.field i))

  sum_same : (f g : ℕ → ℤ) → ((n : ℕ) → g n ≡ f n) → (n : ℕ) → sum_to g n ≡ sum_to f n
  sum_same f g same zero = refl
  sum_same f g same (suc n) = λ i. sum_same f g same n i +ℤ same (suc n) i

  summed_same : (v : Data R) (w : Data S) → AgreeData old at v w → (e : Entry K) → has_field (old e.field) ≡ true → summed new w (renamed_entry at e) ≡ summed old v e
  summed_same v w a e is =
      ap (λ n. with_decimals (sum_to (number_at w (at e.field)) (entries_of n)) (decimals_of n)) (r.forms e.field)
      ∙ ap (λ n. with_decimals n (decimals_of (old e.field))) (sum_same (number_at v e.field) (number_at w (at e.field)) (number_same v w a e.field is) (entries_of (old e.field)))

  order_same : (k : Kind) (v : Data R) (w : Data S) → AgreeData old at v w → (e f : Entry K) → has_field (old e.field) ≡ true → has_field (old f.field) ≡ true → order_by new k w (renamed_entry at e) (renamed_entry at f) ≡ order_by old k v e f
  order_same kinds.Number v w a e f p q = λ i. fraction_cmp (exact_same v w a e p i) (exact_same v w a f q i)
  order_same kinds.Text v w a e f p q = λ i. text_cmp (characters_same v w a e.field p e.position i) (characters_same v w a f.field q f.position i)

  remainder_same : (half : Bool) (v : Data R) (w : Data S) → AgreeData old at v w → (e f g : Entry K) → has_field (old e.field) ≡ true → has_field (old f.field) ≡ true → remainder_after new half w (renamed_entry at e) (renamed_entry at f) (renamed_entry at g) ≡ remainder_after old half v e f g
  remainder_same half v w a e f g p q = λ i. cond half (a.remainder i)
      (left_over (exact_same v w a e p i) (decimals_of (r.forms e.field i)) (exact_same v w a f q i) (decimals_of (r.forms f.field i)) (decimals_of (r.forms g.field i)))

  source_same : (k : Kind) (v : Data R) (w : Data S) → AgreeData old at v w → (e : Entry K) → has_field (old e.field) ≡ true → source_text new k w (renamed_entry at e) ≡ source_text old k v e
  source_same kinds.Number v w a e is = λ i. zoned_text (length_of (r.forms e.field i)) (number_same v w a e.field is e.position i)
  source_same kinds.Text v w a e is = characters_same v w a e.field is e.position

  number_after_same : (k : Kind) (side : Side) (v : Data R) (w : Data S) → AgreeData old at v w → (e : Entry K) → has_field (old e.field) ≡ true → (m n len : ℕ) (x y : ℤ) → m ≡ len → y ≡ x → number_after new k side w (renamed_entry at e) m y ≡ number_after old k side v e len x
  number_after_same kinds.Number side v w a e is m n len x y p q = λ i. Some (number_over side (length_of (r.forms e.field i)) (number_same v w a e.field is e.position i) (p i) (q i))
  number_after_same kinds.Text side v w a e is m n len x y p q = λ i. number_in (text_over side (characters_same v w a e.field is e.position i) (zoned_text (p i) (q i)))

  same_option : {A : Type 0} (x : Option A) → x ≡ option_map (λ y. y) x
  same_option None = refl
  same_option (Some y) = refl

  moved_same : (from to : Kind) (side : Side) (v : Data R) (w : Data S) → AgreeData old at v w → (e f : Entry K) → has_field (old e.field) ≡ true → has_field (old f.field) ≡ true → SameEnd old at (moved old from to side v e f) (moved new from to side w (renamed_entry at e) (renamed_entry at f))
  unfolding moved
  moved_same from kinds.Number side v w a e f is there =
      or_halt_same (λ n. n) _ _
      (number_after_same from side v w a e is _ 0 _ _ _ (ap length_of (r.forms f.field)) (number_same v w a f.field there f.position) ∙ same_option _) 4 v w a _ _
      (λ n. gives_same _ _ (set_agrees v w a f.field there f.position (Number n) (Number n) refl))
  moved_same from kinds.Text side v w a e f is there =
      gives_same _ _ (set_agrees v w a f.field there f.position _ _
      (λ i. Text (text_over side (source_same from v w a e is i) (characters_same v w a f.field there f.position i))))

  -- ---- LOKUP

  abbrev pub HasTable : Option K → Type 0
  HasTable None = Unit {0}
  HasTable (Some k) = has_field (old k) ≡ true

  blank_same : (x : Index K) → is_blank_index (renamed_index at x) ≡ is_blank_index x
  blank_same Blank = refl
  blank_same (Literal n) = refl
  blank_same (Field k) = refl

  index_set_agrees : (x : Index K) → HasIndex old x → (n : ℕ) (v : Data R) (w : Data S) → AgreeData old at v w → AgreeData old at (index_set x n v) (index_set (renamed_index at x) n w)
  index_set_agrees Blank there n v w a = a
  index_set_agrees (Literal m) there n v w a = a
  index_set_agrees (Field k) there n v w a = set_agrees v w a k there 1 _ _ refl

  made_current_agrees : (k : K) → has_field (old k) ≡ true → (n : ℕ) (v : Data R) (w : Data S) → AgreeData old at v w → AgreeData old at (made_current old k n v) (made_current new (at k) n w)
  made_current_agrees k there n v w a = subst (λ b. AgreeData old at (made_current old k n v) (cond b (set_current w (at k) n) w)) (sym (ap is_table_form (r.forms k))) (by_table (is_table_form (old k)))
    where
      by_table : (b : Bool) → AgreeData old at (cond b (set_current v k n) v) (cond b (set_current w (at k) n) w)
      by_table true = current_agrees v w a k there n
      by_table false = a

  if_any_agrees : (t : Option K) → HasTable t → (n : ℕ) (v : Data R) (w : Data S) → AgreeData old at v w → AgreeData old at (made_current_if_any old t n v) (made_current_if_any new (option_map at t) n w)
  if_any_agrees None there n v w a = a
  if_any_agrees (Some k) there n v w a = made_current_agrees k there n v w a

  can_hold_same : (x : Index K) (n : ℕ) → can_hold new (renamed_index at x) n ≡ can_hold old x n
  can_hold_same Blank n = refl
  can_hold_same (Literal m) n = refl
  can_hold_same (Field k) n = λ i. nat_lt n (10 ^ length_of (r.forms k i))

  holds_same : (x : Index K) (t : Option K) (n : ℕ) → holds_position new (renamed_index at x) (option_map at t) n ≡ holds_position old x t n
  holds_same x None n = can_hold_same x n
  holds_same x (Some k) n = λ i. can_hold_same x n i && nat_le n (entries_of (r.forms k i))

  fault_same : (e : Entry K) (t : Option K) (f : Option Found) → position_fault new (renamed_entry at e) (option_map at t) f ≡ position_fault old e t f
  unfolding position_fault
  fault_same e t None = refl
  fault_same e t (Some f) = ap (λ b. cond b None (Some Storage)) (holds_same e.index t f.position)

  placed_agrees : (e : Entry K) (t : Option K) → has_field (old e.field) ≡ true → HasIndex old e.index → HasTable t → (f : Option Found) (v : Data R) (w : Data S) → AgreeData old at v w → AgreeData old at (with_found old e t f v) (with_found new (renamed_entry at e) (option_map at t) f w)
  unfolding with_found
  placed_agrees e t there index table None v w a = index_set_agrees e.index index 1 v w a
  placed_agrees e t there index table (Some f) v w a = if_any_agrees t table f.position _ _ (made_current_agrees e.field there f.position _ _ (index_set_agrees e.index index f.position v w a))

  found_same : (v : Data R) (w : Data S) → AgreeData old at v w → (e f : Entry K) → has_field (old e.field) ≡ true → has_field (old f.field) ≡ true → (s : Shows) → found_in new w (renamed_entry at e) (renamed_entry at f) s ≡ found_in old v e f s
  unfolding found_in
  found_same v w a e f p q s = λ i. search_of
      (λ n. (ap (λ k. order_by new k w (renamed_entry at (entry_at f n)) (renamed_entry at e)) (ap kind_of (r.forms e.field)) ∙ order_same (kind_of (old e.field)) v w a (entry_at f n) e q p) i)
      s (positions (cond (blank_same f.index i) 1 f.position) (entries_of (r.forms f.field i)))

  looked_up_same : (v : Data R) (w : Data S) → AgreeData old at v w → (e : Entry K) (t : Option K) → has_field (old e.field) ≡ true → HasIndex old e.index → HasTable t → (s : Shows) (f : Option Found) → SameEnd old at (looked_up old v e t s f) (looked_up new w (renamed_entry at e) (option_map at t) s f)
  unfolding looked_up
  looked_up_same v w a e t there index table s f =
      if_right_same _ _ (fault_same e t f) v w a _ _
      (gives_same _ _ (let b = placed_agrees e t there index table f v w a in on_agrees _ _ b _ _ (ap (λ on. shown_if_any s (option_map (λ (x : Found). x.order) f) on) b.on)))

  -- ---- one case per operation

  -- the field and the index of an entry have forms
  abbrev IsThere : Entry K → Type 0
  IsThere e = (has_field (old e.field) ≡ true) × HasIndex old e.index

  -- what an operation uses has a form
  abbrev pub UsesThere : Action (Entry K) → Type 0
  UsesThere (Compute g half a b c s) = IsThere a × IsThere b × IsThere c
  UsesThere (Divide half a b c s) = IsThere a × IsThere b × IsThere c
  UsesThere (Assign negated half b c s) = IsThere b × IsThere c
  UsesThere (TakeRemainder c s) = IsThere c
  UsesThere (CrossFoot half b c s) = IsThere b × IsThere c
  UsesThere (Compare a b s) = IsThere a × IsThere b
  UsesThere (LookUp a b None s) = IsThere a × IsThere b × Unit {0}
  UsesThere (LookUp a b (Some c) s) = IsThere a × IsThere b × IsThere c
  UsesThere (Move side b c) = IsThere b × IsThere c
  UsesThere (SetIndicators is_on s) = Unit {0}

  kept_same : (half : Bool) (e : Entry K) (x y : Fraction) → y ≡ x → stored_value half (new (at e.field)) y ≡ stored_value half (old e.field) x
  kept_same half e x y p = λ i. stored_value half (r.forms e.field i) (p i)

  pub act_same : (x : Action (Entry K)) (v : Data R) (w : Data S) → AgreeData old at v w → UsesThere x → SameEnd old at (act old x v) (act new (with_operands (renamed_entry at) x) w)
  unfolding act
  act_same (Compute g half a b c s) v w same there =
      gives_same _ _ (store_agrees v w same c there.2.0 s _ _ (kept_same half c _ _ (λ i. computed g (exact_same v w same a there.0.0 i) (exact_same v w same b there.1.0 i))))
  act_same (Divide half a b c s) v w same there =
      or_halt_same (λ n. n) _ _ ((λ i. divided (exact_same v w same a there.0.0 i) (exact_same v w same b there.1.0 i)) ∙ same_option _) 1 v w same _ _
      (λ n. gives_same _ _ (store_agrees _ _ (remainder_agrees v w same _ _ (remainder_same half v w same a b c there.0.0 there.1.0)) c there.2.0 s _ _ (kept_same half c n n refl)))
  act_same (Assign negated half b c s) v w same there =
      gives_same _ _ (store_agrees v w same c there.1.0 s _ _ (kept_same half c _ _ (λ i. with_decimals (assigned negated (number_same v w same b.field there.0.0 b.position i)) (decimals_of (r.forms b.field i)))))
  act_same (TakeRemainder c s) v w same there = gives_same _ _ (store_agrees v w same c there.0 s _ _ (kept_same false c _ _ same.remainder))
  act_same (CrossFoot half b c s) v w same there = gives_same _ _ (store_agrees v w same c there.1.0 s _ _ (kept_same half c _ _ (summed_same v w same b there.0.0)))
  act_same (Compare a b s) v w same there =
      gives_same _ _ (on_agrees v w same _ _ (λ i. shown s ((ap (λ k. order_by new k w (renamed_entry at a) (renamed_entry at b)) (ap kind_of (r.forms a.field)) ∙ order_same (kind_of (old a.field)) v w same a b there.0.0 there.1.0) i) (same.on i)))
  act_same (LookUp a b None s) v w same there =
      subst (λ f. SameEnd old at (act old (LookUp a b None s) v) (looked_up new w (renamed_entry at b) None s f)) (sym (found_same v w same a b there.0.0 there.1.0 s))
      (looked_up_same v w same b None there.1.0 there.1.1 tt s _)
  act_same (LookUp a b (Some c) s) v w same there =
      subst (λ f. SameEnd old at (act old (LookUp a b (Some c) s) v) (looked_up new w (renamed_entry at b) (Some (at c.field)) s f)) (sym (found_same v w same a b there.0.0 there.1.0 s))
      (looked_up_same v w same b (Some c.field) there.1.0 there.1.1 there.2.0 s _)
  act_same (Move side b c) v w same there =
      subst (λ k. SameEnd old at (act old (Move side b c) v) (moved new k (kind_of (new (at c.field))) side w (renamed_entry at b) (renamed_entry at c))) (sym (ap kind_of (r.forms b.field)))
      (subst (λ k. SameEnd old at (act old (Move side b c) v) (moved new (kind_of (old b.field)) k side w (renamed_entry at b) (renamed_entry at c))) (sym (ap kind_of (r.forms c.field)))
      (moved_same _ _ side v w same b c there.0.0 there.1.0))
  act_same (SetIndicators is_on s) v w same there = gives_same _ _ (on_agrees v w same _ _ (ap (λ on. set_to is_on s on) same.on))

  -- ---- operands

  pub position_same : (v : Fields R) (w : Fields S) → AgreeFields old at v w → (o : Operand K) → IsNamed old o → position_of new w (renamed_operand at o) ≡ position_of old v o
  unfolding position_of
  position_same v w a o is = by_index o.index is.1
    where
      by_index : (x : Index K) → HasIndex old x → position_by new w (at o.field) (renamed_index at x) ≡ position_by old v o.field x
      by_index Blank there = λ i. Some (cond (is_table_form (r.forms o.field i)) (unwrap_or (a.current o.field is.0 i) 1) 1)
      by_index (Literal n) there = refl
      by_index (Field k) there = λ i. in_range (entries_of (r.forms o.field i)) (number_of (a.values k there 1 i))

  entry_same : (v : Fields R) (w : Fields S) → AgreeFields old at v w → (o : Operand K) → IsNamed old o → entry_of new w (renamed_operand at o) ≡ renamed_entry at (entry_of old v o)
  unfolding entry_of
  entry_same v w a o is = λ i. record { field = at o.field; index = renamed_index at o.index; position = unwrap_or (position_same v w a o is i) 0 }

  has_same : (v : Fields R) (w : Fields S) → AgreeFields old at v w → (o : Operand K) → IsNamed old o → is_some (position_of new w (renamed_operand at o)) ≡ is_some (position_of old v o)
  has_same v w a o is = ap is_some (position_same v w a o is)

  entries_same : (v : Fields R) (w : Fields S) → AgreeFields old at v w → (x : Action (Operand K)) → Uses old x → has_entries new w (renamed_action at x) ≡ has_entries old v x
  unfolding has_entries row_of
  entries_same v w a (Compute g half b c d s) h = λ i. has_same v w a b h.0 i && (has_same v w a c h.1 i && has_same v w a d h.2 i)
  entries_same v w a (Divide half b c d s) h = λ i. has_same v w a b h.0 i && (has_same v w a c h.1 i && has_same v w a d h.2 i)
  entries_same v w a (Assign negated half b c s) h = λ i. has_same v w a b h.0 i && has_same v w a c h.1 i
  entries_same v w a (TakeRemainder b s) h = has_same v w a b h
  entries_same v w a (CrossFoot half b c s) h = λ i. has_same v w a b h.0 i && has_same v w a c h.1 i
  entries_same v w a (Compare b c s) h = λ i. has_same v w a b h.0 i && (has_same v w a c h.1 i && true)
  entries_same v w a (LookUp b c None s) h = λ i. has_same v w a b h.0 i && (has_same v w a c h.1 i && true)
  entries_same v w a (LookUp b c (Some d) s) h = λ i. has_same v w a b h.0 i && (has_same v w a c h.1 i && has_same v w a d h.2 i)
  entries_same v w a (Move side b c) h = λ i. has_same v w a b h.0 i && has_same v w a c h.1 i
  entries_same v w a (SetIndicators is_on s) h = refl

  operands_same : (v : Fields R) (w : Fields S) → AgreeFields old at v w → (x : Action (Operand K)) → Uses old x →
      with_operands (entry_of new w) (renamed_action at x) ≡ with_operands (renamed_entry at) (with_operands (entry_of old v) x)
  operands_same v w a (Compute g half b c d s) h = λ i. Compute g half (entry_same v w a b h.0 i) (entry_same v w a c h.1 i) (entry_same v w a d h.2 i) s
  operands_same v w a (Divide half b c d s) h = λ i. Divide half (entry_same v w a b h.0 i) (entry_same v w a c h.1 i) (entry_same v w a d h.2 i) s
  operands_same v w a (Assign negated half b c s) h = λ i. Assign negated half (entry_same v w a b h.0 i) (entry_same v w a c h.1 i) s
  operands_same v w a (TakeRemainder b s) h = λ i. TakeRemainder (entry_same v w a b h i) s
  operands_same v w a (CrossFoot half b c s) h = λ i. CrossFoot half (entry_same v w a b h.0 i) (entry_same v w a c h.1 i) s
  operands_same v w a (Compare b c s) h = λ i. Compare (entry_same v w a b h.0 i) (entry_same v w a c h.1 i) s
  operands_same v w a (LookUp b c None s) h = λ i. LookUp (entry_same v w a b h.0 i) (entry_same v w a c h.1 i) None s
  operands_same v w a (LookUp b c (Some d) s) h = λ i. LookUp (entry_same v w a b h.0 i) (entry_same v w a c h.1 i) (Some (entry_same v w a d h.2 i)) s
  operands_same v w a (Move side b c) h = λ i. Move side (entry_same v w a b h.0 i) (entry_same v w a c h.1 i)
  operands_same v w a (SetIndicators is_on s) h = refl

  uses_there : (v : Fields R) (x : Action (Operand K)) → Uses old x → UsesThere (with_operands (entry_of old v) x)
  unfolding entry_of
  uses_there v (Compute g half a b c s) h = h
  uses_there v (Divide half a b c s) h = h
  uses_there v (Assign negated half b c s) h = h
  uses_there v (TakeRemainder c s) h = h
  uses_there v (CrossFoot half b c s) h = h
  uses_there v (Compare a b s) h = h
  uses_there v (LookUp a b None s) h = h
  uses_there v (LookUp a b (Some c) s) h = h
  uses_there v (Move side b c) h = h
  uses_there v (SetIndicators is_on s) h = h

  -- an operation does the same by both names
  pub operate_same : (x : Action (Operand K)) (v : Data R) (w : Data S) → AgreeData old at v w → Uses old x → SameEnd old at (operate old x v) (operate new (renamed_action at x) w)
  unfolding operate resolved
  operate_same x v w a h =
      subst (λ b. SameEnd old at (operate old x v) (or_halt (cond b (Some (with_operands (entry_of new w.fields) (renamed_action at x))) None) 2 w (λ e. act new e w))) (sym (entries_same v.fields w.fields a.fields x h))
      (subst (λ y. SameEnd old at (operate old x v) (or_halt (cond (has_entries old v.fields x) (Some y) None) 2 w (λ e. act new e w))) (sym (operands_same v.fields w.fields a.fields x h))
      (by_entries (has_entries old v.fields x)))
    where
      entries : Action (Entry K)
      entries = with_operands (entry_of old v.fields) x

      by_entries : (b : Bool) → SameEnd old at (or_halt (cond b (Some entries) None) 2 v (λ e. act old e v)) (or_halt (cond b (Some (with_operands (renamed_entry at) entries)) None) 2 w (λ e. act new e w))
      by_entries true = act_same entries v w a (uses_there v.fields x h)
      by_entries false = ends_same _ v w a
