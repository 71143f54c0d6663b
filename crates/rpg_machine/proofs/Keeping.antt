-- Operations of a right program are never wrong, and values keep fitting their fields.
use Rattle.std.proofs.Common.{◌≡◌, ℕ, ℤ, pos, ◌<◌, ◌≤◌, ◌^◌, Bool, true, false, cond, List, Option, None, Some, IfSome, get_or, length, map, refl, sym, ap, ◌∙◌, subst, unsigned_abs, inl, inr, arith}
use Rattle.std.proofs.lemmas.Bool.{cases_lt}
use Rattle.std.proofs.lemmas.Bool.Decides.{nat_tests}
use Rattle.std.proofs.lemmas.List.{get_or-map, get_or_past, length-map}
use Rattle.std.specs.Prelude.{All}
use Rattle.std.specs.Option.{option_map}
use Rattle.std.specs.Ordering.{nat_cmp}
use Rattle.rpg_decimal.proofs.LawLemmas.{left_digits, length-zoned, read_either, right_digits, size-signed}
use Rattle.rpg_decimal.proofs.PlaceLemmas.{place_value-below}
use Rattle.rpg_decimal.proofs.WholeLemmas.{fit-below}
use Rattle.rpg_decimal_words.specs.Fraction.{Fraction, aligned_number}
use Rattle.rpg_decimal_words.specs.Place.{place_value}
use Rattle.rpg_decimal_words.specs.Zoned.{digit_of, is_minus, last_of, number_in, zoned_text}
use Rattle.rpg_program.specs.Act.{act, divided, exact, field_of_entry, found_in, found_shown, index_set, looked_up, made_current, made_current_if_any, moved, number_over, source_text, store, stored_value, text_over, with_found}
use Rattle.rpg_program.specs.Ended.{Ended, Gives, if_right, or_halt}
use Rattle.rpg_program.specs.Ends.{Fault}
use Rattle.rpg_program.specs.Forms.{decimals_of, entries_of, form_at, is_table_form, kind_of, length_of}
use Rattle.rpg_program.specs.Operate.{operate, resolved}
use Rattle.rpg_program.specs.Rows.{can_hold, holds_position}
use Rattle.rpg_program.specs.Values.{Number, Text}
use Rattle.rpg_program.specs.World.{Data, characters_at, number_at, set_current, set_value}
use Rattle.rpg_program.specs.declared.form.FieldForm.{FieldForm}
use Rattle.rpg_program.specs.declared.form.Kind.{Kind}
use Rattle.rpg_program.specs.declared.form.Kind.TheVariants as kinds
use Rattle.rpg_program.specs.declared.operation.Action.{Action}
use Rattle.rpg_program.specs.declared.operation.Action.TheVariants.{Compute, Divide, Assign, TakeRemainder, CrossFoot, Compare, LookUp, Move, SetIndicators}
use Rattle.rpg_program.specs.declared.operation.Entry.{Entry}
use Rattle.rpg_program.specs.declared.operation.Found.{Found}
use Rattle.rpg_program.specs.declared.operation.Index.{Index}
use Rattle.rpg_program.specs.declared.operation.Index.TheVariants.{Blank, Literal, Field}
use Rattle.rpg_program.specs.declared.operation.Operand.{Operand}
use Rattle.rpg_program.specs.declared.operation.Shows.{Shows}
use Rattle.rpg_program.specs.declared.operation.Side.{Side}
use Rattle.rpg_program.specs.declared.operation.Side.TheVariants.{Right, Left}
use Rattle.rpg_machine.specs.Laws.{EndsRight, FitsIn}
use Rattle.rpg_machine_operations.proofs.Characters.{over_characters, zoned_characters}
use Rattle.rpg_machine_operations.proofs.Doing.{assign_entries, compute_entries, cross_entries, divide_entries, look_entries, look_positions, look_reads, move_entries, remainder_entries}
use Rattle.rpg_memory.proofs.Entries.{index_value, text_in_form}
use Rattle.rpg_machine_operations.proofs.Finding.{first_fits, found_fits, has_position, held, holds_index, no_position_fault}
use Rattle.rpg_memory.proofs.Fitting.{fits-current}
use Rattle.rpg_memory.proofs.Keeping.{fits_number, fits_text}
use Rattle.rpg_machine_operations.proofs.Overlays.{over_length}
use Rattle.rpg_machine_operations.proofs.Rights.{entries_if}
use Rattle.rpg_memory.proofs.Values.{form_there, length_low, text_fits, text_is}
use Rattle.rpg_machine_operations.specs.Valid.{AreOperandEntries, FitsPosition, HasPosition, IsRightAction}
use Rattle.rpg_memory.specs.Fields.{AreForms, IsValue, reads_index}
use Rattle.rpg_program.specs.Kept.{IsCharacter}

-- ---- digits of characters

digit_of-below : (c : ℕ) → digit_of c < 10
digit_of-below c = grind (arith, nat_tests)

character_digit : (text : List ℕ) (i : ℕ) → i < length text → get_or (map digit_of text) i 0 ≡ digit_of (get_or text i 0)
character_digit text i h = get_or-map digit_of text i 0 0 h

characters-below : (text : List ℕ) (i : ℕ) → get_or (map digit_of text) i 0 < 10
characters-below text i =
    elim (cases_lt i (length text)) [
      | inl h ↦ rw (character_digit text i h) (digit_of-below (get_or text i 0))
      | inr h ↦ rw (get_or_past (map digit_of text) i 0 (omega (arith, length-map text digit_of))) (omega arith)
    ]

-- ---- what operations do

module _ (forms : List FieldForm) (valid : AreForms forms) where
  store_right : (w : Data nat_cmp) (r : Entry ℕ) (s : Shows) (n : ℤ) → FitsIn forms w → IsValue forms kinds.Number r.field r.position → unsigned_abs n < 10 ^ length_of (form_at forms r.field) →
      EndsRight forms (Gives (store w r s n))
  store_right w r s n fits v low = record { ends = tt; fits = fits_number forms w.fields.values w.fields.current r.field r.position n fits v low }

  kept_low : (half : Bool) (o : Option FieldForm) (x : Fraction) → unsigned_abs (stored_value half o x) < 10 ^ length_of o
  kept_low half o x = fit-below (aligned_number half (decimals_of o) x) (length_of o)

  or_halt_right : {A : Type 0} (o : Option A) (k : ℕ) (w : Data nat_cmp) (go : A → Ended nat_cmp) → FitsIn forms w → ((x : A) → o ≡ Some x → EndsRight forms (go x)) → EndsRight forms (or_halt o k w go)
  or_halt_right None k w go fits h = record { ends = tt; fits = fits }
  or_halt_right (Some x) k w go fits h = h x refl

  -- ---- MOVE and MOVEL

  digits_low : (side : Side) (k : ℕ) (n : ℤ) (len : ℕ) (old : ℤ) → unsigned_abs (number_over side k n len old) < 10 ^ len
  digits_low Right k n len old = (right_digits k n len old).fits
  digits_low Left k n len old = (left_digits k n len old).fits

  read_low : (text : List ℕ) (len : ℕ) (n : ℤ) → length text ≡ len → number_in text ≡ Some n → unsigned_abs n < 10 ^ len
  read_low text len n long h =
      let ds = map digit_of text in
      let size : unsigned_abs n ≡ place_value ds = ap unsigned_abs ((read_either text n).0 h).value ∙ size-signed (is_minus (last_of text)) ds in
      let low : place_value ds < 10 ^ length ds = place_value-below ds (characters-below text) in
      let few : unsigned_abs n < 10 ^ length ds = omega (arith, size, low) in
      subst (λ m. unsigned_abs n < 10 ^ m) (length-map text digit_of ∙ long) few

  text_right : (w : Data nat_cmp) (r : Entry ℕ) (text : List ℕ) → FitsIn forms w → IsValue forms kinds.Text r.field r.position → length text ≡ length_of (form_at forms r.field) → All IsCharacter text →
      EndsRight forms (Gives (set_value w r.field r.position (Text text)))
  text_right w r text fits v long spelled = record { ends = tt; fits = fits_text forms w.fields.values w.fields.current r.field r.position text fits v long spelled }

  -- the text of an entry
  text_at : (w : Data nat_cmp) (e : Entry ℕ) → FitsIn forms w → IsValue forms kinds.Text e.field e.position → (length (characters_at w e.field e.position) ≡ length_of (form_at forms e.field)) × All IsCharacter (characters_at w e.field e.position)
  text_at w e fits v =
      let m = text_in_form v.form.length _ (form_there forms w.fields.values w.fields.current kinds.Text e.field e.position fits v) in
      let is = text_is _ m.0 m.1 in
      (ap length is ∙ text_fits forms w.fields.values w.fields.current e.field e.position m.0 fits v m.1, subst (λ (t : List ℕ). All IsCharacter t) (sym is) (fits.characters e.field e.position m.0 m.1))

  source_spelled : (k : Kind) (w : Data nat_cmp) (b : Entry ℕ) → FitsIn forms w → IsValue forms k b.field b.position → All IsCharacter (source_text (form_at forms) k w b)
  source_spelled kinds.Number w b fits v = zoned_characters (length_of (form_at forms b.field)) (number_at w b.field b.position)
  source_spelled kinds.Text w b fits v = (text_at w b fits v).1

  number_moved : (w : Data nat_cmp) (r : Entry ℕ) (n : ℤ) → FitsIn forms w → IsValue forms kinds.Number r.field r.position → unsigned_abs n < 10 ^ length_of (form_at forms r.field) →
      EndsRight forms (Gives (set_value w r.field r.position (Number n)))
  number_moved w r n fits v low = record { ends = tt; fits = fits_number forms w.fields.values w.fields.current r.field r.position n fits v low }

  moved_right : (from to : Kind) (side : Side) (w : Data nat_cmp) (b r : Entry ℕ) → FitsIn forms w → IsValue forms from b.field b.position → IsValue forms to r.field r.position → EndsRight forms (moved (form_at forms) from to side w b r)
  unfolding moved
  moved_right kinds.Number kinds.Number side w b r fits vb vr =
      number_moved w r _ fits vr (digits_low side (length_of (form_at forms b.field)) (number_at w b.field b.position) (length_of (form_at forms r.field)) (number_at w r.field r.position))
  moved_right kinds.Text kinds.Number side w b r fits vb vr =
      let len = length_of (form_at forms r.field) in
      let old = zoned_text len (number_at w r.field r.position) in
      let text = text_over side (characters_at w b.field b.position) old in
      let long : length text ≡ len = over_length side (characters_at w b.field b.position) old ∙ length-zoned len (number_at w r.field r.position) (length_low forms r.field r.position valid vr) in
      or_halt_right (number_in text) 4 w _ fits (λ n is. number_moved w r n fits vr (read_low text len n long is))
  moved_right kinds.Number kinds.Text side w b r fits vb vr =
      let old = text_at w r fits vr in
      text_right w r _ fits vr (over_length side (source_text (form_at forms) kinds.Number w b) _ ∙ old.0) (over_characters side _ _ (source_spelled kinds.Number w b fits vb) old.1)
  moved_right kinds.Text kinds.Text side w b r fits vb vr =
      let old = text_at w r fits vr in
      text_right w r _ fits vr (over_length side (source_text (form_at forms) kinds.Text w b) _ ∙ old.0) (over_characters side _ _ (source_spelled kinds.Text w b fits vb) old.1)

  -- ---- LOKUP

  index_fits : (i : Index ℕ) (n : ℕ) (w : Data nat_cmp) → reads_index forms i ≡ true → can_hold (form_at forms) i n ≡ true → FitsIn forms w → FitsIn forms (index_set i n w)
  index_fits Blank n w reads holds fits = fits
  index_fits (Literal m) n w reads holds fits = fits
  index_fits (Field k) n w reads holds fits = fits_number forms w.fields.values w.fields.current k 1 (pos n) fits (index_value forms k valid reads) (held forms k n holds)

  current_by : (b : Bool) (k n : ℕ) (w : Data nat_cmp) → 1 ≤ n → n ≤ entries_of (form_at forms k) → FitsIn forms w → FitsIn forms (cond {A = Data nat_cmp} b (set_current w k n) w)
  current_by true k n w low high fits = fits-current forms w.fields.values w.fields.current k n fits low high
  current_by false k n w low high fits = fits

  current_if_any : (o : Option ℕ) (n : ℕ) (w : Data nat_cmp) → 1 ≤ n → HasPosition forms o n → FitsIn forms w → FitsIn forms (made_current_if_any (form_at forms) o n w)
  current_if_any None n w low high fits = fits
  current_if_any (Some k) n w low high fits = current_by (is_table_form (form_at forms k)) k n w low high fits

  placed_fits : (b : Entry ℕ) (table : Option ℕ) (o : Option Found) (w : Data nat_cmp) → reads_index forms b.index ≡ true → IfSome o (λ f. FitsPosition forms b table f.position) → FitsIn forms w → FitsIn forms (with_found (form_at forms) b table o w)
  unfolding with_found
  placed_fits b table None w reads h fits = index_fits b.index 1 w reads (first_fits forms b.index valid reads) fits
  placed_fits b table (Some f) w reads h fits =
      let n = f.position in
      let one = index_fits b.index n w reads (holds_index forms b table n h) fits in
      let two = current_by (is_table_form (form_at forms b.field)) b.field n (index_set b.index n w) h.low h.high one in
      current_if_any table n (made_current (form_at forms) b.field n (index_set b.index n w)) h.low (has_position forms b table n h) two

  looked_right : (k : Kind) (w : Data nat_cmp) (a b : Entry ℕ) (table : Option ℕ) (s : Shows) → IsValue forms k b.field b.position → reads_index forms b.index ≡ true →
      holds_position (form_at forms) b.index table (entries_of (form_at forms b.field)) ≡ true → FitsIn forms w → EndsRight forms (looked_up (form_at forms) w b table s (found_in (form_at forms) w a b s))
  unfolding looked_up
  looked_right k w a b table s v reads holds fits =
      let o = found_in (form_at forms) w a b s in
      let there = found_fits forms k w a b table s o v holds refl in
      let right : EndsRight forms (Gives (found_shown (form_at forms) s o (with_found (form_at forms) b table o w))) = record { ends = tt; fits = placed_fits b table o w reads there fits } in
      subst (λ (f : Option Fault). EndsRight forms (if_right f w (Gives (found_shown (form_at forms) s o (with_found (form_at forms) b table o w))))) (sym (no_position_fault forms b table o there)) right

  -- ---- all

  act_right : (a : Action (Entry ℕ)) (w : Data nat_cmp) → AreOperandEntries forms a → FitsIn forms w → EndsRight forms (act (form_at forms) a w)
  unfolding act
  act_right (Compute f half a b r s) w h fits = store_right w r s _ fits (compute_entries forms f half a b r s h).1.1 (kept_low half (form_at forms r.field) _)
  act_right (Divide half a b r s) w h fits =
      or_halt_right (divided (exact (form_at forms) w a) (exact (form_at forms) w b)) 1 w _ fits
      (λ n is. record { ends = tt; fits = (store_right w r s _ fits (divide_entries forms half a b r s h).1.1 (kept_low half (form_at forms r.field) n)).fits })
  act_right (Assign negated half b r s) w h fits = store_right w r s _ fits (assign_entries forms negated half b r s h).1 (kept_low half (form_at forms r.field) _)
  act_right (TakeRemainder r s) w h fits = store_right w r s _ fits (remainder_entries forms r s h) (kept_low false (form_at forms r.field) _)
  act_right (CrossFoot half b r s) w h fits = store_right w r s _ fits (cross_entries forms half b r s h).1 (kept_low half (form_at forms r.field) _)
  act_right (Compare a b s) w h fits = record { ends = tt; fits = fits }
  act_right (LookUp a b r s) w h fits =
      looked_right (kind_of (form_at forms a.field)) w a b (option_map field_of_entry r) s (look_entries forms a b r s h).1 (look_reads forms a b r s h) (look_positions forms a b r s h) fits
  act_right (Move side b r) w h fits =
      let both = move_entries forms side b r h in
      moved_right (kind_of (form_at forms b.field)) (kind_of (form_at forms r.field)) side w b r fits both.0 both.1
  act_right (SetIndicators is_on s) w h fits = record { ends = tt; fits = fits }

  entries_then : (w : Data nat_cmp) (a : Action (Operand ℕ)) (e : Action (Entry ℕ)) → IsRightAction forms a → FitsIn forms w → resolved (form_at forms) w.fields a ≡ Some e → AreOperandEntries forms e
  entries_then w a e right fits is =
      subst (λ (x : Option (Action (Entry ℕ))). IfSome x (λ i. AreOperandEntries forms i)) is (entries_if forms w.fields a (resolved (form_at forms) w.fields a) refl valid fits right)

  pub operate_right : (a : Action (Operand ℕ)) (w : Data nat_cmp) → IsRightAction forms a → FitsIn forms w → EndsRight forms (operate (form_at forms) a w)
  unfolding operate
  operate_right a w right fits = or_halt_right (resolved (form_at forms) w.fields a) 2 w _ fits (λ e is. act_right e w (entries_then w a e right fits is) fits)
