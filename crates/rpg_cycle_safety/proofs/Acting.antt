-- Operations keep what holds of a world.
use Rattle.std.proofs.Common.{◌≡◌, ℕ, ℤ, pos, ◌≤◌, ◌<◌, ◌^◌, Bool, true, false, not, cond, List, Option, None, Some, IfSome, refl, ◌∙◌, subst, arith, length, unsigned_abs, nat_cmp}
use Rattle.std.proofs.lemmas.Option.{cond_some, same_Some}
use Rattle.std.specs.Option.{option_map}
use Rattle.std.specs.Prelude.{All}
use Rattle.rpg_decimal.proofs.LawLemmas.{left_digits, length-zoned, read_either, right_digits, spells_either}
use Rattle.rpg_decimal.proofs.WholeLemmas.{fit-below}
use Rattle.rpg_decimal_words.specs.Fraction.{Fraction, aligned_number, with_decimals}
use Rattle.rpg_decimal_words.specs.Zoned.{number_in, zoned_text}
use Rattle.rpg_program.specs.Act.{act, assigned, computed, divided, exact, field_of_entry, found_in, found_shown, index_set, looked_up, made_current, made_current_if_any, moved, number_after, number_over, remainder_after, source_text, store, stored_value, summed, text_over, with_found}
use Rattle.rpg_program.specs.Ended.{Ended, Gives}
use Rattle.rpg_program.specs.Entries.{entry_of}
use Rattle.rpg_program.specs.Forms.{decimals_of, entries_of, form_at, is_table_form, kind_of, length_of, may_write}
use Rattle.rpg_program.specs.Operate.{has_entries, operate, resolved, with_operands}
use Rattle.rpg_program.specs.Right.{IsRightRow}
use Rattle.rpg_program.specs.Rows.{all_of, all_used, can_hold, form_of, is_there, is_written, lacks_storage, row_of}
use Rattle.rpg_program.specs.Values.{Number}
use Rattle.rpg_program.specs.World.{Data, characters_at, number_at, set_current, set_value}
use Rattle.rpg_program.specs.declared.form.Kind.{Kind}
use Rattle.rpg_program.specs.declared.form.Kind.TheVariants as kinds
use Rattle.rpg_program.specs.declared.operation.Action.{Action}
use Rattle.rpg_program.specs.declared.operation.Action.TheVariants.{Compute, Divide, Assign, TakeRemainder, CrossFoot, Compare, LookUp, Move, SetIndicators}
use Rattle.rpg_program.specs.declared.operation.Entry.{Entry}
use Rattle.rpg_program.specs.declared.operation.Found.{Found}
use Rattle.rpg_program.specs.declared.operation.Index.{Index}
use Rattle.rpg_program.specs.declared.operation.Index.TheVariants.{Blank, Literal, Field}
use Rattle.rpg_program.specs.declared.operation.Operand.{Operand}
use Rattle.rpg_program.specs.declared.operation.Shows.{Shows}
use Rattle.rpg_program.specs.declared.operation.Side.{Side}
use Rattle.rpg_program.specs.declared.operation.Side.TheVariants.{Right, Left}
use Rattle.rpg_cycle_safety.proofs.Writing.{current_set, gives, index_may, number_written, or_halts, same_fields, text_long, text_spelled, text_written}
use Rattle.rpg_cycle_safety.specs.Holding.{Holds, KeepsData}
use Rattle.rpg_machine_operations.proofs.Characters.{over_characters, zoned_characters}
use Rattle.rpg_machine_operations.proofs.Doing.{assign_entries, compute_entries, cross_entries, divide_entries, look_entries, look_positions, look_reads, move_entries, remainder_entries}
use Rattle.rpg_memory.proofs.Entries.{and_true, index_value}
use Rattle.rpg_machine_operations.proofs.Finding.{first_fits, found_fits, has_position, held, holds_index, looked}
use Rattle.rpg_machine_operations.proofs.Overlays.{over_length}
use Rattle.rpg_memory.proofs.Programs.{program_forms}
use Rattle.rpg_machine_operations.proofs.Rights.{entries_right}
use Rattle.rpg_memory.proofs.Values.{length_low}
use Rattle.rpg_machine_operations.specs.Valid.{AreOperandEntries, FitsPosition, HasPosition, IsRightAction}
use Rattle.rpg_memory.specs.Fields.{AreForms, IsValue, reads_index}
use Rattle.rpg_program.specs.Kept.{IsCharacter, IsProgram}
use Rattle.rpg_program.specs.Object.{Object}

-- ---- the result of a right operation may be written

not_false : (b : Bool) → not b ≡ false → b ≡ true
not_false true h = refl
not_false false h = cc

result_may : (p : Object) (a : Action (Operand ℕ)) → IsRightAction p.fields a →
    all_used (is_written (form_at p.fields)) (row_of (form_of (form_at p.fields)) a).result ≡ true
unfolding lacks_storage
result_may p a right = (and_true (all_of (is_there (form_at p.fields)) (row_of (form_of (form_at p.fields)) a)) _ (not_false _ right.storage)).1

-- ---- numbers that are moved

-- the number that a text spells has no more digits than the text
pub read_fits : (text : List ℕ) (len : ℕ) (n : ℤ) → length text ≡ len → number_in text ≡ Some n → unsigned_abs n < 10 ^ len
read_fits text len n long h = subst (λ (k : ℕ). unsigned_abs n < 10 ^ k) long ((spells_either text n).0 ((read_either text n).0 h)).fits

over_fits : (side : Side) (k : ℕ) (n : ℤ) (len : ℕ) (old : ℤ) → unsigned_abs (number_over side k n len old) < 10 ^ len
over_fits Right k n len old = (right_digits k n len old).fits
over_fits Left k n len old = (left_digits k n len old).fits

module _ (p : Object) (valid : AreForms p.fields) where
  after_fits : (from : Kind) (side : Side) (w : Data nat_cmp) (b : Entry ℕ) (len : ℕ) (old n : ℤ) → 1 ≤ len →
      number_after (form_at p.fields) from side w b len old ≡ Some n → unsigned_abs n < 10 ^ len
  after_fits kinds.Number side w b len old n low h =
      subst (λ (x : ℤ). unsigned_abs x < 10 ^ len) (same_Some _ n h) (over_fits side (length_of (form_at p.fields b.field)) (number_at w b.field b.position) len old)
  after_fits kinds.Text side w b len old n low h =
      read_fits (text_over side (characters_at w b.field b.position) (zoned_text len old)) len n (over_length side (characters_at w b.field b.position) (zoned_text len old) ∙ length-zoned len old low) h

  source_spelled : (from : Kind) (w : Data nat_cmp) (b : Entry ℕ) → Holds p w → IsValue p.fields from b.field b.position →
      All IsCharacter (source_text (form_at p.fields) from w b)
  source_spelled kinds.Number w b h value = zoned_characters (length_of (form_at p.fields b.field)) (number_at w b.field b.position)
  source_spelled kinds.Text w b h value = text_spelled p w b.field b.position h value

  moved_keeps : (from to : Kind) (side : Side) (w : Data nat_cmp) (b r : Entry ℕ) → Holds p w → IsValue p.fields from b.field b.position →
      IsValue p.fields to r.field r.position → may_write (form_at p.fields r.field) ≡ true →
      KeepsData p (moved (form_at p.fields) from to side w b r)
  unfolding moved
  moved_keeps from kinds.Number side w b r h source result may =
      or_halts p (number_after (form_at p.fields) from side w b (length_of (form_at p.fields r.field)) (number_at w r.field r.position)) 4 w (λ n. Gives (set_value w r.field r.position (Number n))) (omega arith, omega arith, λ is. omega (arith, is)) h
      (λ n is. gives p _ (number_written p w r.field r.position n h result may
      (after_fits from side w b (length_of (form_at p.fields r.field)) (number_at w r.field r.position) n (length_low p.fields r.field r.position valid result) is)))
  moved_keeps from kinds.Text side w b r h source result may =
      gives p _ (text_written p w r.field r.position (text_over side (source_text (form_at p.fields) from w b) (characters_at w r.field r.position)) h result may
      (over_length side (source_text (form_at p.fields) from w b) (characters_at w r.field r.position) ∙ text_long p w r.field r.position h result)
      (over_characters side (source_text (form_at p.fields) from w b) (characters_at w r.field r.position) (source_spelled from w b h source) (text_spelled p w r.field r.position h result)))

  -- ---- LOKUP

  index_kept : (index : Index ℕ) (n : ℕ) (w : Data nat_cmp) → Holds p w → reads_index p.fields index ≡ true →
      can_hold (form_at p.fields) index n ≡ true → Holds p (index_set index n w)
  index_kept Blank n w h reads holds = h
  index_kept (Literal m) n w h reads holds = h
  index_kept (Field k) n w h reads holds = number_written p w k 1 (pos n) h (index_value p.fields k valid reads) (index_may (form_at p.fields k) reads) (held p.fields k n holds)

  current_if : (b : Bool) (table n : ℕ) (w : Data nat_cmp) → Holds p w → 1 ≤ n → n ≤ entries_of (form_at p.fields table) →
      Holds p (cond b (set_current w table n) w)
  current_if true table n w h low high = current_set p w table n h low high
  current_if false table n w h low high = h

  current_kept : (table n : ℕ) (w : Data nat_cmp) → Holds p w → 1 ≤ n → n ≤ entries_of (form_at p.fields table) →
      Holds p (made_current (form_at p.fields) table n w)
  current_kept table n w h low high = current_if (is_table_form (form_at p.fields table)) table n w h low high

  table_kept : (table : Option ℕ) (n : ℕ) (w : Data nat_cmp) → Holds p w → 1 ≤ n → HasPosition p.fields table n →
      Holds p (made_current_if_any (form_at p.fields) table n w)
  table_kept None n w h low has = h
  table_kept (Some table) n w h low has = current_kept table n w h low has

  placed_keeps : (b : Entry ℕ) (table : Option ℕ) (o : Option Found) (w : Data nat_cmp) → Holds p w → reads_index p.fields b.index ≡ true →
      IfSome o (λ f. FitsPosition p.fields b table f.position) → Holds p (with_found (form_at p.fields) b table o w)
  unfolding with_found
  placed_keeps b table None w h reads fits = index_kept b.index 1 w h reads (first_fits p.fields b.index valid reads)
  placed_keeps b table (Some f) w h reads fits =
      let n = f.position in
      let one = index_kept b.index n w h reads (holds_index p.fields b table n fits) in
      let two = current_kept b.field n (index_set b.index n w) one fits.low fits.high in
      table_kept table n (made_current (form_at p.fields) b.field n (index_set b.index n w)) two fits.low (has_position p.fields b table n fits)

  looks_keep : (w : Data nat_cmp) (b : Entry ℕ) (table : Option ℕ) (s : Shows) (o : Option Found) → Holds p w → reads_index p.fields b.index ≡ true →
      IfSome o (λ f. FitsPosition p.fields b table f.position) → KeepsData p (looked_up (form_at p.fields) w b table s o)
  looks_keep w b table s o h reads fits =
      let after = with_found (form_at p.fields) b table o w in
      let v = found_shown (form_at p.fields) s o after in
      subst (λ (e : Ended nat_cmp). KeepsData p e) (looked p.fields w v b table s o fits refl) (gives p v (same_fields p after v (placed_keeps b table o w h reads fits) refl))

  -- ---- the operations

  -- a number that was made to fit is stored
  stored : (w : Data nat_cmp) (half : Bool) (r : Entry ℕ) (s : Shows) (x : Fraction) → Holds p w → IsValue p.fields kinds.Number r.field r.position →
      may_write (form_at p.fields r.field) ≡ true →
      KeepsData p (Gives (store w r s (stored_value half (form_at p.fields r.field) x)))
  stored w half r s x h value may =
      let form = form_at p.fields r.field in
      let n = stored_value half form x in
      let after = set_value w r.field r.position (Number n) in
      gives p _ (same_fields p after (store w r s n) (number_written p w r.field r.position n h value may (fit-below (aligned_number half (decimals_of form) x) (length_of form))) refl)

  module _ (w : Data nat_cmp) (h : Holds p w) where
    abbrev entry : Operand ℕ → Entry ℕ
    entry o = entry_of (form_at p.fields) w.fields o

    act_keeps : (a : Action (Operand ℕ)) → IsRightAction p.fields a → AreOperandEntries p.fields (with_operands entry a) →
        KeepsData p (act (form_at p.fields) (with_operands entry a) w)
    unfolding act row_of entry_of
    act_keeps (Compute f half a b r s) right entries =
        stored w half (entry r) s (computed f (exact (form_at p.fields) w (entry a)) (exact (form_at p.fields) w (entry b))) h
        (compute_entries p.fields f half (entry a) (entry b) (entry r) s entries).1.1 (result_may p (Compute f half a b r s) right)
    act_keeps (Divide half a b r s) right entries =
        let v : Data nat_cmp = record w { remainder = remainder_after (form_at p.fields) half w (entry a) (entry b) (entry r) } in
        or_halts p (divided (exact (form_at p.fields) w (entry a)) (exact (form_at p.fields) w (entry b))) 1 w (λ n. Gives (store v (entry r) s (stored_value half (form_at p.fields r.field) n))) (omega arith, omega arith, λ is. omega (arith, is)) h
        (λ n is. stored v half (entry r) s n (same_fields p w v h refl) (divide_entries p.fields half (entry a) (entry b) (entry r) s entries).1.1 (result_may p (Divide half a b r s) right))
    act_keeps (Assign negated half b r s) right entries =
        stored w half (entry r) s (with_decimals (assigned negated (number_at w b.field (entry b).position)) (decimals_of (form_at p.fields b.field))) h
        (assign_entries p.fields negated half (entry b) (entry r) s entries).1 (result_may p (Assign negated half b r s) right)
    act_keeps (TakeRemainder r s) right entries =
        stored w false (entry r) s w.remainder h (remainder_entries p.fields (entry r) s entries) (result_may p (TakeRemainder r s) right)
    act_keeps (CrossFoot half b r s) right entries =
        stored w half (entry r) s (summed (form_at p.fields) w (entry b)) h (cross_entries p.fields half (entry b) (entry r) s entries).1 (result_may p (CrossFoot half b r s) right)
    act_keeps (Compare a b s) right entries = gives p _ (same_fields p w _ h refl)
    act_keeps (LookUp a b r s) right entries =
        let result = option_map entry r in
        let table = option_map field_of_entry result in
        let like = (look_entries p.fields (entry a) (entry b) result s entries).1 in
        let positions = look_positions p.fields (entry a) (entry b) result s entries in
        looks_keep w (entry b) table s (found_in (form_at p.fields) w (entry a) (entry b) s) h (look_reads p.fields (entry a) (entry b) result s entries)
        (found_fits p.fields (kind_of (form_at p.fields a.field)) w (entry a) (entry b) table s _ like positions refl)
    act_keeps (Move side b r) right entries =
        let both = move_entries p.fields side (entry b) (entry r) entries in
        moved_keeps (kind_of (form_at p.fields b.field)) (kind_of (form_at p.fields r.field)) side w (entry b) (entry r) h both.0 both.1 (result_may p (Move side b r) right)
    act_keeps (SetIndicators is_on s) right entries = gives p _ (same_fields p w _ h refl)

-- an operation with nothing wrong never ends wrong, and keeps what holds
pub operate_keeps : (p : Object) (a : Action (Operand ℕ)) (w : Data nat_cmp) → IsProgram p →
    IsRightRow (form_at p.fields) (row_of (form_of (form_at p.fields)) a) → Holds p w → KeepsData p (operate (form_at p.fields) a w)
unfolding operate resolved
operate_keeps p a w stored_value row h =
    let valid = program_forms p stored_value in
    let right : IsRightAction p.fields a = record { storage = row.storage; kinds = row.kinds; positions = row.positions } in
    or_halts p (resolved (form_at p.fields) w.fields a) 2 w (λ e. act (form_at p.fields) e w) (omega arith, omega arith, λ is. omega (arith, is)) h
    (λ e is.
    let found = cond_some (has_entries (form_at p.fields) w.fields a) (with_operands (entry_of (form_at p.fields) w.fields) a) e is in
    subst (λ (x : Action (Entry ℕ)). KeepsData p (act (form_at p.fields) x w)) found.1 (act_keeps p valid w h a right (entries_right p.fields w.fields a valid h.fits right found.0)))
