-- Output lines keep what holds of a world.
use Rattle.std.proofs.Common.{◌≡◌, ℕ, pos, ◌<◌, Bool, true, false, not, ◌&&◌, ◌||◌, cond, List, [], ◌∷◌, map, length, replicate, get_or, Option, None, Some, IfSome, refl, sym, ap, ◌∙◌, subst, arith, nat_cmp}
use Rattle.std.proofs.lemmas.List.{get_or-replicate, length-replicate}
use Rattle.std.proofs.lemmas.List.Elements.{All-head, All-nil, All-push, All-tail}
use Rattle.std.specs.Prelude.{All}
use Rattle.rpg_decimal.proofs.WholeLemmas.{ten_pos}
use Rattle.rpg_program.specs.Effect.{Effect, Leaves, unless_wrong}
use Rattle.rpg_program.specs.Ends.{End, Fault, Continues, Halt, Wrong}
use Rattle.rpg_program.specs.Entries.{position_of}
use Rattle.rpg_program.specs.Forms.{form_at, is_index_form, kind_of, length_of, may_write}
use Rattle.rpg_program.specs.LineFaults.{AreRight, field_fault, fits_source, has_room, has_storage, has_word, prints_page, may_change}
use Rattle.rpg_program.specs.Lines.{Draft, Drafted, Line, assembled, blank_line, blanked, blanked_all, with_page_counted, drafted, go_on_with, is_due, laid, line_out, lines_out, next_page, one_out, printed_line, put_on, write_line_out, remembered, spaced_after, spaced_before, unless_faulty, where_due, with_field, with_fields}
use Rattle.rpg_program.specs.Rows.{has_entry}
use Rattle.rpg_program.specs.Values.{Value, Number, Text, number_of}
use Rattle.rpg_program.specs.World.{Data, World, set_value, three_hold, value_in}
use Rattle.rpg_program.specs.declared.form.FieldForm.{FieldForm}
use Rattle.rpg_program.specs.declared.form.Kind.{Kind}
use Rattle.rpg_program.specs.declared.form.Kind.TheVariants as kinds
use Rattle.rpg_program.specs.declared.line.File.{File}
use Rattle.rpg_program.specs.declared.line.File.TheVariants.{Printer, Disk}
use Rattle.rpg_program.specs.declared.line.LineField.{LineField}
use Rattle.rpg_program.specs.declared.line.Pass.{Pass}
use Rattle.rpg_program.specs.declared.line.Source.{Source}
use Rattle.rpg_program.specs.declared.line.Source.TheVariants as sources
use Rattle.rpg_program.specs.declared.line.Spacing.{Spacing}
use Rattle.rpg_program.specs.declared.rows.Overflow.{Overflow}
use Rattle.rpg_cycle_safety.proofs.Writing.{index_may, leaves, number_written, same_fields, text_written, then_keeps}
use Rattle.rpg_cycle_safety.specs.Holding.{Holds, IsEffectEnd, Keeps}
use Rattle.rpg_machine.proofs.KeepingLines.{spaced_fields}
use Rattle.rpg_machine_lines.proofs.Fields.{right}
use Rattle.rpg_machine_lines.proofs.Keeping.{page_kind, page_room, page_small}
use Rattle.rpg_machine_lines.proofs.Operands.{entry_there, value_there}
use Rattle.rpg_memory.proofs.Entries.{and_true}
use Rattle.rpg_machine_lines.specs.Entries.{IsFieldEntry}
use Rattle.rpg_memory.specs.Fields.{IsValue}
use Rattle.rpg_program.specs.Constants.{word_at}
use Rattle.rpg_program.specs.Kept.{IsCharacter, IsProgram}
use Rattle.rpg_program.specs.Object.{LineRow, Object, file_length, program_line}
use Rattle.rpg_verify_rules.specs.Sound.{IsSoundLine}
use Rattle.rpg_memory.specs.Fits.{HasForm}

-- ---- fields with nothing wrong are written only where they may be

changes : (b : Bool) (f : Fault) (o : Option Fault) → cond (not b) (Some f) o ≡ None → b ≡ true
changes true f o h = refl
changes false f o h = cc

field_may : (forms : ℕ → Option FieldForm) (words : ℕ → List ℕ) (len : ℕ) (f : LineField ℕ) → field_fault forms words len f ≡ None → may_change forms f ≡ true
unfolding field_fault
field_may forms words len f h =
    (and_true (has_room forms words len f) (may_change forms f) (and_true (has_entry forms f.operand && has_word forms f.editing) _ (changes (has_storage forms words len f) _ _ h)).1).1

blank_may : (is_blanked page may : Bool) → (not (is_blanked || page) || may) ≡ true → is_blanked ≡ true → may ≡ true
blank_may true page may h is = h
blank_may false page may h is = cc

blank_characters : (n : ℕ) → All IsCharacter (replicate n 32)
blank_characters n k d low =
    let same : get_or (replicate n 32) k d ≡ 32 = get_or-replicate n k 32 d (subst (λ (m : ℕ). k < m) (length-replicate n 32) low) in
    subst IsCharacter (sym same) (record { lowest = omega arith; highest = omega arith })

number_here : (k : Kind) (len : ℕ) (o : Option Value) → k ≡ kinds.Number → HasForm k len o → o ≡ Some (Number (number_of o))
number_here kinds.Number len (Some (Number n)) is h = refl
number_here kinds.Number len (Some (Text text)) is h = absurd h
number_here kinds.Number len None is h = absurd h
number_here kinds.Text len o is h = cc

-- ---- entries that are written

-- an entry that may be written
pub record MayWrite (p : Object) (e : ℕ × ℕ) : Type 0 where
  pub entry : IsFieldEntry p.fields e.0 e.1
  pub may : may_write (form_at p.fields e.0) ≡ true

module _ (p : Object) where
  value_of : (k : Kind) (f n : ℕ) → (i : IsFieldEntry p.fields f n) → i.form.kind ≡ k → IsValue p.fields k f n
  value_of k f n i kind = record { form = i.form; there = i.there; kind = kind; low = i.low; high = i.high }

  blank_by : (k : Kind) (v : Option Value) (w : Data nat_cmp) (f n : ℕ) → Holds p w → (i : IsFieldEntry p.fields f n) → i.form.kind ≡ k →
      may_write (form_at p.fields f) ≡ true → HasForm k i.form.length v →
      Holds p (set_value w f n (blanked v))
  blank_by kinds.Number (Some (Number m)) w f n h i kind may has = number_written p w f n (pos 0) h (value_of kinds.Number f n i kind) may (ten_pos (length_of (form_at p.fields f)))
  blank_by kinds.Text (Some (Text text)) w f n h i kind may has =
      text_written p w f n (replicate (length text) 32) h (value_of kinds.Text f n i kind) may (length-replicate (length text) 32 ∙ has ∙ ap length_of (sym i.there)) (blank_characters (length text))
  blank_by kinds.Number (Some (Text text)) w f n h i kind may has = absurd has
  blank_by kinds.Text (Some (Number m)) w f n h i kind may has = absurd has
  blank_by kinds.Number None w f n h i kind may has = absurd has
  blank_by kinds.Text None w f n h i kind may has = absurd has

  -- an entry is blanked
  one_blanked : (w : Data nat_cmp) (e : ℕ × ℕ) → Holds p w → MayWrite p e → Holds p (set_value w e.0 e.1 (blanked (value_in w.fields e)))
  one_blanked w e h m = blank_by m.entry.form.kind (value_in w.fields e) w e.0 e.1 h m.entry refl m.may (value_there p.fields w.fields h.fits e.0 e.1 m.entry)

  all_blanked : (es : List (ℕ × ℕ)) (w : Data nat_cmp) → Holds p w → All (MayWrite p) es → Holds p (record w { fields = blanked_all es w.fields })
  all_blanked [] w h may = h
  all_blanked (e ∷ es) w h may =
      all_blanked es (set_value w e.0 e.1 (blanked (value_in w.fields e))) (one_blanked w e h (All-head (MayWrite p) e es may)) (All-tail (MayWrite p) e es may)

  -- PAGE is made one more
  page_written : (w : Data nat_cmp) (f n : ℕ) → Holds p w → IsFieldEntry p.fields f n → fits_source sources.Page (form_at p.fields f) ≡ true →
      Holds p (set_value w f n (Number (next_page (number_of (value_in w.fields (f, n))))))
  page_written w f n h i source =
      let before = number_of (value_in w.fields (f, n)) in
      let kind : i.form.kind ≡ kinds.Number = ap kind_of (sym i.there) ∙ (page_kind (form_at p.fields f) source).0 in
      let read = number_here i.form.kind i.form.length (value_in w.fields (f, n)) kind (value_there p.fields w.fields h.fits f n i) in
      let room = page_room p.fields p.fields f before (next_page before) refl source (page_small p.fields w.fields f n before h.fits i source read) refl in
      let index = (and_true (is_index_form (form_at p.fields f)) _ source).0 in
      number_written p w f n (next_page before) h (value_of kinds.Number f n i kind) (index_may (form_at p.fields f) index) room

  counts : (source : Source) (w : Data nat_cmp) (f n : ℕ) → Holds p w → IsFieldEntry p.fields f n → fits_source source (form_at p.fields f) ≡ true →
      Holds p (record w { fields = with_page_counted source (f, n) w.fields })
  counts sources.Value w f n h i source = h
  counts sources.Page w f n h i source = page_written w f n h i source

  -- ---- a line that is being assembled

  -- how assembling ended, and what holds of the draft, whatever else there is
  pub record Draws (w : Data nat_cmp) (d : Drafted nat_cmp) : Type 0 where
    pub ending : IsEffectEnd d.ending
    pub fields : Holds p (record w { fields = d.draft.fields })
    pub blanks : All (MayWrite p) d.draft.to_blank

  remembers : (b : Bool) (e : ℕ × ℕ) (es : List (ℕ × ℕ)) → All (MayWrite p) es → IsFieldEntry p.fields e.0 e.1 →
      (b ≡ true → may_write (form_at p.fields e.0) ≡ true) → All (MayWrite p) (remembered b e es)
  remembers true e es h i may = All-push (MayWrite p) es e h (record { entry = i; may = may refl })
  remembers false e es h i may = h

  module _ (kept : IsProgram p) (len : ℕ) (w : Data nat_cmp) where
    abbrev forms : ℕ → Option FieldForm
    forms field = form_at p.fields field

    pub laid_keeps : (d : Draft nat_cmp) (f : LineField ℕ) (position : Option ℕ) → field_fault forms (word_at p) len f ≡ None → Draws w (drafted Continues d) →
        IfSome position (λ n. IsFieldEntry p.fields f.operand.field n) →
        Draws w (laid forms (word_at p) d f position)
    laid_keeps d f None fault h i = record { ending = (omega arith, omega arith, λ is. omega (arith, is)); fields = h.fields; blanks = h.blanks }
    laid_keeps d f (Some n) fault h i = record {
      ending = tt;
      fields = counts f.source (record w { fields = d.fields }) f.operand.field n h.fields i (right forms (word_at p) len f fault).source;
      blanks = remembers f.is_blanked (f.operand.field, n) d.to_blank h.blanks i (blank_may f.is_blanked (prints_page f.source) _ (field_may forms (word_at p) len f fault));
    }

    pub field_keeps : (d : Draft nat_cmp) (f : LineField ℕ) → field_fault forms (word_at p) len f ≡ None → Draws w (drafted Continues d) →
        Draws w (with_field forms (word_at p) w.on len d f)
    unfolding with_field
    field_keeps d f fault h =
        let r = right forms (word_at p) len f fault in
        let position = position_of forms d.fields f.operand in
        let i = entry_there p.fields d.fields f.operand position refl kept.fields h.fields.fits r.there r.index in
        where_held (three_hold w.on f.conditions) (subst (λ (o : Option Fault). Draws w (unless_faulty o d (laid forms (word_at p) d f position))) (sym fault) (laid_keeps d f position fault h i)) h
      where
        where_held : (b : Bool) → {x y : Drafted nat_cmp} → Draws w x → Draws w y → Draws w (cond b x y)
        where_held true h k = h
        where_held false h k = k

    continues : (ending : End) (d : Drafted nat_cmp) (go : Draft nat_cmp → Drafted nat_cmp) → IsEffectEnd ending → Draws w d →
        (Draws w (drafted Continues d.draft) → Draws w (go d.draft)) → Draws w (go_on_with ending d go)
    continues Continues d go right h next = next (record { ending = tt; fields = h.fields; blanks = h.blanks })
    continues (Halt k) d go right h next = h
    continues (Wrong f) d go right h next = absurd right

    assembled_keeps : (fs : List (LineField ℕ)) (d : Draft nat_cmp) → AreRight forms (word_at p) len fs → Draws w (drafted Continues d) →
        Draws w (assembled forms (word_at p) w.on len fs d)
    assembled_keeps [] d all h = h
    assembled_keeps (f ∷ fs) d all h =
        let Right = λ (g : LineField ℕ). field_fault forms (word_at p) len g ≡ None in
        let one = field_keeps d f (All-head Right f fs all) h in
        continues (with_field forms (word_at p) w.on len d f).ending (with_field forms (word_at p) w.on len d f) (assembled forms (word_at p) w.on len fs) one.ending one
        (λ k. assembled_keeps fs (with_field forms (word_at p) w.on len d f).draft (All-tail Right f fs all) k)

  -- ---- a line that is output

  put_keeps : (overflow : Overflow) (file : File) (s : Spacing) (text : List ℕ) (w : World nat_cmp) → Holds p w.data → Keeps p (put_on overflow file s text w)
  unfolding put_on
  put_keeps overflow Disk s text w h = record { ending = tt; holds = h }
  put_keeps overflow Printer s text w h =
      then_keeps p (printed_line (spaced_before overflow s w) text) (λ v. Leaves (spaced_after overflow s v)) (record { ending = tt; holds = same_fields p w.data (spaced_before overflow s w).data h (spaced_fields overflow s.skip_before s.space_before w) })
      (λ v k. leaves p _ (same_fields p v.data (spaced_after overflow s v).data k (spaced_fields overflow s.skip_after s.space_after v)))

  out_keeps : (overflow : Overflow) (l : Line ℕ) (w : World nat_cmp) (ending : End) (d : Draft nat_cmp) → IsEffectEnd ending →
      Draws w.data (drafted Continues d) → Keeps p (write_line_out (form_at p.fields) (word_at p) overflow l w ending d)
  out_keeps overflow l w Continues d right h =
      then_keeps p (put_on overflow l.file l.spacing d.text (with_fields d.fields w)) (λ v. Leaves (with_fields (blanked_all d.to_blank v.data.fields) v))
      (put_keeps overflow l.file l.spacing d.text (with_fields d.fields w) h.fields) (λ v k. leaves p _ (all_blanked d.to_blank v.data k h.blanks))
  out_keeps overflow l w (Halt k) d right h = record { ending = right; holds = h.fields }
  out_keeps overflow l w (Wrong f) d right h = absurd right

  module _ (kept : IsProgram p) where
    line_keeps : (l : LineRow) (w : World nat_cmp) → IsSoundLine p l → Holds p w.data → Keeps p (line_out (form_at p.fields) (word_at p) p.overflow (program_line p l) w)
    unfolding line_out
    line_keeps l w sound h =
        let len = file_length p l.file in
        let start = blank_line len w in
        let done = assembled (form_at p.fields) (word_at p) w.data.on len l.fields start in
        let draws = assembled_keeps kept len w.data l.fields start sound.fields (record { ending = tt; fields = h; blanks = All-nil (MayWrite p) }) in
        let out = out_keeps p.overflow (program_line p l) w done.ending done.draft draws.ending (record { ending = tt; fields = draws.fields; blanks = draws.blanks }) in
        subst (λ (o : Option Fault). Keeps p (unless_wrong o w (write_line_out (form_at p.fields) (word_at p) p.overflow (program_line p l) w done.ending done.draft))) (sym sound.line) out

    asked_keeps : (b : Bool) (e : Effect nat_cmp) (w : World nat_cmp) → Keeps p e → Holds p w.data → Keeps p (where_due (form_at p.fields) (word_at p) b e w)
    asked_keeps true e w k h = k
    asked_keeps false e w k h = leaves p w h

    pub one_keeps : (pass : Pass) (l : LineRow) (w : World nat_cmp) → IsSoundLine p l → Holds p w.data →
        Keeps p (one_out (form_at p.fields) (word_at p) p.overflow pass (program_line p l) w)
    unfolding one_out
    one_keeps pass l w sound h =
        asked_keeps (is_due p.overflow.indicator pass w.data.on l.time l.alternatives) (line_out (form_at p.fields) (word_at p) p.overflow (program_line p l) w) w (line_keeps l w sound h) h

    -- the lines of a passage
    pub lines_keep : (pass : Pass) (ls : List LineRow) (w : World nat_cmp) → All (IsSoundLine p) ls → Holds p w.data →
        Keeps p (lines_out (form_at p.fields) (word_at p) p.overflow pass (map (program_line p) ls) w)
    unfolding lines_out
    lines_keep pass [] w sound h = leaves p w h
    lines_keep pass (l ∷ ls) w sound h =
        then_keeps p (one_out (form_at p.fields) (word_at p) p.overflow pass (program_line p l) w) (lines_out (form_at p.fields) (word_at p) p.overflow pass (map (program_line p) ls))
        (one_keeps pass l w (All-head (IsSoundLine p) l ls sound) h) (λ v k. lines_keep pass ls v (All-tail (IsSoundLine p) l ls sound) k)
