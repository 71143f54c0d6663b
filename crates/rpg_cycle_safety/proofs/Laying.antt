-- A line is as long as its file's lines.
use Rattle.std.proofs.Common.{◌≡◌, ℕ, ◌+◌, ◌-◌, ◌≤◌, Bool, true, false, cond, List, [], ◌∷◌, ◌++◌, length, take, drop, Option, None, Some, IfSome, refl, sym, ◌∙◌, subst, arith, length-append, length-drop, length-take-le, nat_cmp}
use Rattle.std.proofs.lemmas.List.Elements.{All-head, All-tail}
use Rattle.rpg_program.specs.Editing.{how_of, text_of}
use Rattle.rpg_program.specs.Ends.{End, Fault, Continues, Halt, Wrong}
use Rattle.rpg_program.specs.Entries.{position_of}
use Rattle.rpg_program.specs.Forms.{form_at, kind_of, length_of}
use Rattle.rpg_program.specs.LineFaults.{AreRight, field_fault}
use Rattle.rpg_program.specs.Lines.{Draft, Drafted, assembled, with_page_counted, drafted, go_on_with, laid, laid_over, unless_faulty, with_field}
use Rattle.rpg_program.specs.World.{Data, Fields, three_hold, value_in}
use Rattle.rpg_program.specs.declared.form.FieldForm.{FieldForm}
use Rattle.rpg_program.specs.declared.line.LineField.{LineField}
use Rattle.rpg_cycle_safety.proofs.Printing.{Draws, field_keeps, laid_keeps}
use Rattle.rpg_cycle_safety.proofs.Widths.{text_wide}
use Rattle.rpg_machine_lines.proofs.Fields.{right}
use Rattle.rpg_machine_lines.proofs.Operands.{entry_there, row_at, value_there}
use Rattle.rpg_machine_lines.specs.Entries.{IsFieldEntry}
use Rattle.rpg_program.specs.Constants.{word_at}
use Rattle.rpg_program.specs.Kept.{IsProgram}
use Rattle.rpg_program.specs.Object.{Object}
use Rattle.rpg_memory.specs.Fits.{HasForm}

-- a part that ends inside a text leaves it as long as it was
over_long : (text part : List ℕ) (end : ℕ) → length part ≤ end → end ≤ length text → length (laid_over text end part) ≡ length text
unfolding laid_over
over_long text part end fits within =
    let front = take (end - length part) text in
    let whole : length (laid_over text end part) ≡ length (front ++ part) + length (drop end text) = length-append (front ++ part) (drop end text) in
    let more = length-append front part in
    let short : length front ≡ end - length part = length-take-le (end - length part) text (omega (arith, within)) in
    let rest = length-drop end text in
    omega (arith, whole, more, short, rest, fits, within)

module _ (p : Object) (kept : IsProgram p) (len : ℕ) (w : Data nat_cmp) where
  abbrev forms : ℕ → Option FieldForm
  forms field = form_at p.fields field

  abbrev IsLong : Drafted nat_cmp → Type 0
  IsLong d = length d.draft.text ≡ len

  part_fits : (fields : Fields nat_cmp) (f : LineField ℕ) (n : ℕ) → Draws p w (drafted Continues (record { fields = fields; text = []; to_blank = [] })) →
      IsFieldEntry p.fields f.operand.field n → field_fault forms (word_at p) len f ≡ None →
      length (text_of (forms f.operand.field) (how_of (word_at p) f.editing f.fill) (value_in fields (f.operand.field, n))) ≤ f.end
  part_fits fields f n h i fault =
      let v = value_in fields (f.operand.field, n) in
      let low : 1 ≤ length_of (forms f.operand.field) = subst (λ (o : Option FieldForm). 1 ≤ length_of o) (sym i.there) (row_at p.fields f.operand.field i.form kept.fields i.there).shortest in
      let has : HasForm (kind_of (forms f.operand.field)) (length_of (forms f.operand.field)) v =
      subst (λ (o : Option FieldForm). HasForm (kind_of o) (length_of o) v) (sym i.there) (value_there p.fields fields h.fields.fits f.operand.field n i) in
      let wide = text_wide (kind_of (forms f.operand.field)) (forms f.operand.field) (how_of (word_at p) f.editing f.fill) v low has in
      let fits = (right forms (word_at p) len f fault).width in
      omega (arith, wide, fits)

  laid_long : (d : Draft nat_cmp) (f : LineField ℕ) (position : Option ℕ) → field_fault forms (word_at p) len f ≡ None → Draws p w (drafted Continues d) →
      IfSome position (λ n. IsFieldEntry p.fields f.operand.field n) → length d.text ≡ len → IsLong (laid forms (word_at p) d f position)
  laid_long d f None fault h i long = long
  laid_long d f (Some n) fault h i long =
      let fields = with_page_counted f.source (f.operand.field, n) d.fields in
      let after = laid_keeps p kept len w d f (Some n) fault h i in
      let part = text_of (forms f.operand.field) (how_of (word_at p) f.editing f.fill) (value_in fields (f.operand.field, n)) in
      let fits = part_fits fields f n (record { ending = tt; fields = after.fields; blanks = λ k e low. absurd (omega (arith, low)) }) i fault in
      let end = (right forms (word_at p) len f fault).end in
      over_long d.text part f.end fits (omega (arith, end, long)) ∙ long

  where_held : (b : Bool) (x y : Drafted nat_cmp) → IsLong x → IsLong y → IsLong (cond b x y)
  where_held true x y h k = h
  where_held false x y h k = k

  field_long : (d : Draft nat_cmp) (f : LineField ℕ) → field_fault forms (word_at p) len f ≡ None → Draws p w (drafted Continues d) → length d.text ≡ len →
      IsLong (with_field forms (word_at p) w.on len d f)
  unfolding with_field
  field_long d f fault h long =
      let r = right forms (word_at p) len f fault in
      let position = position_of forms d.fields f.operand in
      let i = entry_there p.fields d.fields f.operand position refl kept.fields h.fields.fits r.there r.index in
      let put = laid forms (word_at p) d f position in
      where_held (three_hold w.on f.conditions) (unless_faulty (field_fault forms (word_at p) len f) d put) (drafted Continues d)
      (subst (λ (o : Option Fault). IsLong (unless_faulty o d put)) (sym fault) (laid_long d f position fault h i long)) long

  then_long : (ending : End) (d : Drafted nat_cmp) (go : Draft nat_cmp → Drafted nat_cmp) → Draws p w d → IsLong d →
      (Draws p w (drafted Continues d.draft) → IsLong (go d.draft)) → IsLong (go_on_with ending d go)
  then_long Continues d go h long next = next (record { ending = tt; fields = h.fields; blanks = h.blanks })
  then_long (Halt k) d go h long next = long
  then_long (Wrong f) d go h long next = long

  pub assembled_long : (fs : List (LineField ℕ)) (d : Draft nat_cmp) → AreRight forms (word_at p) len fs → Draws p w (drafted Continues d) → length d.text ≡ len →
      length (assembled forms (word_at p) w.on len fs d).draft.text ≡ len
  assembled_long [] d all h long = long
  assembled_long (f ∷ fs) d all h long =
      let Right = λ (g : LineField ℕ). field_fault forms (word_at p) len g ≡ None in
      let fault = All-head Right f fs all in
      let one = with_field forms (word_at p) w.on len d f in
      let here = field_long d f fault h long in
      then_long one.ending one (assembled forms (word_at p) w.on len fs) (field_keeps p kept len w d f fault h) here
      (λ k. assembled_long fs one.draft (All-tail Right f fs all) k here)
