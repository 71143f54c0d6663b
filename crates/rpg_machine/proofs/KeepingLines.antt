-- Lines of a right program are never wrong, and values keep fitting their fields.
use Rattle.std.proofs.Common.{◌≡◌, ℕ, suc, Bool, true, false, cond, eqb, List, [], ◌∷◌, map, Option, None, Some, IfSome, refl, sym, ap, ◌∙◌, subst, arith}
use Rattle.std.specs.FinSet as set
use Rattle.std.specs.Ordering.{nat_cmp}
use Rattle.std.specs.Prelude.{All}
use Rattle.rpg_paper.specs.Paper.{Position, skipped, spaced}
use Rattle.rpg_program.specs.Effect.{Effect, Leaves, go_on, unless_wrong}
use Rattle.rpg_program.specs.Ends.{End, Fault, Continues, Halt, Wrong}
use Rattle.rpg_program.specs.Entries.{position_of}
use Rattle.rpg_program.specs.Forms.{form_at, kind_of}
use Rattle.rpg_program.specs.LineFaults.{AreRight, field_fault, fits_source}
use Rattle.rpg_program.specs.Lines.{Draft, Drafted, after_movement, after_skip, after_skip_to, after_space, assembled, blank_line, blanked_all, blanked_at, with_page_counted, drafted, exception_output, go_on_with, is_due, laid, line_out, lines_out, one_out, put_on, write_line_out, remembered, spaced_before, unless_faulty, where_due, with_field, with_fields}
use Rattle.rpg_program.specs.Values.{Number, Text, Value, number_of}
use Rattle.rpg_program.specs.World.{Fields, World, three_hold, value_in}
use Rattle.rpg_program.specs.declared.form.FieldForm.{FieldForm}
use Rattle.rpg_program.specs.declared.form.Kind.{Kind}
use Rattle.rpg_program.specs.declared.form.Kind.TheVariants as kinds
use Rattle.rpg_program.specs.declared.line.File.{File}
use Rattle.rpg_program.specs.declared.line.File.TheVariants.{Printer, Disk}
use Rattle.rpg_program.specs.declared.line.LineField.{LineField}
use Rattle.rpg_program.specs.declared.line.Pass.{Pass}
use Rattle.rpg_program.specs.declared.line.Pass.TheVariants as passes
use Rattle.rpg_program.specs.declared.line.Source.{Source}
use Rattle.rpg_program.specs.declared.line.Source.TheVariants as sources
use Rattle.rpg_program.specs.declared.line.Spacing.{Spacing}
use Rattle.rpg_machine_lines.proofs.Entering.{one_more}
use Rattle.rpg_machine_lines.proofs.Fields.{right}
use Rattle.rpg_machine_lines.proofs.Keeping.{fits-blanked, page_counted, page_kind, page_small}
use Rattle.rpg_machine_lines.proofs.Operands.{entry_there}
use Rattle.rpg_machine_lines.specs.Entries.{AreFieldEntries, IsFieldEntry}
use Rattle.rpg_machine_lines.specs.Right.{AreRightLines, IsRightLine}
use Rattle.rpg_machine.specs.Laws.{FitsIn, GoesRight, IsNoFault}
use Rattle.rpg_program.specs.Constants.{word_at}
use Rattle.rpg_program.specs.Kept.{IsFieldRow}
use Rattle.rpg_program.specs.Object.{LineRow, Object, file_length, lines_of, program_line}
use Rattle.rpg_program.specs.declared.rows.Overflow.{Overflow}
use Rattle.rpg_memory.specs.Fits.{Fits, HasForm}
use Rattle.rpg_store.specs.Store.{IsNumber}

abbrev AreFit : List FieldForm → Fields nat_cmp → Type 0
AreFit forms fields = Fits forms fields.values fields.current

-- ---- movements leave the fields as they are

movement_fields : (indicator : Option ℕ) (b : Bool) (to : Position) (w : World nat_cmp) → (after_movement indicator b to w).data.fields ≡ w.data.fields
unfolding after_movement
movement_fields indicator true to w = refl
movement_fields indicator false to w = refl

skip_by : (overflow : Overflow) (line : ℕ) (w : World nat_cmp) (b : Bool) → (cond {A = World nat_cmp} b w (after_skip_to overflow line w)).data.fields ≡ w.data.fields
skip_by overflow line w true = refl
skip_by overflow line w false = movement_fields overflow.indicator _ (skipped line w.paper.here) w

pub spaced_fields : (overflow : Overflow) (skip space : ℕ) (w : World nat_cmp) → (after_space overflow space (after_skip overflow skip w)).data.fields ≡ w.data.fields
spaced_fields overflow skip space w =
    let there = after_skip overflow skip w in
    movement_fields overflow.indicator _ (spaced overflow.page space there.paper.here) there ∙ skip_by overflow skip w (eqb skip 0)

-- a line is output, or a record written
pub record PutsRight (w : World nat_cmp) (e : Effect nat_cmp) : Type 0 where
  pub goes : e.ending ≡ Continues
  pub fields : e.world.data.fields ≡ w.data.fields

put_right : (overflow : Overflow) (file : File) (s : Spacing) (text : List ℕ) (w : World nat_cmp) → PutsRight w (put_on overflow file s text w)
unfolding put_on
put_right overflow Printer s text w = record {
  goes = refl;
  fields = spaced_fields overflow s.skip_after s.space_after (spaced_before overflow s w) ∙ spaced_fields overflow s.skip_before s.space_before w;
}
put_right overflow Disk s text w = record { goes = refl; fields = refl }

module _ (p : Object) (rows : All IsFieldRow p.fields) where
  -- ---- fields

  pub record DraftsRight (d : Draft nat_cmp) : Type 0 where
    pub fits : AreFit p.fields d.fields
    pub blank : AreFieldEntries p.fields d.to_blank

  pub record DraftedRight (x : Drafted nat_cmp) : Type 0 where
    pub ends : IsNoFault x.ending
    pub draft : DraftsRight x.draft

  number_is : (v : Option Value) → IsNumber v → v ≡ Some (Number (number_of v))
  number_is None h = absurd h
  number_is (Some (Number n)) h = refl
  number_is (Some (Text t)) h = absurd h

  in_form : (k : Kind) (len : ℕ) (v : Option Value) → k ≡ kinds.Number → HasForm k len v → IsNumber v
  in_form kinds.Number len (Some (Number n)) k h = tt
  in_form kinds.Number len (Some (Text t)) k h = absurd h
  in_form kinds.Number len None k h = absurd h
  in_form kinds.Text len v k h = cc

  page_there : (f e : ℕ) (fields : Fields nat_cmp) → AreFit p.fields fields → IsFieldEntry p.fields f e → fits_source sources.Page (form_at p.fields f) ≡ true → IsNumber (value_in fields (f, e))
  page_there f e fields fits i h =
      in_form i.form.kind i.form.length (value_in fields (f, e)) (ap kind_of (sym i.there) ∙ (page_kind (form_at p.fields f) h).0) (fits.each f i.form i.there e i.low i.high)

  counted_fits : (source : Source) (f e : ℕ) (fields : Fields nat_cmp) → AreFit p.fields fields → IsFieldEntry p.fields f e → fits_source source (form_at p.fields f) ≡ true → AreFit p.fields (with_page_counted source (f, e) fields)
  counted_fits sources.Value f e fields fits i h = fits
  counted_fits sources.Page f e fields fits i h =
      let is = number_is (value_in fields (f, e)) (page_there f e fields fits i h) in
      page_counted p.fields fields f e (number_of (value_in fields (f, e))) _ fits i h (page_small p.fields fields f e (number_of (value_in fields (f, e))) fits i h is) refl

  remembered_right : (b : Bool) (f e : ℕ) (es : List (ℕ × ℕ)) → AreFieldEntries p.fields es → IsFieldEntry p.fields f e → AreFieldEntries p.fields (remembered b (f, e) es)
  remembered_right true f e es h i = one_more p.fields es f e h i
  remembered_right false f e es h i = h

  laid_right : (d : Draft nat_cmp) (f : LineField ℕ) (len : ℕ) (o : Option ℕ) → field_fault (form_at p.fields) (word_at p) len f ≡ None → IfSome o (λ n. IsFieldEntry p.fields f.operand.field n) → DraftsRight d →
      DraftedRight (laid (form_at p.fields) (word_at p) d f o)
  laid_right d f len None fault there h = record { ends = tt; draft = h }
  laid_right d f len (Some n) fault there h =
      let r = right (form_at p.fields) (word_at p) len f fault in
      record {
        ends = tt;
        draft = record {
          fits = counted_fits f.source f.operand.field n d.fields h.fits there r.source;
          blank = remembered_right f.is_blanked f.operand.field n d.to_blank h.blank there;
        };
      }

  field_by : (d : Draft nat_cmp) (e : Drafted nat_cmp) (b : Bool) (o : Option Fault) → o ≡ None → DraftsRight d → DraftedRight e → DraftedRight (cond b (unless_faulty o d e) (drafted Continues d))
  field_by d e true o none h g = subst (λ (x : Option Fault). DraftedRight (unless_faulty x d e)) (sym none) g
  field_by d e false o none h g = record { ends = tt; draft = h }

  field_right : (on : set.FinSet nat_cmp) (len : ℕ) (d : Draft nat_cmp) (f : LineField ℕ) → field_fault (form_at p.fields) (word_at p) len f ≡ None → DraftsRight d → DraftedRight (with_field (form_at p.fields) (word_at p) on len d f)
  unfolding with_field
  field_right on len d f fault h =
      let r = right (form_at p.fields) (word_at p) len f fault in
      let there = entry_there p.fields d.fields f.operand (position_of (form_at p.fields) d.fields f.operand) refl rows h.fits r.there r.index in
      field_by d (laid (form_at p.fields) (word_at p) d f (position_of (form_at p.fields) d.fields f.operand)) (three_hold on f.conditions) (field_fault (form_at p.fields) (word_at p) len f) fault h
      (laid_right d f len (position_of (form_at p.fields) d.fields f.operand) fault there h)

  go_right : (x : End) (one : Drafted nat_cmp) (go : Draft nat_cmp → Drafted nat_cmp) → IsNoFault x → DraftedRight one → ((d : Draft nat_cmp) → DraftsRight d → DraftedRight (go d)) → DraftedRight (go_on_with x one go)
  go_right Continues one go ends h next = next one.draft h.draft
  go_right (Halt k) one go ends h next = h
  go_right (Wrong f) one go ends h next = absurd ends

  assembled_right : (on : set.FinSet nat_cmp) (len : ℕ) (fs : List (LineField ℕ)) (d : Draft nat_cmp) → AreRight (form_at p.fields) (word_at p) len fs → DraftsRight d → DraftedRight (assembled (form_at p.fields) (word_at p) on len fs d)
  assembled_right on len [] d faults h = record { ends = tt; draft = h }
  assembled_right on len (f ∷ fs) d faults h =
      let one = field_right on len d f (faults 0 f (omega arith)) h in
      go_right (with_field (form_at p.fields) (word_at p) on len d f).ending (with_field (form_at p.fields) (word_at p) on len d f) (assembled (form_at p.fields) (word_at p) on len fs) one.ends one
      (λ e g. assembled_right on len fs e (λ k x l. faults (suc k) x (omega (arith, l))) g)

  blanked_right : (es : List (ℕ × ℕ)) (fields : Fields nat_cmp) → AreFieldEntries p.fields es → AreFit p.fields fields → AreFit p.fields (blanked_all es fields)
  blanked_right [] fields h fits = fits
  blanked_right (e ∷ es) fields h fits =
      blanked_right es (blanked_at e fields) (λ k x l. h (suc k) x (omega (arith, l))) (fits-blanked p.fields fields e.0 e.1 fits (h 0 e (omega arith)))

  -- ---- lines

  then_right : (x : End) (e : Effect nat_cmp) (go : World nat_cmp → Effect nat_cmp) → IsNoFault x → GoesRight p.fields e → ((w : World nat_cmp) → FitsIn p.fields w.data → GoesRight p.fields (go w)) → GoesRight p.fields (go_on x e go)
  then_right Continues e go ends h next = let n = next e.world h.fits in record { ends = n.ends; fits = n.fits }
  then_right (Halt k) e go ends h next = h
  then_right (Wrong f) e go ends h next = absurd ends

  placed_by : (es : List (ℕ × ℕ)) (fields : Fields nat_cmp) (x : End) (e : Effect nat_cmp) → x ≡ Continues → e.world.data.fields ≡ fields → AreFit p.fields (blanked_all es fields) →
      GoesRight p.fields (go_on x e (λ v. Leaves (with_fields (blanked_all es v.data.fields) v)))
  placed_by es fields Continues e goes same fits = record { ends = tt; fits = subst (λ (g : Fields nat_cmp). AreFit p.fields (blanked_all es g)) (sym same) fits }
  placed_by es fields (Halt k) e goes same fits = cc
  placed_by es fields (Wrong f) e goes same fits = cc

  put_line : (l : LineRow) (w : World nat_cmp) (x : End) (d : Draft nat_cmp) → IsNoFault x → DraftsRight d → GoesRight p.fields (write_line_out (form_at p.fields) (word_at p) p.overflow (program_line p l) w x d)
  put_line l w Continues d ends h =
      let put = put_right p.overflow l.file l.spacing d.text (with_fields d.fields w) in
      placed_by d.to_blank d.fields _ (put_on p.overflow l.file l.spacing d.text (with_fields d.fields w)) put.goes put.fields (blanked_right d.to_blank d.fields h.blank h.fits)
  put_line l w (Halt k) d ends h = record { ends = tt; fits = h.fits }
  put_line l w (Wrong f) d ends h = absurd ends

  line_right : (l : LineRow) (w : World nat_cmp) → IsRightLine p l → FitsIn p.fields w.data → GoesRight p.fields (line_out (form_at p.fields) (word_at p) p.overflow (program_line p l) w)
  unfolding line_out
  line_right l w r fits =
      let len = file_length p l.file in
      let done = assembled (form_at p.fields) (word_at p) w.data.on len l.fields (blank_line len w) in
      let drafted = assembled_right w.data.on len l.fields (blank_line len w) r.fields (record { fits = fits; blank = λ k x h. absurd (omega arith) }) in
      subst (λ (o : Option Fault). GoesRight p.fields (unless_wrong o w (write_line_out (form_at p.fields) (word_at p) p.overflow (program_line p l) w done.ending done.draft))) (sym r.fault)
      (put_line l w done.ending done.draft drafted.ends drafted.draft)

  asked_right : (b : Bool) (e : Effect nat_cmp) (w : World nat_cmp) → FitsIn p.fields w.data → GoesRight p.fields e → GoesRight p.fields (where_due (form_at p.fields) (word_at p) b e w)
  asked_right true e w fits h = h
  asked_right false e w fits h = record { ends = tt; fits = fits }

  one_right : (pass : Pass) (l : LineRow) (w : World nat_cmp) → IsRightLine p l → FitsIn p.fields w.data → GoesRight p.fields (one_out (form_at p.fields) (word_at p) p.overflow pass (program_line p l) w)
  unfolding one_out
  one_right pass l w r fits =
      asked_right (is_due p.overflow.indicator pass w.data.on l.time l.alternatives) (line_out (form_at p.fields) (word_at p) p.overflow (program_line p l) w) w fits (line_right l w r fits)

  lines_right : (pass : Pass) (ls : List LineRow) (w : World nat_cmp) → All (IsRightLine p) ls → FitsIn p.fields w.data → GoesRight p.fields (lines_out (form_at p.fields) (word_at p) p.overflow pass (map (program_line p) ls) w)
  unfolding lines_out
  lines_right pass [] w h fits = record { ends = tt; fits = fits }
  lines_right pass (l ∷ ls) w h fits =
      let one = one_right pass l w (h 0 l (omega arith)) fits in
      then_right (one_out (form_at p.fields) (word_at p) p.overflow pass (program_line p l) w).ending (one_out (form_at p.fields) (word_at p) p.overflow pass (program_line p l) w)
      (lines_out (form_at p.fields) (word_at p) p.overflow pass (map (program_line p) ls)) one.ends one
      (λ v g. lines_right pass ls v (λ k x low. h (suc k) x (omega (arith, low))) g)

  pub exceptions_right : (w : World nat_cmp) → AreRightLines p → FitsIn p.fields w.data → GoesRight p.fields (exception_output (form_at p.fields) (word_at p) p.overflow (lines_of p) w)
  exceptions_right w h fits = lines_right passes.Exception p.lines w h fits
