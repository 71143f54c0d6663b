-- A line, from its parts.
use Rattle.std.proofs.Common.{◌≡◌, ℕ, Bool, true, false, List, [], Option, None, refl, sym, ap, ◌∙◌, subst, nat_cmp, replicate}
use Rattle.std.specs.FinSet as sets
use Rattle.rpg_paper.specs.Paper.{Position}
use Rattle.rpg_program.proofs.Putting.{quiet_done, then_done}
use Rattle.rpg_program.specs.Effect.{Effect, Leaves, unless_wrong}
use Rattle.rpg_program.specs.Ends.{End, Continues, Halt, end_of}
use Rattle.rpg_program.specs.LineFaults.{line_fault}
use Rattle.rpg_program.specs.Lines.{Draft, Drafted, Line, assembled, blank_line, blanked_all, drafted, is_due, line_out, one_out, put_on, write_line_out, where_due, with_fields}
use Rattle.rpg_program.specs.Put.{Bytes, Held, IsDone, IsLeft, on_paper}
use Rattle.rpg_program.specs.World.{Fields, World}
use Rattle.rpg_program.specs.declared.form.FieldForm.{FieldForm}
use Rattle.rpg_program.specs.declared.line.LineField.{LineField}
use Rattle.rpg_program.specs.declared.line.Pass.{Pass}
use Rattle.rpg_program.specs.declared.outcome.End as rust
use Rattle.rpg_program.specs.declared.rows.Overflow.{Overflow}
use Rattle.rpg_machine_lines.specs.Drafts.{draft_of}

-- the same with other fields
abbrev pub fields_replaced : Fields nat_cmp → Held → Held
fields_replaced fields w = record { last = w.last; world = with_fields fields w.world }

module _ (forms : ℕ → Option FieldForm) (words : ℕ → List ℕ) (overflow : Overflow) (l : Line ℕ) (w : Held) (q : Bytes) where
  -- the line's fields were assembled to this draft
  abbrev pub IsDrafted : End → Draft nat_cmp → Type 0
  IsDrafted e d = drafted e d ≡ assembled forms words w.world.data.on l.len l.fields (blank_line l.len w.world)

  -- the line, wherever it is placed
  abbrev out_at : Option Position → Effect nat_cmp
  out_at previous = line_out forms words overflow l (on_paper previous w.world)

  line_is : (previous : Option Position) (e : End) (d : Draft nat_cmp) → line_fault overflow.page.lines l.len l.spacing ≡ None → IsDrafted e d →
      out_at previous ≡ write_line_out forms words overflow l (on_paper previous w.world) e d
  unfolding line_out
  line_is previous e d h a =
      let x = on_paper previous w.world in
      let done = assembled forms words w.world.data.on l.len l.fields (blank_line l.len w.world) in
      ap (λ o. unless_wrong o x (write_line_out forms words overflow l x done.ending done.draft)) h
      ∙ ap (λ (y : Drafted nat_cmp). write_line_out forms words overflow l x y.ending y.draft) (sym a)

  -- a field halted
  pub line_halted : (k : ℕ) (d : Draft nat_cmp) (v : Held) → line_fault overflow.page.lines l.len l.spacing ≡ None → IsDrafted (Halt k) d → v ≡ fields_replaced d.fields w →
      IsDone (line_out forms words overflow l) w q (Halt k) v q
  line_halted k d v h a is =
      let last = ap (λ (x : Held). x.last) is in
      let left = quiet_done (with_fields d.fields) (Halt k) w v q last (λ p. ap (λ (x : Held). on_paper p x.world) is) in
      record {
        following = λ previous e. subst (λ (x : Effect nat_cmp). IsLeft previous x q (Halt k) v q) (sym (line_is previous (Halt k) d h a)) (left.following previous e);
      }

  -- the line was put on its file, and its entries were blanked
  pub line_placed : (d : Draft nat_cmp) (v u : Held) (o : Bytes) → line_fault overflow.page.lines l.len l.spacing ≡ None → IsDrafted Continues d →
      IsDone (put_on overflow l.file l.spacing d.text) (fields_replaced d.fields w) q Continues v o →
      u.last ≡ v.last → u.world ≡ with_fields (blanked_all d.to_blank v.world.data.fields) v.world →
      IsDone (line_out forms words overflow l) w q Continues u o
  line_placed d v u o h a put last world =
      let blank : World nat_cmp → World nat_cmp = λ x. with_fields (blanked_all d.to_blank x.data.fields) x in
      let cleared : IsDone (λ x. Leaves (blank x)) v o Continues u o = quiet_done blank Continues v u o last (λ p. ap (on_paper p) world) in
      let both = then_done (put_on overflow l.file l.spacing d.text) (λ x. Leaves (blank x)) (fields_replaced d.fields w) v u q o o Continues put cleared in
      record {
        following = λ previous e. subst (λ (x : Effect nat_cmp). IsLeft previous x q Continues u o) (sym (line_is previous Continues d h a)) (both.following previous e);
      }

  -- the line, where it is due
  abbrev due_at : Bool → Option Position → Effect nat_cmp
  due_at b previous = where_due forms words b (out_at previous) (on_paper previous w.world)

  -- it isn't due
  pub not_due : (pass : Pass) → is_due overflow.indicator pass w.world.data.on l.time l.alternatives ≡ false → IsDone (one_out forms words overflow pass l) w q Continues w q
  unfolding one_out
  not_due pass h =
      let none = quiet_done (λ x. x) Continues w w q refl (λ p. refl) in
      record { following = λ previous e. subst (λ b. IsLeft previous (due_at b previous) q Continues w q) (sym h) (none.following previous e) }

  -- it is due
  pub line_due : (pass : Pass) (e : End) (v : Held) (o : Bytes) → is_due overflow.indicator pass w.world.data.on l.time l.alternatives ≡ true →
      IsDone (line_out forms words overflow l) w q e v o → IsDone (one_out forms words overflow pass l) w q e v o
  unfolding one_out
  line_due pass e v o h d =
      record { following = λ previous g. subst (λ b. IsLeft previous (due_at b previous) q e v o) (sym h) (d.following previous g) }

-- assembled, whatever the code called its parts
pub assembled_from : (forms : ℕ → Option FieldForm) (words : ℕ → List ℕ) (on : sets.FinSet nat_cmp) (fields : Fields nat_cmp) (r : rust.End) (e : End)
    (d : Draft nat_cmp) (n len : ℕ) (fs gs : List (LineField ℕ)) (text : List ℕ) (es : List (ℕ × ℕ)) →
    end_of r ≡ e → n ≡ len → fs ≡ gs → text ≡ replicate len 32 → es ≡ [] →
    drafted (end_of r) d ≡ assembled forms words on n fs (draft_of fields text es) →
    drafted e d ≡ assembled forms words on len gs (draft_of fields (replicate len 32) [])
assembled_from forms words on fields r e d n len fs gs text es ends long same blank none h =
    ap (λ x. drafted x d) (sym ends) ∙ h
    ∙ ap (λ (m : ℕ). assembled forms words on m fs (draft_of fields text es)) long
    ∙ ap (λ (xs : List (LineField ℕ)). assembled forms words on len xs (draft_of fields text es)) same
    ∙ ap (λ (t : List ℕ). assembled forms words on len gs (draft_of fields t es)) blank
    ∙ ap (λ (xs : List (ℕ × ℕ)). assembled forms words on len gs (draft_of fields (replicate len 32) xs)) none
