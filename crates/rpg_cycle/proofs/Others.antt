-- Output changes no indicator but that of overflow.
use Rattle.std.proofs.Common.{◌≡◌, ℕ, Bool, true, false, cond, eqb, not, ◌&&◌, ◌||◌, List, [], ◌∷◌, Option, None, Some, refl, ap, ◌∙◌}
use Rattle.std.specs.Cmp.{nat_cmp_total, unsigned_tied}
use Rattle.std.specs.FinSet as set
use Rattle.std.specs.Ordering.{nat_cmp}
use Rattle.rpg_paper.specs.Paper.{Position, skip_turns_on, skipped, space_turns_on, spaced}
use Rattle.rpg_program.specs.Effect.{Effect, Leaves, go_on, then_go, unless_wrong}
use Rattle.rpg_program.specs.Ends.{End, Fault, Continues, Halt, Wrong}
use Rattle.rpg_program.specs.LineFaults.{line_fault}
use Rattle.rpg_program.specs.Lines.{Draft, Line, after_movement, after_skip, after_space, assembled, blank_line, blanked_all, detail_output, is_due, line_out, lines_out, one_out, put_on, write_line_out, settled, spaced_after, spaced_before, where_due, with_fields}
use Rattle.rpg_program.specs.Showing.{turned_off, turned_on}
use Rattle.rpg_program.specs.World.{World}
use Rattle.rpg_program.specs.declared.form.FieldForm.{FieldForm}
use Rattle.rpg_program.specs.declared.line.File.{File}
use Rattle.rpg_program.specs.declared.line.File.TheVariants.{Printer, Disk}
use Rattle.rpg_program.specs.declared.line.Pass.{Pass}
use Rattle.rpg_program.specs.declared.line.Pass.TheVariants as passes
use Rattle.rpg_program.specs.declared.line.Spacing.{Spacing}
use Rattle.rpg_program.specs.declared.rows.Overflow.{Overflow}

-- ---- one indicator is turned

pub insert_other : (s : set.FinSet nat_cmp) (k n : ℕ) → eqb n k ≡ false → set.contains (set.insert s k) n ≡ set.contains s n
insert_other s k n h = set.contains-insert nat_cmp_total s k n ∙ ap (λ b. b || set.contains s n) (unsigned_tied n k ∙ h)

pub remove_other : (s : set.FinSet nat_cmp) (k n : ℕ) → eqb n k ≡ false → set.contains (set.remove s k) n ≡ set.contains s n
remove_other s k n h = set.contains-remove nat_cmp_total s k n ∙ ap (λ b. not b && set.contains s n) (unsigned_tied n k ∙ h)

-- an indicator that isn't that of overflow
abbrev pub IsOther : Option ℕ → ℕ → Type 0
IsOther o n = (k : ℕ) → o ≡ Some k → eqb n k ≡ false

turned_on_other : (o : Option ℕ) (n : ℕ) (s : set.FinSet nat_cmp) → IsOther o n → set.contains (turned_on o s) n ≡ set.contains s n
turned_on_other None n s h = refl
turned_on_other (Some k) n s h = insert_other s k n (h k refl)

turned_off_other : (o : Option ℕ) (n : ℕ) (s : set.FinSet nat_cmp) → IsOther o n → set.contains (turned_off o s) n ≡ set.contains s n
turned_off_other None n s h = refl
turned_off_other (Some k) n s h = remove_other s k n (h k refl)

-- ---- worlds

-- the indicator is as it was
pub record Keeps (n : ℕ) (w v : World nat_cmp) : Type 0 where
  pub same : set.contains v.data.on n ≡ set.contains w.data.on n

nothing : (n : ℕ) (w : World nat_cmp) → Keeps n w w
nothing n w = record { same = refl }

then_keeps : (n : ℕ) (u v w : World nat_cmp) → Keeps n u v → Keeps n v w → Keeps n u w
then_keeps n u v w h g = record { same = g.same ∙ h.same }

-- one effect and then another
both : (n : ℕ) (w : World nat_cmp) (e : Effect nat_cmp) (go : World nat_cmp → Effect nat_cmp) → Keeps n w e.world → ((v : World nat_cmp) → Keeps n v (go v).world) → Keeps n w (then_go e go).world
both n w e go h g = cases e.ending
  where
    cases : (k : End) → Keeps n w (go_on k e go).world
    cases Continues = then_keeps n w e.world (go e.world).world h (g e.world)
    cases (Halt k) = h
    cases (Wrong f) = h

turned_or_not : (n : ℕ) (b : Bool) (o : Option ℕ) (s : set.FinSet nat_cmp) → IsOther o n → set.contains (cond b (turned_off o s) s) n ≡ set.contains s n
turned_or_not n true o s h = turned_off_other o n s h
turned_or_not n false o s h = refl

settled_keeps : (n : ℕ) (o : Overflow) (w : World nat_cmp) → IsOther o.indicator n → Keeps n w (settled o w)
settled_keeps n o w h = record { same = turned_or_not n (w.paper.was_overflow && not w.paper.has_turned_on) o.indicator w.data.on h }

moved : (n : ℕ) (o : Option ℕ) (is_overflow : Bool) (to : Position) (w : World nat_cmp) → IsOther o n → Keeps n w (after_movement o is_overflow to w)
unfolding after_movement
moved n o true to w h = record { same = turned_on_other o n w.data.on h }
moved n o false to w h = record { same = refl }

skip_or_not : (n : ℕ) (b : Bool) (o : Option ℕ) (is_overflow : Bool) (to : Position) (w : World nat_cmp) → IsOther o n → Keeps n w (cond b w (after_movement o is_overflow to w))
skip_or_not n true o is_overflow to w h = nothing n w
skip_or_not n false o is_overflow to w h = moved n o is_overflow to w h

moves_keep : (n : ℕ) (o : Overflow) (skip space : ℕ) (w : World nat_cmp) → IsOther o.indicator n → Keeps n w (after_space o space (after_skip o skip w))
moves_keep n o skip space w h =
    let v = after_skip o skip w in
    then_keeps n w v (after_space o space v) (skip_or_not n (eqb skip 0) o.indicator (skip_turns_on o.page skip w.paper.here) (skipped skip w.paper.here) w h)
    (moved n o.indicator (space_turns_on o.page space v.paper.here) (spaced o.page space v.paper.here) v h)

put_on_keeps : (n : ℕ) (o : Overflow) (file : File) (s : Spacing) (text : List ℕ) (w : World nat_cmp) → IsOther o.indicator n → Keeps n w (put_on o file s text w).world
unfolding put_on
put_on_keeps n o Printer s text w h =
    then_keeps n w (spaced_before o s w) (spaced_after o s (spaced_before o s w)) (moves_keep n o s.skip_before s.space_before w h) (moves_keep n o s.skip_after s.space_after (spaced_before o s w) h)
put_on_keeps n o Disk s text w h = nothing n w

module _ (forms : ℕ → Option FieldForm) (words : ℕ → List ℕ) where
  output_keeps : (n : ℕ) (o : Overflow) (l : Line ℕ) (w : World nat_cmp) (e : End) (d : Draft nat_cmp) → IsOther o.indicator n → Keeps n w (write_line_out forms words o l w e d).world
  output_keeps n o l w Continues d h =
      let drawn = with_fields d.fields w in
      let put = put_on_keeps n o l.file l.spacing d.text drawn h in
      both n w (put_on o l.file l.spacing d.text drawn) (λ v. Leaves (with_fields (blanked_all d.to_blank v.data.fields) v)) (record { same = put.same }) (λ v. record { same = refl })
  output_keeps n o l w (Halt k) d h = record { same = refl }
  output_keeps n o l w (Wrong f) d h = record { same = refl }

  unless_keeps : (n : ℕ) (f : Option Fault) (w : World nat_cmp) (e : Effect nat_cmp) → Keeps n w e.world → Keeps n w (unless_wrong f w e).world
  unless_keeps n None w e h = h
  unless_keeps n (Some f) w e h = nothing n w

  line_keeps : (n : ℕ) (o : Overflow) (l : Line ℕ) (w : World nat_cmp) → IsOther o.indicator n → Keeps n w (line_out forms words o l w).world
  unfolding line_out
  line_keeps n o l w h =
      let drawn = assembled forms words w.data.on l.len l.fields (blank_line l.len w) in
      unless_keeps n (line_fault o.page.lines l.len l.spacing) w (write_line_out forms words o l w drawn.ending drawn.draft) (output_keeps n o l w drawn.ending drawn.draft h)

  asked_keeps : (n : ℕ) (b : Bool) (e : Effect nat_cmp) (w : World nat_cmp) → Keeps n w e.world → Keeps n w (where_due forms words b e w).world
  asked_keeps n true e w h = h
  asked_keeps n false e w h = nothing n w

  one_keeps : (n : ℕ) (o : Overflow) (pass : Pass) (l : Line ℕ) (w : World nat_cmp) → IsOther o.indicator n → Keeps n w (one_out forms words o pass l w).world
  unfolding one_out
  one_keeps n o pass l w h = asked_keeps n (is_due o.indicator pass w.data.on l.time l.alternatives) (line_out forms words o l w) w (line_keeps n o l w h)

  lines_keep : (n : ℕ) (o : Overflow) (pass : Pass) (ls : List (Line ℕ)) (w : World nat_cmp) → IsOther o.indicator n → Keeps n w (lines_out forms words o pass ls w).world
  unfolding lines_out
  lines_keep n o pass [] w h = nothing n w
  lines_keep n o pass (l ∷ ls) w h =
      both n w (one_out forms words o pass l w) (lines_out forms words o pass ls) (one_keeps n o pass l w h) (λ v. lines_keep n o pass ls v h)

  pub details_keep : (n : ℕ) (o : Overflow) (ls : List (Line ℕ)) (w : World nat_cmp) → IsOther o.indicator n → Keeps n w (detail_output forms words o ls w).world
  details_keep n o ls w h = both n w (lines_out forms words o passes.Detail ls w) (λ v. Leaves (settled o v)) (lines_keep n o passes.Detail ls w h) (λ v. settled_keeps n o v h)
