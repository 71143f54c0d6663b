-- Programs whose total lines weigh nothing: they have none, and none is due.
use Rattle.std.proofs.Common.{◌≡◌, ℕ, ◌+◌, Bool, true, false, cond, List, [], ◌∷◌, refl, map, length, nat_cmp, arith}
use Rattle.rpg_program.proofs.Putting.{quiet_done}
use Rattle.rpg_program.specs.Effect.{Effect}
use Rattle.rpg_program.specs.Ends.{Continues}
use Rattle.rpg_program.specs.Forms.{form_at}
use Rattle.rpg_program.specs.Lines.{lines_out}
use Rattle.rpg_program.specs.Put.{Bytes, Held, IsDone}
use Rattle.rpg_program.specs.Weights.{is_at_total, lines_weight, total_weight}
use Rattle.rpg_program.specs.World.{World}
use Rattle.rpg_program.specs.declared.line.Pass.TheVariants.{Total}
use Rattle.rpg_program.specs.declared.line.Time.{Time}
use Rattle.rpg_program.specs.declared.line.Time.TheVariants as times
use Rattle.rpg_program.specs.declared.outcome.End.TheVariants as answers
use Rattle.rpg_machine_lines.proofs.Following.{went_on}
use Rattle.rpg_machine_lines.proofs.OneLine.{not_due}
use Rattle.rpg_machine_lines.proofs.Passages.{none_due}
use Rattle.rpg_machine_lines.specs.Outputs.{one_effect, total_effect}
use Rattle.rpg_machine_lines.specs.Passages.{may_count}
use Rattle.rpg_program.specs.Constants.{word_at}
use Rattle.rpg_program.specs.Object.{LineRow, Object, lines_of, program_line}

-- a line that weighs nothing is none that may count at total time
no_total : (time : Time) (fields others : ℕ) → cond (is_at_total time) (1 + fields) 0 + others ≡ 0 → may_count time Total ≡ false
no_total times.Heading fields others h = refl
no_total times.Detail fields others h = refl
no_total times.Total fields others h = absurd (omega (arith, h))
no_total times.Exception fields others h = refl

others_nothing : (b : Bool) (fields others : ℕ) → cond b (1 + fields) 0 + others ≡ 0 → others ≡ 0
others_nothing true fields others h = omega (arith, h)
others_nothing false fields others h = omega (arith, h)

module _ (p : Object) (w : Held) (q : Bytes) where
  abbrev totals_of : List LineRow → World nat_cmp → Effect nat_cmp
  totals_of ls x = lines_out (form_at p.fields) (word_at p) p.overflow Total (map (program_line p) ls) x

  none_out : (ls : List LineRow) → lines_weight is_at_total (map (program_line p) ls) ≡ 0 → IsDone (totals_of ls) w q Continues w q
  unfolding lines_out
  none_out [] h = quiet_done (λ x. x) Continues w w q refl (λ x. refl)
  none_out (l ∷ ls) h =
      let others = lines_weight is_at_total (map (program_line p) ls) in
      let none = none_due p.overflow.indicator Total w.world.data.on l.time l.alternatives (no_total l.time (length l.fields) others h) in
      let quiet = not_due (form_at p.fields) (word_at p) p.overflow (program_line p l) w q Total none in
      went_on (one_effect p Total l) (totals_of ls) w w q q answers.Continues quiet w q Continues refl (none_out ls (others_nothing (is_at_total l.time) (length l.fields) others h))

  -- total output puts nothing out where its lines weigh nothing
  pub no_totals : total_weight (lines_of p) ≡ 0 → IsDone (total_effect p) w q Continues w q
  no_totals h = none_out p.lines h
