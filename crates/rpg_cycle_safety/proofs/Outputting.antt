-- Outputs and instructions of an accepted program write at most 10,000 bytes for each step that they weigh.
use Rattle.std.proofs.Common.{◌≡◌, ℕ, ◌+◌, Bool, false, cond, List, [], ◌∷◌, Option, refl, arith, nat_cmp}
use Rattle.rpg_program.specs.Effect.{Leaves}
use Rattle.rpg_program.specs.Forms.{form_at}
use Rattle.rpg_program.specs.Instructions.{instruction_effect}
use Rattle.rpg_program.specs.Lines.{Line, movements_watched, settled}
use Rattle.rpg_program.specs.Weights.{instruction_weight, is_at_detail, is_at_total, is_exception, is_in_cycle, line_weight, lines_weight}
use Rattle.rpg_program.specs.Operate.{operate}
use Rattle.rpg_program.specs.World.{World}
use Rattle.rpg_program.specs.declared.line.Pass.{Pass}
use Rattle.rpg_program.specs.declared.line.Pass.TheVariants as passes
use Rattle.rpg_program.specs.declared.line.Time.{Time}
use Rattle.rpg_program.specs.declared.line.Time.TheVariants as spoken
use Rattle.rpg_program.specs.declared.operation.Instruction.{Instruction}
use Rattle.rpg_program.specs.declared.operation.Instruction.TheVariants.{Act, Except, Branch, Call, Return}
use Rattle.rpg_cycle_safety.proofs.Instructing.{passage_keeps}
use Rattle.rpg_cycle_safety.proofs.Sizing.{PutsFew, data_few, few_more, leaves_few, lines_few, then_few}
use Rattle.rpg_cycle_safety.specs.Holding.{Holds}
use Rattle.rpg_cycle_safety.specs.Measuring.{StandsNear}
use Rattle.rpg_machine_lines.specs.Outputs.{detail_effect, overflow_detail_effect, overflow_effect, passage_effect}
use Rattle.rpg_machine_lines.specs.Passages.{may_count}
use Rattle.rpg_machine.specs.Outputs.{output_effect, output_weight}
use Rattle.rpg_machine.specs.Step.{effect}
use Rattle.rpg_machine.specs.declared.time.OutputTime.{OutputTime}
use Rattle.rpg_machine.specs.declared.time.OutputTime.TheVariants as times
use Rattle.rpg_program.specs.ObjectInstructions.{weight}
use Rattle.rpg_program.specs.Kept.{IsProgram}
use Rattle.rpg_program.specs.Object.{Object, lines_of}
use Rattle.rpg_paper.specs.Paper.{Position, last_position_from}
use Rattle.rpg_verify_rules.specs.Sound.{IsSound}

-- ---- the lines of a passage are those of its time

at_detail : (time : Time) → is_at_detail time ≡ false → may_count time passes.Detail ≡ false
at_detail spoken.Heading h = cc
at_detail spoken.Detail h = cc
at_detail spoken.Total h = refl
at_detail spoken.Exception h = refl

at_overflow_detail : (time : Time) → is_at_detail time ≡ false → may_count time passes.OverflowDetail ≡ false
at_overflow_detail spoken.Heading h = cc
at_overflow_detail spoken.Detail h = cc
at_overflow_detail spoken.Total h = refl
at_overflow_detail spoken.Exception h = refl

at_total : (time : Time) → is_at_total time ≡ false → may_count time passes.Total ≡ false
at_total spoken.Heading h = refl
at_total spoken.Detail h = refl
at_total spoken.Total h = cc
at_total spoken.Exception h = refl

at_overflow_total : (time : Time) → is_at_total time ≡ false → may_count time passes.OverflowTotal ≡ false
at_overflow_total spoken.Heading h = refl
at_overflow_total spoken.Detail h = refl
at_overflow_total spoken.Total h = cc
at_overflow_total spoken.Exception h = refl

at_exception : (time : Time) → is_exception time ≡ false → may_count time passes.Exception ≡ false
at_exception spoken.Heading h = refl
at_exception spoken.Detail h = refl
at_exception spoken.Total h = refl
at_exception spoken.Exception h = cc

-- T lines, and H and D lines, are those of a full page
page_by : (time : Time) (w d t o : ℕ) → t + d ≡ o → (cond (is_at_total time) w 0 + t) + (cond (is_at_detail time) w 0 + d) ≡ cond (is_in_cycle time) w 0 + o
page_by spoken.Heading w d t o h = omega arith
page_by spoken.Detail w d t o h = omega arith
page_by spoken.Total w d t o h = omega arith
page_by spoken.Exception w d t o h = omega arith

page_weight : (ls : List (Line ℕ)) → lines_weight is_at_total ls + lines_weight is_at_detail ls ≡ lines_weight is_in_cycle ls
page_weight [] = refl
page_weight (l ∷ ls) = page_by l.time (line_weight l) (lines_weight is_at_detail ls) (lines_weight is_at_total ls) (lines_weight is_in_cycle ls) (page_weight ls)

module _ (p : Object) (kept : IsProgram p) (sound : IsSound p) where
  passage_few : (pass : Pass) (is_meant : Time → Bool) → ((time : Time) → is_meant time ≡ false → may_count time pass ≡ false) →
      (previous : Option Position) (w : World nat_cmp) → Holds p w.data → StandsNear previous w.paper.here → PutsFew previous (lines_weight is_meant (lines_of p)) (passage_effect p pass w)
  passage_few pass is_meant others previous w h near = lines_few p kept pass is_meant others p.lines previous w sound.lines h near

  detail_few : (previous : Option Position) (w : World nat_cmp) → Holds p w.data → StandsNear previous w.paper.here → PutsFew previous (lines_weight is_at_detail (lines_of p) + 0) (detail_effect p w)
  detail_few previous w h near =
      let lines = passage_effect p passes.Detail w in
      let one = passage_few passes.Detail is_at_detail at_detail previous w h near in
      then_few previous (lines_weight is_at_detail (lines_of p)) 0 lines (λ v. Leaves (settled p.overflow v)) one
      (leaves_few (last_position_from previous lines.lines) (settled p.overflow lines.world) one.near)

  overflow_details_few : (previous : Option Position) (w : World nat_cmp) → Holds p w.data → StandsNear previous w.paper.here →
      PutsFew previous (lines_weight is_at_detail (lines_of p) + 0) (overflow_detail_effect p w)
  overflow_details_few previous w h near =
      let lines = passage_effect p passes.OverflowDetail w in
      let one = passage_few passes.OverflowDetail is_at_detail at_overflow_detail previous w h near in
      then_few previous (lines_weight is_at_detail (lines_of p)) 0 lines (λ v. Leaves (movements_watched v)) one
      (leaves_few (last_position_from previous lines.lines) (movements_watched lines.world) one.near)

  overflow_few : (previous : Option Position) (w : World nat_cmp) → Holds p w.data → StandsNear previous w.paper.here →
      PutsFew previous (lines_weight is_at_total (lines_of p) + (lines_weight is_at_detail (lines_of p) + 0)) (overflow_effect p w)
  overflow_few previous w h near =
      let totals = passage_effect p passes.OverflowTotal w in
      let one = passage_few passes.OverflowTotal is_at_total at_overflow_total previous w h near in
      then_few previous (lines_weight is_at_total (lines_of p)) (lines_weight is_at_detail (lines_of p) + 0) totals (overflow_detail_effect p) one
      (overflow_details_few (last_position_from previous totals.lines) totals.world (passage_keeps p kept sound passes.OverflowTotal w h).holds one.near)

  -- the output of a time
  pub output_few : (time : OutputTime) (previous : Option Position) (w : World nat_cmp) → Holds p w.data → StandsNear previous w.paper.here →
      PutsFew previous (output_weight p time) (output_effect p time w)
  output_few times.Detail previous w h near =
      few_more previous (lines_weight is_at_detail (lines_of p) + 0) (lines_weight is_at_detail (lines_of p)) (detail_effect p w) (omega arith) (detail_few previous w h near)
  output_few times.Total previous w h near = passage_few passes.Total is_at_total at_total previous w h near
  output_few times.Overflow previous w h near =
      let page = page_weight (lines_of p) in
      few_more previous (lines_weight is_at_total (lines_of p) + (lines_weight is_at_detail (lines_of p) + 0)) (lines_weight is_in_cycle (lines_of p)) (overflow_effect p w)
      (omega (arith, page)) (overflow_few previous w h near)

  -- an instruction of the program
  pub instruction_few : (i : Instruction ℕ) (previous : Option Position) (w : World nat_cmp) → Holds p w.data → StandsNear previous w.paper.here →
      PutsFew previous (weight p i) (effect p i w)
  unfolding instruction_effect instruction_weight
  instruction_few (Act a) previous w h near =
      few_more previous 0 (weight p (Act a)) (effect p (Act a) w) (omega arith) (data_few previous (operate (form_at p.fields) a) w near)
  instruction_few Except previous w h near =
      few_more previous (lines_weight is_exception (lines_of p)) (weight p Except) (effect p Except w) (omega arith) (passage_few passes.Exception is_exception at_exception previous w h near)
  instruction_few (Branch is_taken_where cs target) previous w h near =
      few_more previous 0 (weight p (Branch is_taken_where cs target)) (Leaves w) (omega arith) (leaves_few previous w near)
  instruction_few (Call n) previous w h near = few_more previous 0 (weight p (Call n)) (Leaves w) (omega arith) (leaves_few previous w near)
  instruction_few (Return n) previous w h near = few_more previous 0 (weight p (Return n)) (Leaves w) (omega arith) (leaves_few previous w near)
