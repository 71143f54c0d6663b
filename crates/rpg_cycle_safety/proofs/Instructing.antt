-- Outputs and instructions of an accepted program keep what holds of a world.
use Rattle.std.proofs.Common.{ℕ, refl, nat_cmp}
use Rattle.rpg_program.specs.Effect.{Leaves}
use Rattle.rpg_program.specs.Forms.{form_at}
use Rattle.rpg_program.specs.Instructions.{instruction_effect}
use Rattle.rpg_program.specs.Lines.{movements_watched, settled}
use Rattle.rpg_program.specs.Operate.{operate}
use Rattle.rpg_program.specs.World.{World}
use Rattle.rpg_program.specs.declared.line.Pass.{Pass}
use Rattle.rpg_program.specs.declared.line.Pass.TheVariants as passes
use Rattle.rpg_program.specs.declared.operation.Instruction.{Instruction}
use Rattle.rpg_program.specs.declared.operation.Instruction.TheVariants.{Act, Except, Branch, Call, Return}
use Rattle.rpg_cycle_safety.proofs.Acting.{operate_keeps}
use Rattle.rpg_cycle_safety.proofs.Printing.{lines_keep}
use Rattle.rpg_cycle_safety.proofs.Writing.{leaves, on_data_keeps, same_fields, then_keeps}
use Rattle.rpg_cycle_safety.specs.Holding.{Holds, Keeps}
use Rattle.rpg_machine_lines.specs.Outputs.{detail_effect, overflow_detail_effect, overflow_effect, passage_effect}
use Rattle.rpg_machine.specs.Outputs.{output_effect}
use Rattle.rpg_machine.specs.Step.{effect}
use Rattle.rpg_machine.specs.declared.time.OutputTime.{OutputTime}
use Rattle.rpg_machine.specs.declared.time.OutputTime.TheVariants as times
use Rattle.rpg_program.specs.Kept.{IsProgram}
use Rattle.rpg_program.specs.Object.{Object}
use Rattle.rpg_program.specs.declared.section.Place.{Place}
use Rattle.rpg_verify_rules.specs.Sound.{IsAt, IsSound}

module _ (p : Object) (kept : IsProgram p) (sound : IsSound p) where
  -- the lines of a passage
  pub passage_keeps : (pass : Pass) (w : World nat_cmp) → Holds p w.data → Keeps p (passage_effect p pass w)
  passage_keeps pass w h = lines_keep p kept pass p.lines w sound.lines h

  detail_keeps : (w : World nat_cmp) → Holds p w.data → Keeps p (detail_effect p w)
  detail_keeps w h =
      then_keeps p (passage_effect p passes.Detail w) (λ v. Leaves (settled p.overflow v)) (passage_keeps passes.Detail w h)
      (λ v k. leaves p _ (same_fields p v.data (settled p.overflow v).data k refl))

  overflow_details_keep : (w : World nat_cmp) → Holds p w.data → Keeps p (overflow_detail_effect p w)
  overflow_details_keep w h =
      then_keeps p (passage_effect p passes.OverflowDetail w) (λ v. Leaves (movements_watched v)) (passage_keeps passes.OverflowDetail w h) (λ v k. leaves p _ (same_fields p v.data (movements_watched v).data k refl))

  overflow_keeps : (w : World nat_cmp) → Holds p w.data → Keeps p (overflow_effect p w)
  overflow_keeps w h = then_keeps p (passage_effect p passes.OverflowTotal w) (overflow_detail_effect p) (passage_keeps passes.OverflowTotal w h) overflow_details_keep

  -- the output of a time
  pub output_keeps : (time : OutputTime) (w : World nat_cmp) → Holds p w.data → Keeps p (output_effect p time w)
  output_keeps times.Detail w h = detail_keeps w h
  output_keeps times.Total w h = passage_keeps passes.Total w h
  output_keeps times.Overflow w h = overflow_keeps w h

  -- an instruction of the program
  pub instruction_keeps : (x : Place) (i : Instruction ℕ) (w : World nat_cmp) → IsAt p x i → Holds p w.data → Keeps p (effect p i w)
  unfolding instruction_effect
  instruction_keeps x (Act a) w at h = on_data_keeps p (operate (form_at p.fields) a) w (operate_keeps p a w.data kept (sound.each x (Act a) at).operands h)
  instruction_keeps x Except w at h = passage_keeps passes.Exception w h
  instruction_keeps x (Branch is_taken_where cs target) w at h = leaves p w h
  instruction_keeps x (Call n) w at h = leaves p w h
  instruction_keeps x (Return n) w at h = leaves p w h
