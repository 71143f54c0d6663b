-- Each step of an accepted program continues at a steady configuration, or halts.
use Rattle.std.proofs.Common.{◌≡◌, ℕ, Bool, true, false, ◌&&◌, cond, eqb, Option, None, Some, refl, sym, subst, arith, le_trans}
use Rattle.std.specs.Ordering.{nat_cmp}
use Rattle.rpg_program.specs.Effect.{Effect}
use Rattle.rpg_program.specs.Ends.{End, Continues, Halt, Wrong}
use Rattle.rpg_program.specs.declared.operation.Instruction.{Instruction}
use Rattle.rpg_program.specs.ObjectInstructions.{weight}
use Rattle.rpg_cycle_safety.proofs.Instructing.{instruction_keeps}
use Rattle.rpg_cycle_safety.specs.Holding.{Holds, IsEffectEnd, Keeps}
use Rattle.rpg_cycle_safety.specs.Leading.{IsSteady, StepsWell, StaysInBound}
use Rattle.rpg_machine.proofs.Bounds.{safe_and_bounded}
use Rattle.rpg_machine.proofs.Ranges.{never_none, place_first}
use Rattle.rpg_machine.proofs.Safe.{never_wrong, safe_after}
use Rattle.rpg_machine.proofs.Steps.{no_fault, output_of, step_right}
use Rattle.rpg_machine.specs.Accepted.{IsOrderly}
use Rattle.rpg_machine.specs.Chain.{IsSafe}
use Rattle.rpg_machine.specs.Config.{Config, Output, charged, here, no_output}
use Rattle.rpg_machine.specs.Control.{spends}
use Rattle.rpg_machine.specs.Run.{is_end}
use Rattle.rpg_machine.specs.Step.{Outcome, Next, Stop, arrived, control_in, destination, effect, outcome_of, step, went}
use Rattle.rpg_program.specs.Object.{Object}
use Rattle.rpg_program.specs.Sections.{instruction_at}
use Rattle.rpg_verify.specs.Bound.{cost, most}

module _ (p : Object) (orderly : IsOrderly p) (c : Config) (steady : IsSteady p c) where
  -- as an effect ends
  as_ended : (ending : End) (m a : Config) (e : Effect nat_cmp) → IsSafe p m → IsEffectEnd ending → Holds p e.world.data →
      step p c ≡ outcome_of ending m a e.world (output_of e) → StepsWell p (outcome_of ending m a e.world (output_of e))
  as_ended Continues m a e safe right h is = record { values = h; control = safe_after p c (record a { world = e.world }) (output_of e) orderly steady.control is }
  as_ended (Halt k) m a e safe right h is = ((right.0, le_trans right.1 (omega arith), right.2), record { values = h; control = record { place = safe.place; cells = safe.cells; chain = safe.chain } })
  as_ended (Wrong f) m a e safe right h is = absurd right

  as_spent : (b : Bool) (m a : Config) (e : Effect nat_cmp) → IsSafe p m → m.world ≡ c.world → Keeps p e →
      step p c ≡ cond b (Stop (Halt 5) m no_output) (went m a e) → StepsWell p (cond b (Stop (Halt 5) m no_output) (went m a e))
  as_spent true m a e safe same k is = ((omega arith, omega arith, λ is. omega (arith, is)), record { values = subst (λ w. Holds p w.data) (sym same) steady.values; control = safe })
  as_spent false m a e safe same k is = as_ended e.ending m a e safe k.ending k.holds is

  by_instruction : (o : Option (Instruction ℕ)) → instruction_at p (here c) ≡ o → is_end p c ≡ false → StepsWell p (step p c)
  by_instruction None at more = absurd (never_none p c steady.control.place more at)
  by_instruction (Some i) at more =
      let m = charged (weight p i) c in
      let k = control_in c i in
      let a = arrived m k (destination p c k) in
      let is = step_right p c i at (no_fault p m i k (never_wrong p c i orderly steady.control at)) in
      let keeps = instruction_keeps p orderly.program orderly.sound (here c) i c.world (place_first p (here c) steady.control.place, at) steady.values in
      subst (λ (x : Outcome). StepsWell p x) (sym is) (as_spent (spends k && eqb c.allowance 0) m a (effect p i c.world) (record { place = steady.control.place; cells = steady.control.cells; chain = steady.control.chain }) refl keeps is)

  pub leads_well : is_end p c ≡ false → StepsWell p (step p c)
  leads_well more = by_instruction (instruction_at p (here c)) refl more

-- the sum of the steps and of all that may still come doesn't grow
pub stays_in_bound : (p : Object) → IsOrderly p → (c d : Config) (o : Output) (before : IsSafe p c) → step p c ≡ Next d o → StaysInBound p c d before
stays_in_bound p orderly c d o before is =
    let both = safe_and_bounded p c d o orderly before is in
    record { control = both.0; bound = both.1 (cost p) (most p) orderly.costs }
