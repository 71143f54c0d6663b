-- What the machine of an accepted program does: nothing is wrong, and control is where the rules let it go.
use Rattle.std.proofs.Common.{◌≡◌, ◌≢◌, ◌<◌, ℕ, false, ◌&&◌, cond, eqb, Some, None, subst, ap, ◌∙◌}
use Rattle.rpg_program.specs.Ends.{Fault, Halt, Wrong}
use Rattle.rpg_program.specs.declared.operation.Instruction.{Instruction}
use Rattle.rpg_program.specs.declared.operation.Instruction.TheVariants.{Call, Return}
use Rattle.rpg_machine.proofs.NeverWrong.{no_step_wrong}
use Rattle.rpg_machine.proofs.Orderly.{orderly}
use Rattle.rpg_machine.proofs.Ranges.{more_there, place_first}
use Rattle.rpg_machine.proofs.Safe.{never_wrong}
use Rattle.rpg_machine.proofs.Steps.{made, no_fault, step_right}
use Rattle.rpg_machine.specs.Accepted.{IsOrderly}
use Rattle.rpg_machine.specs.Config.{Config, Output, charged, here, no_output}
use Rattle.rpg_machine.specs.Control.{control, spends}
use Rattle.rpg_machine.specs.Laws.{IsRightOutcome}
use Rattle.rpg_machine.specs.Step.{Next, Stop, arrived, control_in, destination, effect, fault, outcome_of, step, went}
use Rattle.rpg_program.specs.ObjectInstructions.{weight}
use Rattle.rpg_meaning.specs.Calculations.Agreement.{IsRunnable}
use Rattle.rpg_memory.proofs.Programs.{program_forms}
use Rattle.rpg_program.specs.Kept.{IsProgram}
use Rattle.rpg_program.specs.Object.{Object}
use Rattle.rpg_program.specs.Sections.{instruction_at, level_of}
use Rattle.rpg_program.specs.declared.section.Section.TheVariants as sections
use Rattle.rpg_verify_rules.proofs.Soundness.{sound}
use Rattle.rpg_verify_rules.specs.Accepted.{IsAccepted}
use Rattle.rpg_verify.proofs.Most.{greatest}

pub orderly_of : (p : Object) → IsProgram p → IsAccepted p → IsOrderly p
orderly_of p program accepted = orderly p program (sound p accepted) (greatest p program) (program_forms p program)

module _ (p : Object) (orderly : IsOrderly p) where
  pub right : (c : Config) (i : Instruction ℕ) → IsRunnable p c → instruction_at p (here c) ≡ Some i → fault p (charged (weight p i) c) i (control_in c i) ≡ None
  right c i fit at = no_fault p (charged (weight p i) c) i (control_in c i) (never_wrong p c i orderly fit.0 at)

  right_outcome : (c : Config) (i : Instruction ℕ) → IsRunnable p c → instruction_at p (here c) ≡ Some i → IsRightOutcome p (step p c)
  right_outcome c i fit at = no_step_wrong p orderly c fit.0 fit.1 (more_there p c i fit.0.place at)

  pub fit_after : (c d : Config) (o : Output) → IsRunnable p c → step p c ≡ Next d o → IsRunnable p d
  fit_after c d o fit is = subst (IsRightOutcome p) is (right_outcome c (made p c d o is).instruction fit (made p c d o is).at)

  -- an instruction that spends nothing does nothing wrong
  pub never_ends : (c : Config) (i : Instruction ℕ) (f : Fault) → IsRunnable p c → instruction_at p (here c) ≡ Some i → spends (control_in c i) ≡ false → (effect p i c.world).ending ≢ Wrong f
  never_ends c i f fit at free is =
      let d = charged (weight p i) c in
      let k = control_in c i in
      let e = effect p i c.world in
      let o : Output = record { lines = e.lines; records = e.records } in
      let stepped = step_right p c i at (right c i fit at) ∙ ap (λ b. cond (b && eqb c.allowance 0) (Stop (Halt 5) d no_output) (went d (arrived d k (destination p c k)) e)) free
      ∙ ap (λ x. outcome_of x d (arrived d k (destination p c k)) e.world o) is in
      subst (IsRightOutcome p) stepped (right_outcome c i fit at)

  pub calls_up : (c : Config) (n : ℕ) → IsRunnable p c → instruction_at p (here c) ≡ Some (Call n) → level_of p c.section < level_of p (sections.Subroutine n)
  unfolding control
  calls_up c n fit at = (orderly.leads (here c) (Call n) (place_first p (here c) fit.0.place, at) c.world.data.on).1

  pub returns_own : (c : Config) (n : ℕ) → IsRunnable p c → instruction_at p (here c) ≡ Some (Return n) → c.section ≡ sections.Subroutine n
  unfolding control
  returns_own c n fit at = (orderly.leads (here c) (Return n) (place_first p (here c) fit.0.place, at) c.world.data.on).1
