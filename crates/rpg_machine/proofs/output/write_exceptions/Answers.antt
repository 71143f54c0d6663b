use Rattle.std.proofs.Common.{ℕ, List, sym, subst}
use Rattle.rpg_program.specs.Instructions.{instruction_effect}
use Rattle.rpg_machine_lines.specs.Right.{HasLineRoom}
use Rattle.rpg_machine.proofs.output.write_exceptions.Goals as goal

pub returns-clause-done : goal.returns-clause-done
unfolding instruction_effect
returns-clause-done g c = c.put_exceptions.ensures.done

pub put_exceptions-requires-clause-room : goal.put_exceptions-requires-clause-room
put_exceptions-requires-clause-room g c = subst (λ (x : List ℕ). HasLineRoom c.args.memory.now.program x) (sym c.deref_mut.ensures.value) c.requires.can.room
