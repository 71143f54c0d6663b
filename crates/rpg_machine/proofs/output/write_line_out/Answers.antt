use Rattle.std.proofs.Common.{◌≡◌, ℕ, List, IfOk, ap, ◌∙◌, sym, subst}
use Rattle.rpg_program.specs.Ends.{Continues, end_of}
use Rattle.rpg_program.specs.Weights.{total_weight}
use Rattle.rpg_machine_lines.proofs.Weightless.{no_totals}
use Rattle.rpg_machine_lines.specs.Outputs.{Puts, output_of}
use Rattle.rpg_machine_lines.specs.Right.{HasLineRoom}
use Rattle.rpg_machine.specs.Outputs.{output_effect, output_weight}
use Rattle.rpg_machine.specs.declared.time.OutputTime.{OutputTime}
use Rattle.rpg_machine.proofs.output.write_line_out.Goals as goal
use Rattle.rpg_program.specs.Object.{lines_of}
use Rattle.rpg_memory.specs.Memory.{held_of}

pub put_details-requires-clause-room : goal.put_details-requires-clause-room
put_details-requires-clause-room g c = subst (λ (x : List ℕ). HasLineRoom c.args.memory.now.program x) (sym c.deref_mut.ensures.value) c.requires.can.room

pub returns-in-Detail-clause-done : goal.returns-in-Detail-clause-done
returns-in-Detail-clause-done g c =
    let m = c.args.memory.now in
    subst (λ (t : OutputTime). IfOk c.put_details.result (λ e. Puts (output_effect m.program t) m c.args.writer.now.output (end_of e) c.put_details.new.memory c.put_details.new.output)) (sym c.in-Detail.is)
    c.put_details.ensures.done

pub returns-in-Total-clause-done : goal.returns-in-Total-clause-done
returns-in-Total-clause-done g c =
    let m = c.args.memory.now in
    let before = c.args.writer.now.output in
    let nothing : total_weight (lines_of m.program) ≡ 0 = ap (output_weight m.program) (sym c.in-Total.is) ∙ sym c.requires.weighed ∙ c.if-weight-eq0.true in
    subst (λ (t : OutputTime). Puts (output_effect m.program t) m before Continues m before) (sym c.in-Total.is) (no_totals m.program (held_of m) (output_of before) nothing)

pub put_totals-requires-clause-room : goal.put_totals-requires-clause-room
put_totals-requires-clause-room g c = subst (λ (x : List ℕ). HasLineRoom c.args.memory.now.program x) (sym c.deref_mut-in-Total-2.ensures.value) c.requires.can.room

pub returns-in-Total-2-clause-done : goal.returns-in-Total-2-clause-done
returns-in-Total-2-clause-done g c =
    let m = c.args.memory.now in
    subst (λ (t : OutputTime). IfOk c.put_totals.result (λ e. Puts (output_effect m.program t) m c.args.writer.now.output (end_of e) c.put_totals.new.memory c.put_totals.new.output)) (sym c.in-Total-2.is)
    c.put_totals.ensures.done

pub put_overflow-requires-clause-room : goal.put_overflow-requires-clause-room
put_overflow-requires-clause-room g c = subst (λ (x : List ℕ). HasLineRoom c.args.memory.now.program x) (sym c.deref_mut-in-Overflow.ensures.value) c.requires.can.room

pub returns-in-Overflow-clause-done : goal.returns-in-Overflow-clause-done
returns-in-Overflow-clause-done g c =
    let m = c.args.memory.now in
    subst (λ (t : OutputTime). IfOk c.put_overflow.result (λ e. Puts (output_effect m.program t) m c.args.writer.now.output (end_of e) c.put_overflow.new.memory c.put_overflow.new.output)) (sym c.in-Overflow.is)
    c.put_overflow.ensures.done
