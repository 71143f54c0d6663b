use Rattle.std.proofs.Common.{ap, ◌∙◌, sym}
use Rattle.rpg_program.proofs.Fronts.{grows_not}
use Rattle.rpg_program.specs.declared.line.Pass.TheVariants as passes
use Rattle.rpg_machine_lines.proofs.AllLines.{none_put}
use Rattle.rpg_machine_lines.specs.Outputs.{output_of}
use Rattle.rpg_machine_lines.specs.PassLines.{listed_at, any_may_be_due}
use Rattle.rpg_memory.specs.Memory.{held_of}
use Rattle.rpg_machine_lines.proofs.outputs.put_totals.Goals as goal

pub returns-then-not-any_may_be_due-clause-done : goal.returns-then-not-any_may_be_due-clause-done
returns-then-not-any_may_be_due-clause-done g c =
    let p = c.args.memory.now.program in
    let found = c.args.plan.now.passages in
    none_put p passes.Total found c.requires.plan.passages (held_of c.args.memory.now) (output_of c.args.output.now)
    (ap (λ s. any_may_be_due s (listed_at found passes.Total)) (sym c.on.ensures) ∙ sym c.any_may_be_due.ensures ∙ c.if-not-any_may_be_due.true)

pub returns-then-not-any_may_be_due-clause-grows : goal.returns-then-not-any_may_be_due-clause-grows
returns-then-not-any_may_be_due-clause-grows g c = grows_not (output_of c.args.output.now)
