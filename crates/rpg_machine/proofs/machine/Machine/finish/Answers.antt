use Rattle.std.proofs.Common.{[], ◌∷◌, ap, sym, ◌∙◌, subst, refl, append-nil}
use Rattle.rpg_program.proofs.Fronts.{grows_not}
use Rattle.rpg_program.specs.Fronts.{OnlyGrows}
use Rattle.rpg_program.specs.Put.{Bytes}
use Rattle.rpg_machine.specs.Running.{Running}
use Rattle.rpg_machine_lines.proofs.Growing.{grows_print}
use Rattle.rpg_machine_lines.specs.Outputs.{output_of}
use Rattle.rpg_machine.proofs.machine.Machine.finish.Goals as goal

pub returns-in_err-push-clause-grows : goal.returns-in_err-push-clause-grows
returns-in_err-push-clause-grows g c =
    let old = output_of c.self.inside.state.writer.output in
    let new : Bytes = record { print = c.push.new.self.items; disk = old.disk } in
    subst (λ (b : Bytes). OnlyGrows b new) (ap (λ (r : Running). r.output) c.self.view_is) (grows_print old new [] (c.in_err-push.ensures.items ∙ sym (append-nil old.print)) refl)

pub returns-in_ok-push-clause-grows : goal.returns-in_ok-push-clause-grows
returns-in_ok-push-clause-grows g c =
    let old = output_of c.self.inside.state.writer.output in
    let new : Bytes = record { print = c.push.new.self.items; disk = old.disk } in
    subst (λ (b : Bytes). OnlyGrows b new) (ap (λ (r : Running). r.output) c.self.view_is) (grows_print old new (10 ∷ []) c.in_ok-push.ensures.items refl)

pub returns-else-is_some-clause-grows : goal.returns-else-is_some-clause-grows
returns-else-is_some-clause-grows g c = grows_not c.args.self.now.output
