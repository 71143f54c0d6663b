use Rattle.std.proofs.Common.{rules, ◌≡◌, sym, subst, ap, ◌∙◌}
use Rattle.rpg_program.specs.ObjectInstructions.{weight}
use Rattle.rpg_verify.proofs.Most.{greatest_at}
use Rattle.rpg_verify.proofs.Placing.{read_stored}
use Rattle.rpg_verify.specs.Bound.{costs, code_of_section}
use Rattle.rpg_verify.specs.Paths.{IsCost}
use Rattle.rpg_verify.proofs.verified.Verified.path_costs.Goals as goal

pub returns-clause-greatest : goal.returns-clause-greatest
returns-clause-greatest c = λ x first last.
    let same : c.self.inside.program ≡ c.args.self.now = search rules in
    let are = c.deref.ensures.value ∙ c.self.invariant.costs ∙ ap costs same in
    subst (IsCost (weight c.args.self.now) (code_of_section c.args.self.now x.section) x.number) (sym (read_stored c.args.self.now x _ are first last)) (greatest_at c.args.self.now x first)
