use Rattle.std.proofs.Common.{◌∙◌, ap, subst}
use Rattle.rpg_program.specs.Object.{Object}
use Rattle.rpg_verify.specs.Bound.{bound, costs}
use Rattle.rpg_verify_rules.specs.Accepted.{IsAccepted}
use Rattle.rpg_verify.proofs.verified.verify.Goals as goal

pub invariant_of-result : goal.invariant_of-result
invariant_of-result c = record {
  program = c.rows.ensures.kept;
  accepted = subst (λ (p : Object). IsAccepted p) c.rows.ensures.same c.in_default.ensures;
  costs = c.in-Ok.ensures.costs ∙ ap costs c.rows-2.ensures.same;
  bound = c.in-Ok.ensures.bound ∙ ap bound c.rows-2.ensures.same;
}
