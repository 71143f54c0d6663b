use Rattle.std.proofs.Common.{subst, MatchOption}
use Rattle.rpg_refusal_causes.specs.Causes.{IsRefusalOf}
use Rattle.rpg_verify_rules.specs.Accepted.{IsAccepted}
use Rattle.rpg_refusal_causes.proofs.refusals.refusal.Goals as goal

pub returns : goal.returns
returns c = subst (λ p. MatchOption c.refusal_of.result (IsAccepted p) (λ r. IsRefusalOf p r)) c.rows.ensures.same c.refusal_of.ensures
