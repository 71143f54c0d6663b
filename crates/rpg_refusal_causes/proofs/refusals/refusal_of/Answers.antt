use Rattle.rpg_program.specs.Object.{seen}
use Rattle.rpg_refusal_causes.proofs.Exact.{found}
use Rattle.rpg_refusal_causes.specs.Causes.{IsRefusalOf}
use Rattle.rpg_verify_rules.specs.Accepted.{IsAccepted}
use Rattle.rpg_refusal_causes.proofs.refusals.refusal_of.Goals as goal

pub returns-in-Some : goal.returns-in-Some
returns-in-Some c =
    let p = seen c.args.rows.now in
    found c.refusal_by.result (IsAccepted p) (λ r. IsRefusalOf p r) c.refusal_by.ensures
