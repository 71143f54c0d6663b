use Rattle.std.proofs.Common.{◌≡◌, drop}
use Rattle.rpg_refusal_causes.specs.First.{first_cause}
use Rattle.rpg_refusal_causes.specs.TypeCauses.{control_cause}
use Rattle.rpg_refusal_causes.proofs.types.control_cause.Given as goal

abbrev pub invariant-loop-at : goal.invariant-loop-at
invariant-loop-at l = first_cause (control_cause l.length) l.at (drop l.at l.fields) ≡ first_cause (control_cause l.length) 0 l.fields
