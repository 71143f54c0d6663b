use Rattle.std.proofs.Common.{◌≡◌, drop}
use Rattle.rpg_refusal_causes.specs.First.{first_cause}
use Rattle.rpg_refusal_causes.specs.TypeCauses.{match_cause}
use Rattle.rpg_refusal_causes.proofs.types.match_cause.Given as goal

abbrev pub invariant-loop-at : goal.invariant-loop-at
invariant-loop-at l = first_cause (match_cause l.length l.fields) l.at (drop l.at l.fields) ≡ first_cause (match_cause l.length l.fields) 0 l.fields
