use Rattle.std.proofs.Common.{◌≡◌, drop}
use Rattle.rpg_refusal_causes.specs.First.{first_cause}
use Rattle.rpg_refusal_causes.specs.TypeCauses.{code_cause}
use Rattle.rpg_refusal_causes.proofs.types.code_cause.Given as goal

abbrev pub invariant-loop-at : goal.invariant-loop-at
invariant-loop-at l = first_cause (code_cause l.length) l.at (drop l.at l.codes) ≡ first_cause (code_cause l.length) 0 l.codes
