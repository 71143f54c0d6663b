use Rattle.std.proofs.Common.{◌≡◌, drop}
use Rattle.rpg_refusal_causes.specs.First.{first_cause}
use Rattle.rpg_refusal_causes.specs.SubroutineCauses.{foreign_cause}
use Rattle.rpg_refusal_causes.proofs.subroutines.foreign_cause.Given as goal

abbrev pub invariant-loop-at : goal.invariant-loop-at
invariant-loop-at l = first_cause (foreign_cause l.number) l.at (drop l.at l.code) ≡ first_cause (foreign_cause l.number) 0 l.code
