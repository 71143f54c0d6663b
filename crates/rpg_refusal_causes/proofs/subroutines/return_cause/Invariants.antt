use Rattle.std.proofs.Common.{◌≡◌, ◌+◌, drop}
use Rattle.rpg_refusal_causes.specs.First.{first_cause}
use Rattle.rpg_refusal_causes.specs.SubroutineCauses.{return_cause}
use Rattle.rpg_refusal_causes.proofs.subroutines.return_cause.Given as goal

abbrev pub invariant-loop-instruction : goal.invariant-loop-instruction
invariant-loop-instruction l = record {
  so_far : first_cause return_cause l.place (drop l.instruction-index l.code) ≡ first_cause return_cause l.first l.code;
  counted : l.place ≡ l.first + l.instruction-index;
}
