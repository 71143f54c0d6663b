use Rattle.std.proofs.Common.{◌≡◌, ◌+◌, drop}
use Rattle.rpg_refusal_causes.specs.TypeCauses.{levels_cause}
use Rattle.rpg_refusal_causes.proofs.joined.levels_cause.Given as goal

abbrev pub invariant-loop-measure : goal.invariant-loop-measure
invariant-loop-measure l = record {
  so_far : levels_cause l.level (drop l.measure-index l.measures) l.fields ≡ levels_cause 1 l.measures l.fields;
  counted : l.level ≡ l.measure-index + 1;
}
