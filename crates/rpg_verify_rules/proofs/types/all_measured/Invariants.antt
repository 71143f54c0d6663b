use Rattle.std.proofs.Common.{◌≡◌, ◌+◌, drop}
use Rattle.rpg_verify_rules.specs.TypeRules.{all_measured}
use Rattle.rpg_verify_rules.proofs.types.all_measured.Given as goal

abbrev pub invariant-loop-measure : goal.invariant-loop-measure
invariant-loop-measure l = record {
  so_far : all_measured l.level (drop l.measure-index l.measures) l.fields ≡ all_measured 1 l.measures l.fields;
  counted : l.level ≡ l.measure-index + 1;
}
