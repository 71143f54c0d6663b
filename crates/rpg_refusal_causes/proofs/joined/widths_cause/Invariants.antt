use Rattle.std.proofs.Common.{◌≡◌, ◌+◌, drop}
use Rattle.rpg_refusal_causes.specs.TypeCauses.{widths_cause}
use Rattle.rpg_refusal_causes.proofs.joined.widths_cause.Given as goal

abbrev pub invariant-loop-first : goal.invariant-loop-first
invariant-loop-first l = record {
  so_far : widths_cause l.level (drop l.first-index l.widths) l.fields ≡ widths_cause 1 l.widths l.fields;
  counted : l.level ≡ l.first-index + 1;
}
