use Rattle.std.proofs.Common.{◌≡◌, ◌+◌, drop}
use Rattle.rpg_verify_rules.specs.TypeRules.{are_once}
use Rattle.rpg_verify_rules.proofs.matches.are_once.Given as goal

abbrev pub invariant-loop-field : goal.invariant-loop-field
invariant-loop-field l = record {
  so_far : are_once (drop l.field-index l.fields) ≡ are_once l.fields;
  counted : l.following ≡ l.field-index + 1;
}
