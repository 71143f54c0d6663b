use Rattle.std.proofs.Common.{◌≡◌, drop}
use Rattle.rpg_warnings_lines.specs.Alternatives.{rest_passes}
use Rattle.rpg_warnings_lines.proofs.alternatives.rest_passes.Given as goal

abbrev pub invariant-loop-card : goal.invariant-loop-card
invariant-loop-card l = rest_passes l.test (drop l.card-index l.after) ≡ rest_passes l.test l.after
