use Rattle.std.proofs.Common.{◌≡◌, length}
use Rattle.rpg_warnings_lines.specs.Alternatives.{any_or_passes}
use Rattle.rpg_warnings_lines.proofs.alternatives.any_or_passes.Given as goal

abbrev pub invariant-loop-card : goal.invariant-loop-card
invariant-loop-card l = any_or_passes l.test l.rest ≡ any_or_passes l.test l.after

abbrev pub decreases-loop-card : goal.decreases-loop-card
decreases-loop-card l = length l.rest
