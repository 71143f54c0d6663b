use Rattle.std.proofs.Common.{◌≡◌, drop}
use Rattle.std.specs.List.{list_all}
use Rattle.rpg_warnings_lines.specs.Unused.{is_noted}
use Rattle.rpg_warnings_lines.proofs.unused.are_noted.Given as goal

abbrev pub invariant-loop-mark : goal.invariant-loop-mark
invariant-loop-mark l = list_all (is_noted l.read) (drop l.mark-index l.results) ≡ list_all (is_noted l.read) l.results
