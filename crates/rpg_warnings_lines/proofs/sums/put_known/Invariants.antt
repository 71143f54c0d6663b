use Rattle.std.proofs.Common.{◌≡◌, ◌++◌, drop}
use Rattle.std.specs.List.{filter_map}
use Rattle.rpg_warnings_lines.specs.Sums.{unreset_with}
use Rattle.rpg_warnings_lines.proofs.sums.put_known.Given as goal

abbrev pub invariant-loop-mark : goal.invariant-loop-mark
invariant-loop-mark l =
    l.warnings.items ++ filter_map (unreset_with l.known) (drop l.mark-index l.printed)
    ≡ l.initial.warnings.items ++ filter_map (unreset_with l.known) l.printed
