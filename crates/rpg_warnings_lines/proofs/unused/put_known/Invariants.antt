use Rattle.std.proofs.Common.{◌≡◌, ◌++◌, drop}
use Rattle.std.specs.List.{filter_map}
use Rattle.rpg_warnings_lines.specs.Unused.{unused_with}
use Rattle.rpg_warnings_lines.proofs.unused.put_known.Given as goal

abbrev pub invariant-loop-mark : goal.invariant-loop-mark
invariant-loop-mark l =
    l.warnings.items ++ filter_map (unused_with l.firsts) (drop l.mark-index l.results)
    ≡ l.initial.warnings.items ++ filter_map (unused_with l.firsts) l.results
