use Rattle.std.proofs.Common.{◌≡◌, ◌++◌, drop, filter}
use Rattle.rpg_cli_warnings.specs.Warnings.{is_wanted}
use Rattle.rpg_cli_warnings.proofs.warnings.without.Given as goal

abbrev pub invariant-loop-warning : goal.invariant-loop-warning
invariant-loop-warning l =
    l.wanted.items ++ filter (is_wanted l.allowed) (drop l.warning-index l.warning-items)
    ≡ filter (is_wanted l.allowed) l.warning-items
