use Rattle.std.proofs.Common.{◌≡◌, ◌++◌, drop}
use Rattle.std.specs.List.{filter_map}
use Rattle.rpg_cli_warnings.specs.Halts.{halt_on}
use Rattle.rpg_cli_warnings.proofs.halts.put_halts.Given as goal

abbrev pub invariant-loop-card : goal.invariant-loop-card
invariant-loop-card l =
    l.warnings.items ++ filter_map halt_on (drop l.card-index l.cards)
    ≡ l.initial.warnings.items ++ filter_map halt_on l.cards
