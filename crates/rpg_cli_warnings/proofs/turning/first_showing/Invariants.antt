use Rattle.std.proofs.Common.{◌≡◌, drop}
use Rattle.std.specs.Prelude.{find}
use Rattle.rpg_cli_warnings.specs.Indicators.{shows}
use Rattle.rpg_cli_warnings.proofs.turning.first_showing.Given as goal

abbrev pub invariant-loop-card : goal.invariant-loop-card
invariant-loop-card l = find (shows l.indicator) (drop l.card-index l.cards) ≡ find (shows l.indicator) l.cards
