use Rattle.std.proofs.Common.{◌≡◌, drop}
use Rattle.std.specs.List.{list_any}
use Rattle.rpg_cli_warnings.specs.Indicators.{turns_on}
use Rattle.rpg_cli_warnings.proofs.turning.any_turns_on.Given as goal

abbrev pub invariant-loop-card : goal.invariant-loop-card
invariant-loop-card l = list_any (turns_on l.indicator) (drop l.card-index l.cards) ≡ list_any (turns_on l.indicator) l.cards
