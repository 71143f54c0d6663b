use Rattle.std.proofs.Common.{◌≡◌, drop}
use Rattle.std.specs.List.{list_any}
use Rattle.rpg_cli_warnings.specs.Indicators.{card_has_level}
use Rattle.rpg_cli_warnings.proofs.levels.any_has_level.Given as goal

abbrev pub invariant-loop-card : goal.invariant-loop-card
invariant-loop-card l = list_any (card_has_level l.indicator) (drop l.card-index l.cards) ≡ list_any (card_has_level l.indicator) l.cards
