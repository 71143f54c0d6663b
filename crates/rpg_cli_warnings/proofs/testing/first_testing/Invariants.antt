use Rattle.std.proofs.Common.{◌≡◌, drop}
use Rattle.std.specs.Prelude.{find}
use Rattle.rpg_cli_warnings.specs.Indicators.{tests_indicator}
use Rattle.rpg_cli_warnings.proofs.testing.first_testing.Given as goal

abbrev pub invariant-loop-card : goal.invariant-loop-card
invariant-loop-card l = find (tests_indicator l.indicator) (drop l.card-index l.cards) ≡ find (tests_indicator l.indicator) l.cards
