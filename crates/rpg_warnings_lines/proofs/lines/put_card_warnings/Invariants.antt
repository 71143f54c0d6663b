use Rattle.std.proofs.Common.{◌≡◌, ◌++◌, length}
use Rattle.rpg_warnings_lines.specs.LineWarnings.{card_warnings}
use Rattle.rpg_warnings_lines.proofs.lines.put_card_warnings.Given as goal

abbrev pub invariant-loop-card : goal.invariant-loop-card
invariant-loop-card l = l.warnings.items ++ card_warnings l.cards l.rest ≡ l.initial.warnings.items ++ card_warnings l.cards l.cards

abbrev pub decreases-loop-card : goal.decreases-loop-card
decreases-loop-card l = length l.rest
