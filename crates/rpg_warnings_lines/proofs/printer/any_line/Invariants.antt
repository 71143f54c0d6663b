use Rattle.std.proofs.Common.{◌≡◌, false, length}
use Rattle.rpg_warnings_lines.specs.Printer.{any_line}
use Rattle.rpg_warnings_lines.proofs.printer.any_line.Given as goal

abbrev pub invariant-loop-card : goal.invariant-loop-card
invariant-loop-card l = any_line l.test l.file l.is_here l.rest ≡ any_line l.test l.file false l.cards

abbrev pub decreases-loop-card : goal.decreases-loop-card
decreases-loop-card l = length l.rest
