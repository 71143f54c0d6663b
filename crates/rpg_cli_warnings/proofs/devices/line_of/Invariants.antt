use Rattle.std.proofs.Common.{◌≡◌, length}
use Rattle.std.specs.Str.Lines.{lines}
use Rattle.rpg_cli_warnings.specs.Devices.{line_of}
use Rattle.rpg_cli_warnings.proofs.devices.line_of.Given as goal

abbrev pub invariant-loop-rest : goal.invariant-loop-rest
invariant-loop-rest l = line_of l.left (lines l.rest) ≡ line_of l.number (lines l.text)

abbrev pub decreases-loop-rest : goal.decreases-loop-rest
decreases-loop-rest l = length l.rest
