use Rattle.std.proofs.Common.{length}
use Rattle.rpg_cli_warnings.proofs.messages.after_lines.Given as goal

abbrev pub decreases-loop-block : goal.decreases-loop-block
decreases-loop-block l = length l.rest
