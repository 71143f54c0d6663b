use Rattle.std.proofs.Common.{None}
use Rattle.rpg_paper.proofs.Papers.{bytes_from-append}
use Rattle.rpg_paper.proofs.laws.lines_follow_lines.Goals as goal

pub returns : goal.returns
returns c = bytes_from-append None
