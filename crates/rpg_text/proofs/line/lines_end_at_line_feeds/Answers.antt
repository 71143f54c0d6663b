use Rattle.rpg_text.proofs.LineLemmas.{by_lines}
use Rattle.rpg_text.proofs.line.lines_end_at_line_feeds.Goals as goal

pub returns : goal.returns
returns c = by_lines
