use Rattle.rpg_paper.proofs.Papers.{form_bytes_are}
use Rattle.rpg_paper.proofs.laws.counted_pages_give_positions.Goals as goal

pub returns : goal.returns
returns c = form_bytes_are
