use Rattle.rpg_edit_widths.proofs.Places.{counted_places}
use Rattle.rpg_edit_widths.proofs.word.count_places.Goals as goal

pub returns : goal.returns
returns c = counted_places c.args.word.now c.args.stop c.count_blanks.result c.from.result c.requires.stop c.count_blanks.ensures c.from.ensures
