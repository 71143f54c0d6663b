use Rattle.rpg_sheet.proofs.Laws.{read_by}
use Rattle.rpg_sheet.proofs.CardLaws.{header_law}
use Rattle.rpg_sheet.proofs.card.Card.h.Goals as goal

pub returns : goal.returns
returns c = read_by header_law c.args.self.now _ c.header.ensures
