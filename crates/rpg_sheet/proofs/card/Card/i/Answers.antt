use Rattle.rpg_sheet.proofs.Laws.{read_by}
use Rattle.rpg_sheet.proofs.CardLaws.{input_card_law}
use Rattle.rpg_sheet.proofs.card.Card.i.Goals as goal

pub returns : goal.returns
returns c = read_by input_card_law c.args.self.now _ c.input_card.ensures
