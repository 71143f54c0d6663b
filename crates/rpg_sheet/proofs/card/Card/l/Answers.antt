use Rattle.rpg_sheet.proofs.Laws.{read_by}
use Rattle.rpg_sheet.proofs.CardLaws.{form_card_law}
use Rattle.rpg_sheet.proofs.card.Card.l.Goals as goal

pub returns : goal.returns
returns c = read_by form_card_law c.args.self.now _ c.form_card.ensures
