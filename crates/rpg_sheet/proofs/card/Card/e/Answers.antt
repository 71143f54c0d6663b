use Rattle.rpg_sheet.proofs.Laws.{read_by}
use Rattle.rpg_sheet.proofs.CardLaws.{extension_law}
use Rattle.rpg_sheet.proofs.card.Card.e.Goals as goal

pub returns : goal.returns
returns c = read_by extension_law c.args.self.now _ c.extension.ensures
