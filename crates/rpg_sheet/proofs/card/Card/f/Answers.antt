use Rattle.rpg_sheet.proofs.Laws.{read_by}
use Rattle.rpg_sheet.proofs.CardLaws.{file_law}
use Rattle.rpg_sheet.proofs.card.Card.f.Goals as goal

pub returns : goal.returns
returns c = read_by file_law c.args.self.now _ c.file.ensures
