use Rattle.rpg_sheet.proofs.SheetLemmas.{seen-push}
use Rattle.rpg_sheet.proofs.source.Earlier.with.Goals as goal

pub returns : goal.returns
returns c lines line is seen = rw (c.begins_data.ensures, is) (seen-push lines c.args.self.count c.args.self.latest c.latest_with.result c.args.self.data_begun line seen (rw is at c.latest_with.ensures))
