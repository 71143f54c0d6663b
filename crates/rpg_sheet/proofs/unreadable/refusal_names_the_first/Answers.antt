use Rattle.std.proofs.Common.{[], lit≤}
use Rattle.rpg_sheet.specs.Sheet.{source}
use Rattle.rpg_sheet.proofs.UnreadableLemmas.{first_is}
use Rattle.rpg_sheet.proofs.unreadable.refusal_names_the_first.Goals as goal

pub returns : goal.returns
returns c = first_is [] (source c.args.text.now) (lit≤ tt)
