use Rattle.std.proofs.Common.{length, refl}
use Rattle.rpg_edit.proofs.Fills.{ends_filled}
use Rattle.rpg_edit.proofs.pass.fill_ends.Goals as goal

pub returns : goal.returns
returns c =
    let text = c.args.text.now in
    ends_filled (length text) c.args.count c.args.character text _ _ refl c.requires.within c.requires.enough c.fill_all.ensures c.fill_all-2.ensures
