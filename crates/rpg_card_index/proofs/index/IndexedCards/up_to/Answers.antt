use Rattle.std.proofs.Common.{◌+◌, ◌∷◌, ◌∙◌, length, take, ap}
use Rattle.std.proofs.Math.Seq.{take-append-add}
use Rattle.rpg_card_index.proofs.index.IndexedCards.up_to.Goals as goal

pub returns : goal.returns
returns c =
    let before = c.args.before.now in
    ap (take (length before + 1)) (c.self.view_is ∙ c.requires) ∙ take-append-add before (c.args.card.now ∷ c.args.after.now) 1
