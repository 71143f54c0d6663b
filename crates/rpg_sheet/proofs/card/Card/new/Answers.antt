use Rattle.std.proofs.Common.{◌∙◌}
use Rattle.rpg_sheet.proofs.Padding.{card_length, card_characters}
use Rattle.rpg_sheet.proofs.card.Card.new.Goals as goal

pub invariant_of-result : goal.invariant_of-result
invariant_of-result c =
    rw c.columns_of-characters.ensures (card_length c.args.line.now c.requires.fits, card_characters c.args.line.now c.requires.fits ∙ c.requires.characters)
