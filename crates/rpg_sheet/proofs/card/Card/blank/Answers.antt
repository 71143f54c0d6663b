use Rattle.std.proofs.Common.{◌∙◌, sym}
use Rattle.rpg_sheet.proofs.Blanks.{no_fault}
use Rattle.rpg_sheet.proofs.card.Card.blank.Goals as goal

pub returns-then-has_only_blanks : goal.returns-then-has_only_blanks
returns-then-has_only_blanks g c =
    rw (sym c.columns-text.ensures.value) (sym (no_fault c.args.columns.first c.columns-text.result.now (sym c.has_only_blanks.ensures ∙ c.if-has_only_blanks.true)))
