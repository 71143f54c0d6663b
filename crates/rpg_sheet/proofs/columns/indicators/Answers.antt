use Rattle.std.proofs.Common.{Ok, ap, ◌∙◌, sym}
use Rattle.rpg_sheet.proofs.Blanks.{no_indicators}
use Rattle.rpg_sheet.proofs.columns.indicators.Goals as goal

pub returns-then-has_only_blanks : goal.returns-then-has_only_blanks
returns-then-has_only_blanks c = ap Ok c.none.ensures ∙ no_indicators c.args.columns.first c.args.card.now c.args.columns.counted (rw c.columns.ensures.value at (sym c.has_only_blanks.ensures ∙ c.if-has_only_blanks.true))
