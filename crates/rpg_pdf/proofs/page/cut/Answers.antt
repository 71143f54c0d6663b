use Rattle.std.proofs.Common.{sym}
use Rattle.rpg_pdf.proofs.TextLemmas.{cut_found, cut_last}
use Rattle.rpg_pdf.proofs.page.cut.Goals as goal

pub returns-in-Some-clause-parts : goal.returns-in-Some-clause-parts
returns-in-Some-clause-parts c = cut_found c.args.end c.args.text.now c.in-Some.place (sym c.in-Some.ensures.place)

pub returns-in-None-clause-parts : goal.returns-in-None-clause-parts
returns-in-None-clause-parts c = cut_last c.args.end c.args.text.now (sym c.in-None.ensures.place)
