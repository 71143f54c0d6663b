use Rattle.std.proofs.Common.{sym}
use Rattle.rpg_fit_terms.proofs.Operands.{index_after, index_missing, name_before, name_whole}
use Rattle.rpg_fit_terms.proofs.operand.Operand.of.Goals as goal

pub returns-in-Some-clause-name : goal.returns-in-Some-clause-name
returns-in-Some-clause-name c = name_before c.args.text.now c.in-Some.end (sym c.in-Some.ensures.place)

pub returns-in-Some-clause-index : goal.returns-in-Some-clause-index
returns-in-Some-clause-index c = index_after c.args.text.now c.in-Some.end (sym c.in-Some.ensures.place)

pub returns-in-None-clause-name : goal.returns-in-None-clause-name
returns-in-None-clause-name c = name_whole c.args.text.now (sym c.in-None.ensures.place)

pub returns-in-None-clause-index : goal.returns-in-None-clause-index
returns-in-None-clause-index c = index_missing c.args.text.now (sym c.in-None.ensures.place)
