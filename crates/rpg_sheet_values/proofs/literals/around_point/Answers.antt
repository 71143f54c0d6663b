use Rattle.std.proofs.Common.{sym, ◌+◌, arith, refl, length-drop}
use Rattle.std.proofs.lemmas.List.{take_all}
use Rattle.std.specs.Prelude.{drop}
use Rattle.rpg_sheet_specs.specs.Values.{is_point}
use Rattle.rpg_sheet_values.proofs.LiteralLemmas.{first_place, before_none, after_none}
use Rattle.rpg_sheet_values.proofs.literals.around_point.Goals as goal

pub returns-in-Some-clause-before : goal.returns-in-Some-clause-before
returns-in-Some-clause-before c = rw (first_place is_point c.args.text.now c.in-Some.point (sym c.in-Some.ensures.place)) refl

pub returns-in-Some-clause-following : goal.returns-in-Some-clause-following
returns-in-Some-clause-following c =
    rw (first_place is_point c.args.text.now c.in-Some.point (sym c.in-Some.ensures.place))
    (take_all _ (drop (c.in-Some.point + 1) c.args.text.now) (omega (arith, length-drop (c.in-Some.point + 1) c.args.text.now)))

pub returns-in-None-clause-before : goal.returns-in-None-clause-before
returns-in-None-clause-before c = sym (before_none is_point c.args.text.now (sym c.in-None.ensures.place))

pub returns-in-None-clause-following : goal.returns-in-None-clause-following
returns-in-None-clause-following c = sym (after_none is_point c.args.text.now (sym c.in-None.ensures.place))
