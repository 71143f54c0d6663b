use Rattle.std.proofs.Common.{sym, ◌∙◌}
use Rattle.rpg_program.specs.Object.{seen}
use Rattle.rpg_refusal_causes.proofs.Exact.{cause_is, never_none}
use Rattle.rpg_refusal_causes.proofs.refusals.refusal_by.Goals as goal

pub returns-in-Some : goal.returns-in-Some
returns-in-Some c =
    let p = seen c.args.rows.now in
    let b = c.args.broken in
    record { least = c.requires.broken; what = cause_is p b.rule b.row c.requires.broken.is ∙ sym c.in-Some.ensures }

pub returns-in-None : goal.returns-in-None
returns-in-None c =
    let p = seen c.args.rows.now in
    let b = c.args.broken in
    never_none p b.rule b.row c.requires.broken.is (sym c.in-None.is ∙ c.cause_in.ensures)
