use Rattle.std.proofs.Common.{sym, ap, ◌∙◌, not}
use Rattle.rpg_program.specs.Object.{seen}
use Rattle.rpg_verify_rules.specs.PlaceRules.{holds_found, place_breaks}
use Rattle.rpg_verify_rules.proofs.places.breaks.Goals as goal

pub returns-in-V20 : goal.returns-in-V20
unfolding place_breaks
returns-in-V20 c =
    let p = seen c.args.rows.now in
    ap not (c.holds_found.ensures ∙ ap (holds_found p) c.written_columns.ensures)
    ∙ ap (λ r. place_breaks r p c.args.span.section c.args.instruction) (sym c.in-V20.is)
