use Rattle.std.proofs.Common.{sym, ◌∙◌}
use Rattle.rpg_program.specs.Object.{seen}
use Rattle.rpg_verify_rules.proofs.Rooms.{width_reported}
use Rattle.rpg_verify_rules.proofs.lines.fits_line.Goals as goal

pub has_room-requires-clause-width : goal.has_room-requires-clause-width
has_room-requires-clause-width c = width_reported (seen c.args.rows.now) c.args.field.now (sym c.has_width.ensures ∙ c.if-has_width.true)
