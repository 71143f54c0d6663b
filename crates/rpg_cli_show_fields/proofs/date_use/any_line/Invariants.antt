use Rattle.std.proofs.Common.{◌≡◌, drop, map}
use Rattle.std.specs.List.{list_any}
use Rattle.rpg_program.specs.Object.{line_row}
use Rattle.rpg_cli_show_fields.specs.DateUse.{line_uses}
use Rattle.rpg_cli_show_fields.proofs.date_use.any_line.Given as goal

abbrev pub invariant-loop-line : goal.invariant-loop-line
invariant-loop-line l = list_any (line_uses l.rows.fields.items) (map line_row (drop l.line-index l.lines)) ≡ list_any (line_uses l.rows.fields.items) (map line_row (l.lines))
