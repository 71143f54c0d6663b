use Rattle.std.proofs.Common.{◌≡◌, drop, map}
use Rattle.std.specs.List.{list_any}
use Rattle.rpg_program.specs.Object.{subroutine_row}
use Rattle.rpg_cli_show_fields.specs.DateUse.{subroutine_uses}
use Rattle.rpg_cli_show_fields.proofs.date_use.any_subroutine.Given as goal

abbrev pub invariant-loop-subroutine : goal.invariant-loop-subroutine
invariant-loop-subroutine l = list_any (subroutine_uses l.rows.fields.items) (map subroutine_row (drop l.subroutine-index l.subroutines)) ≡ list_any (subroutine_uses l.rows.fields.items) (map subroutine_row (l.subroutines))
