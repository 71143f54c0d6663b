use Rattle.std.proofs.Common.{◌≡◌, drop}
use Rattle.std.specs.List.{list_any}
use Rattle.rpg_cli_show_fields.specs.DateUse.{instruction_uses}
use Rattle.rpg_cli_show_fields.proofs.date_use.any_instruction.Given as goal

abbrev pub invariant-loop-instruction : goal.invariant-loop-instruction
invariant-loop-instruction l = list_any (instruction_uses l.rows.fields.items) (drop l.instruction-index l.instructions) ≡ list_any (instruction_uses l.rows.fields.items) l.instructions
