use Rattle.rpg_decimal.proofs.WholeLemmas.{ten_pos}
use Rattle.rpg_machine_lines.proofs.field.blank.Goals as goal

pub set_number-requires-clause-length : goal.set_number-requires-clause-length
set_number-requires-clause-length g c = ten_pos _
