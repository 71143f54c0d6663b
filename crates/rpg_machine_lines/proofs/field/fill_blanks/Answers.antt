use Rattle.std.proofs.Common.{◌∙◌, length, arith}
use Rattle.std.proofs.lemmas.List.{take-replicate}
use Rattle.rpg_machine_lines.proofs.field.fill_blanks.Goals as goal

pub returns-then-len-le256 : goal.returns-then-len-le256
returns-then-len-le256 c = c.copy_from_slice.ensures.after ∙ take-replicate (length c.args.text.now) 256 32 (omega arith)
