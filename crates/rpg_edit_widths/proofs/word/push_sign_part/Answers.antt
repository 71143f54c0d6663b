use Rattle.std.proofs.Common.{arith}
use Rattle.std.proofs.lemmas.Grind.{common_steps}
use Rattle.rpg_edit_widths.proofs.Words.{credit_done}
use Rattle.rpg_edit_widths.proofs.word.push_sign_part.Goals as goal

pub returns-then-begins_credit : goal.returns-then-begins_credit
returns-then-begins_credit c =
    credit_done c.args.part.now c.loop-i.i _ c.loop-i.marks.items c.push-then-begins_credit.new.self.items c.push-then-begins_credit-2.new.self.items _
    (grind (arith, common_steps)) c.loop-i.invariant.0 c.push-then-begins_credit.ensures.items c.push-then-begins_credit-2.ensures.items (grind (arith, common_steps))
