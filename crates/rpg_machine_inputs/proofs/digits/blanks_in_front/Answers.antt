use Rattle.std.proofs.Common.{arith}
use Rattle.rpg_machine_inputs.proofs.Plain.{one_blank}
use Rattle.rpg_machine_inputs.proofs.digits.blanks_in_front.Goals as goal

pub blanks-preserved : goal.blanks-preserved
blanks-preserved c = one_blank c.args.text.now c.blanks.spot (omega arith) c.blanks.invariant c.if-text-spot-eq32.true
