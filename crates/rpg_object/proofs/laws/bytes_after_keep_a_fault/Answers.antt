use Rattle.rpg_object.proofs.ObjectLaws.{fault_stays}
use Rattle.rpg_object.proofs.laws.bytes_after_keep_a_fault.Goals as goal

pub returns : goal.returns
returns c = fault_stays c.args.bytes.now c.args.more.now
