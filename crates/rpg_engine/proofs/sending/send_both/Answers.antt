use Rattle.rpg_engine.specs.declared.files.OutputFile.TheVariants.{Print, Disk}
use Rattle.rpg_engine.proofs.sending.send_both.Goals as goal

pub send_to-requires-clause-faults : goal.send_to-requires-clause-faults
send_to-requires-clause-faults g c = c.requires.ready.faults Print

pub send_to-requires-clause-few : goal.send_to-requires-clause-few
send_to-requires-clause-few g c = c.requires.ready.few Print

pub send_to-requires-2-clause-faults : goal.send_to-requires-2-clause-faults
send_to-requires-2-clause-faults g c = c.requires.ready.faults Disk

pub send_to-requires-2-clause-few : goal.send_to-requires-2-clause-few
send_to-requires-2-clause-few g c = c.requires.ready.few Disk
