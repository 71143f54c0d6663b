use Rattle.rpg_machine_operations.proofs.Finding.{first_fits}
use Rattle.rpg_machine_operations.proofs.searching.place.Goals as goal

pub set_index-requires-clause-holds : goal.set_index-requires-clause-holds
set_index-requires-clause-holds g c = first_fits c.args.memory.now.program.fields c.args.factor2.index c.is_kept.ensures.valid c.requires.reads
