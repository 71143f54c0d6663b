use Rattle.rpg_machine_operations.proofs.Rights.{names_value}
use Rattle.rpg_machine_operations.proofs.resolving.entry_named.Goals as goal

pub returns-clause-named : goal.returns-clause-named
returns-clause-named g c k h =
    names_value c.args.memory.now.program.fields c.args.memory.now.world.data.fields k c.args.operand.now _ c.resolve.ensures.entry c.resolve.ensures.form c.is_kept.ensures.valid c.is_kept.ensures.fits h
