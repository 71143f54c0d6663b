use Rattle.rpg_program.specs.Rows.{row_of}
use Rattle.rpg_machine_operations.proofs.Doing.{sought_positions}
use Rattle.rpg_machine_operations.proofs.Rights.{resolvable_table, right_operands}
use Rattle.rpg_machine_operations.proofs.operations.operate_in_range.Goals as goal

pub compute-requires-clause-factor1 : goal.compute-requires-clause-factor1
unfolding row_of
compute-requires-clause-factor1 g c = (right_operands c.args.memory.now.program.fields _ (rw c.in-Compute.is at c.requires.right)).factor1

pub compute-requires-clause-factor2 : goal.compute-requires-clause-factor2
unfolding row_of
compute-requires-clause-factor2 g c = (right_operands c.args.memory.now.program.fields _ (rw c.in-Compute.is at c.requires.right)).factor2

pub compute-requires-clause-to : goal.compute-requires-clause-to
unfolding row_of
compute-requires-clause-to g c = (right_operands c.args.memory.now.program.fields _ (rw c.in-Compute.is at c.requires.right)).result

pub divide-requires-clause-factor1 : goal.divide-requires-clause-factor1
unfolding row_of
divide-requires-clause-factor1 g c = (right_operands c.args.memory.now.program.fields _ (rw c.in-Divide.is at c.requires.right)).factor1

pub divide-requires-clause-factor2 : goal.divide-requires-clause-factor2
unfolding row_of
divide-requires-clause-factor2 g c = (right_operands c.args.memory.now.program.fields _ (rw c.in-Divide.is at c.requires.right)).factor2

pub divide-requires-clause-to : goal.divide-requires-clause-to
unfolding row_of
divide-requires-clause-to g c = (right_operands c.args.memory.now.program.fields _ (rw c.in-Divide.is at c.requires.right)).result

pub assign-requires-clause-factor2 : goal.assign-requires-clause-factor2
unfolding row_of
assign-requires-clause-factor2 g c = (right_operands c.args.memory.now.program.fields _ (rw c.in-Assign.is at c.requires.right)).factor2

pub assign-requires-clause-to : goal.assign-requires-clause-to
unfolding row_of
assign-requires-clause-to g c = (right_operands c.args.memory.now.program.fields _ (rw c.in-Assign.is at c.requires.right)).result

pub take_remainder-requires : goal.take_remainder-requires
unfolding row_of
take_remainder-requires g c = (right_operands c.args.memory.now.program.fields _ (rw c.in-TakeRemainder.is at c.requires.right)).result

pub cross_foot-requires-clause-factor2 : goal.cross_foot-requires-clause-factor2
unfolding row_of
cross_foot-requires-clause-factor2 g c = (right_operands c.args.memory.now.program.fields _ (rw c.in-CrossFoot.is at c.requires.right)).factor2

pub cross_foot-requires-clause-to : goal.cross_foot-requires-clause-to
unfolding row_of
cross_foot-requires-clause-to g c = (right_operands c.args.memory.now.program.fields _ (rw c.in-CrossFoot.is at c.requires.right)).result

pub compare_entries-requires-clause-factor1 : goal.compare_entries-requires-clause-factor1
unfolding row_of
compare_entries-requires-clause-factor1 g c = (right_operands c.args.memory.now.program.fields _ (rw c.in-Compare.is at c.requires.right)).factor1

pub compare_entries-requires-clause-factor2 : goal.compare_entries-requires-clause-factor2
unfolding row_of
compare_entries-requires-clause-factor2 g c = (right_operands c.args.memory.now.program.fields _ (rw c.in-Compare.is at c.requires.right)).factor2

pub look_up-requires-clause-factor1 : goal.look_up-requires-clause-factor1
unfolding row_of
look_up-requires-clause-factor1 g c = (right_operands c.args.memory.now.program.fields _ (rw c.in-LookUp.is at c.requires.right)).factor1

pub look_up-requires-clause-factor2 : goal.look_up-requires-clause-factor2
unfolding row_of
look_up-requires-clause-factor2 g c = (right_operands c.args.memory.now.program.fields _ (rw c.in-LookUp.is at c.requires.right)).factor2

pub move_places-requires-clause-factor2 : goal.move_places-requires-clause-factor2
unfolding row_of
move_places-requires-clause-factor2 g c = (right_operands c.args.memory.now.program.fields _ (rw c.in-Move.is at c.requires.right)).factor2

pub move_places-requires-clause-to : goal.move_places-requires-clause-to
unfolding row_of
move_places-requires-clause-to g c = (right_operands c.args.memory.now.program.fields _ (rw c.in-Move.is at c.requires.right)).result

pub look_up-requires-clause-table : goal.look_up-requires-clause-table
unfolding row_of
look_up-requires-clause-table g c = resolvable_table c.args.memory.now.program.fields c.in-LookUp.to (right_operands c.args.memory.now.program.fields _ (rw c.in-LookUp.is at c.requires.right)).result

pub look_up-requires-clause-positions : goal.look_up-requires-clause-positions
look_up-requires-clause-positions g c = sought_positions c.args.memory.now.program.fields _ _ _ _ (rw c.in-LookUp.is at c.requires.right)
