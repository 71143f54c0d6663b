use Rattle.std.proofs.Common.{◌≡◌}
use Rattle.rpg_program.specs.Act.{order_at}
use Rattle.rpg_program.specs.Search.{first_one, positions}
use Rattle.rpg_machine_operations.proofs.searching.first_one.Given as goal
use Rattle.rpg_program.specs.Forms.{form_at}

abbrev pub invariant-positions : goal.invariant-positions
invariant-positions g l =
    let s = order_at (form_at l.memory.program.fields) l.memory.world.data l.factor1.entry l.factor2.entry in
    first_one s l.order (positions l.position l.last) ≡ first_one s l.order (positions l.from l.last)
