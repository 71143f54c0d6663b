use Rattle.std.proofs.Common.{◌≡◌, ◌≤◌, ◌-◌, ◌*◌, ◌^◌, unsigned_abs}
use Rattle.rpg_program.specs.Act.{sum_to}
use Rattle.rpg_program.specs.World.{number_at}
use Rattle.rpg_machine_operations.proofs.summing.sum.Given as goal

abbrev pub invariant-entries : goal.invariant-entries
invariant-entries g l = record {
  sum : l.total ≡ sum_to (number_at l.memory.world.data l.array.entry.field) (l.position - 1);
  small : unsigned_abs l.total ≤ (l.position - 1) * 10 ^ 15;
}
