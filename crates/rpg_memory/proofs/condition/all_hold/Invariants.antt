use Rattle.std.proofs.Common.{◌≡◌, drop}
use Rattle.rpg_program.specs.World.{all_hold}
use Rattle.rpg_memory.proofs.condition.all_hold.Given as goal

abbrev pub invariant-conditions : goal.invariant-conditions
invariant-conditions l = all_hold l.on (drop l.condition-index l.conditions) ≡ all_hold l.on l.conditions
