use Rattle.std.proofs.Common.{◌≡◌, ◌++◌, map, take}
use Rattle.rpg_program.specs.Values.{held}
use Rattle.rpg_store.specs.Listed.{number_part}
use Rattle.rpg_store.proofs.listed.add_numbers.Given as goal

abbrev pub invariant-loop-value : goal.invariant-loop-value
invariant-loop-value l = l.numbers.items ≡ l.initial.numbers.items ++ map number_part (map held (take l.value-index l.values))
