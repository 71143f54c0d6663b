use Rattle.std.proofs.Common.{◌≡◌, map, take}
use Rattle.std.specs.List.{flat_map}
use Rattle.rpg_program.specs.Values.{entries_held}
use Rattle.rpg_store.specs.Listed.{number_part}
use Rattle.rpg_store.proofs.listed.numbers_of.Given as goal

abbrev pub invariant-loop-of_field : goal.invariant-loop-of_field
invariant-loop-of_field l = l.numbers.items ≡ flat_map (λ us. map number_part (entries_held us)) (take l.of_field-index l.values)
