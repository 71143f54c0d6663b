use Rattle.std.proofs.Common.{◌≡◌, ◌++◌, drop}
use Rattle.rpg_object_format.specs.Format.{keep, spelled_along}
use Rattle.rpg_object_format.specs.Numbers.{two}
use Rattle.rpg_object_format.proofs.number.put_numbers.Given as goal

abbrev pub invariant-loop-number : goal.invariant-loop-number
invariant-loop-number l = l.out.items ++ spelled_along (λ s n. two n) keep tt (drop l.number-index l.numbers) ≡ l.initial.out.items ++ spelled_along (λ s n. two n) keep tt l.numbers
