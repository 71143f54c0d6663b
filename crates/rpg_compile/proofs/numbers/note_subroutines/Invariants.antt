use Rattle.std.proofs.Common.{◌≡◌, ◌+◌, ℕ, List, length}
use Rattle.std.specs.Cmp.Lexicographic.{pointwise}
use Rattle.std.specs.Map.{lookup}
use Rattle.std.specs.Option.{option_or}
use Rattle.std.specs.Prelude.{nat_eq}
use Rattle.rpg_compile.proofs.numbers.note_subroutines.Given as goal
use Rattle.rpg_compile.specs.Numbers.{names_from}
use Rattle.rpg_compile.specs.Walk.{subroutines_in}

abbrev pub invariant-loop-name : goal.invariant-loop-name
invariant-loop-name l = record {
  noted : (n : List ℕ) → option_or (lookup (pointwise nat_eq n) l.numbers.entries) (lookup (pointwise nat_eq n) (names_from l.count (subroutines_in l.rest)))
      ≡ option_or (lookup (pointwise nat_eq n) l.initial.numbers.entries) (lookup (pointwise nat_eq n) (names_from 0 (subroutines_in l.cards)));
  count : l.count + length (subroutines_in l.rest) ≡ length (subroutines_in l.cards);
}

abbrev pub decreases-loop-name : goal.decreases-loop-name
decreases-loop-name l = length l.rest
