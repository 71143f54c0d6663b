use Rattle.std.proofs.Common.{◌≡◌, ℕ, ◌+◌, ◌≤◌, ◌++◌, List, length}
use Rattle.std.specs.Option.{option_map}
use Rattle.rpg_sheet_specs.specs.Values.{undoubled}
use Rattle.rpg_sheet_values.proofs.literals.undoubled.Given as goal

-- what is done, before what the rest stands for
abbrev pub invariant-loop-rest : goal.invariant-loop-rest
invariant-loop-rest g l = record { so_far : undoubled l.text ≡ option_map (λ (t : List ℕ). l.word ++ t) (undoubled l.rest); fits : length l.word + length l.rest ≤ length l.text }

abbrev pub decreases-loop-rest : goal.decreases-loop-rest
decreases-loop-rest g l = length l.rest
