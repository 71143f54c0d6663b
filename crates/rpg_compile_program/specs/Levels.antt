-- The levels of subroutines.
use Rattle.std.specs.Prelude.{ℕ, ◌-◌, List, length}
use Rattle.rpg_cards.specs.Keys.{Key}
use Rattle.rpg_cards.specs.Sections.{Subroutine}
use Rattle.rpg_cards.specs.Plain.{calls_of}
use Rattle.rpg_symbols.specs.Chains.{level_within}

-- the subroutines on a longest chain that ends in it, of fewer calls than there are subroutines; where no call leads back, none is longer
abbrev pub subroutine_level : List (Subroutine Key) → ℕ → ℕ
subroutine_level all s = level_within (length all - 1) (calls_of all) s
