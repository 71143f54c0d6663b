-- Calls of subroutines by subroutines in a source, in terms of chains of calls (rpg_symbols, Chains).
use Rattle.std.specs.Prelude.{◌≡◌, ℕ, ◌<◌, List, length}
use Rattle.rpg_cards.specs.Calculations.{calculations}
use Rattle.rpg_cards.specs.Calls.{calls}
use Rattle.rpg_cards.specs.Keys.{Key}
use Rattle.rpg_cards.specs.Plain.{calls_of}
use Rattle.rpg_cards.specs.Sections.{Subroutine}
use Rattle.rpg_cards.specs.declared.spec_card.SpecCard.{SpecCard}
use Rattle.rpg_compile_program.specs.Levels.{subroutine_level}
use Rattle.rpg_compile_program.specs.Program.{sections}
use Rattle.rpg_symbols.specs.Chains.{IsCallLevel, NoCallLeadsBack}

-- the subroutines of a source
abbrev pub subroutines_of_source : List SpecCard → List (Subroutine Key)
subroutines_of_source cards = (sections cards).subroutines

-- the statement for the cards of a source
pub record HasChains (cards : List SpecCard) : Type 0 where
  -- the rule on calls and the compiler find the same calls
  pub same_calls : calls (calculations cards) ≡ calls_of (subroutines_of_source cards)
  pub forward : NoCallLeadsBack (calls_of (subroutines_of_source cards))
  -- the level of a subroutine is that of the longest chain of calls that ends in it
  pub levels : (s : ℕ) → s < length (subroutines_of_source cards) → IsCallLevel (calls_of (subroutines_of_source cards)) s (subroutine_level (subroutines_of_source cards) s)
