-- The levels of a program's subroutines.
use Rattle.std.specs.Prelude.{ℕ, ◌<◌, List, length}
use Rattle.rpg_cards.specs.Plain.{calls_of}
use Rattle.rpg_cards.specs.declared.spec_card.SpecCard.{SpecCard}
use Rattle.rpg_compile_program.specs.Program.{sections}
use Rattle.rpg_program.specs.Object.{Object}
use Rattle.rpg_program.specs.Sections.{level_of}
use Rattle.rpg_program.specs.declared.section.Section.TheVariants as section
use Rattle.rpg_symbols.specs.Chains.{IsCallLevel}

-- that of each is the number of subroutines on the longest chain of calls that ends in it
abbrev pub HasCallLevels : List SpecCard → Object → Type 0
HasCallLevels cards p = (s : ℕ) → s < length (sections cards).subroutines → IsCallLevel (calls_of (sections cards).subroutines) s (level_of p (section.Subroutine s))
