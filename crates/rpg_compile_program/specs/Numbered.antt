-- Cards whose names and constants have numbers.
use Rattle.std.specs.Prelude.{◌≡◌, ℕ, ◌+◌, ◌≤◌, List, Option, None, Some, length}
use Rattle.rpg_cards.specs.Constants.{constants}
use Rattle.rpg_cards.specs.declared.spec_card.SpecCard.{SpecCard}
use Rattle.rpg_compile_program.specs.Defined.{AreDefined}
use Rattle.rpg_compile_program.specs.Table.{defined_fields}
use Rattle.rpg_symbols.specs.Fields.{NamedForms}

-- the names that have a form are listed; without a list, each definition has a form
abbrev pub AreFormed : Option NamedForms → List SpecCard → Type 0
AreFormed None cards = AreDefined cards
AreFormed (Some names) cards = names ≡ defined_fields cards

-- there are n names, listed unless each definition has a form, and with the constants no more fields than a program may have
pub record IsNumbered (n : ℕ) (listed : Option NamedForms) (cards : List SpecCard) : Type 0 where
  pub names : n ≡ length (defined_fields cards)
  pub formed : AreFormed listed cards
  pub few : length (defined_fields cards) + length (constants cards) ≤ 4000
