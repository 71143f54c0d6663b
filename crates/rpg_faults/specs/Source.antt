-- The cards of a source, and what is wrong with it.
use Rattle.std.specs.Prelude.{◌≡◌, ◌≤◌, ℕ, List, length, map, None, Some}
use Rattle.rpg_faults.specs.Cards.{numbered_cards}
use Rattle.rpg_cards.specs.Cards.{Numbered}
use Rattle.rpg_cards.specs.declared.spec_card.SpecCard.{SpecCard}
use Rattle.rpg_faults.specs.declared.source_fault.SourceFault.{SourceFault}
use Rattle.rpg_faults.specs.declared.source_fault.SourceFault.TheVariants.{At, NoMemory}
use Rattle.rpg_faults.specs.declared.source_fault.SourceCode.TheVariants.{Sheet, Fault}
use Rattle.rpg_faults.specs.Faults.{Faultless, IsLeastFault}
use Rattle.rpg_sheet_specs.specs.Cards.{card_of}
use Rattle.rpg_sheet_specs.specs.Specs.{specs_of}
use Rattle.rpg_sheet.specs.Sheet.{first_sheet_fault, source}
use Rattle.rpg_sheet.specs.declared.sheet.SheetFault.{SheetFault}
use Rattle.rpg_sheet.specs.declared.sheet.SheetFault.TheVariants as sheet

-- the cards of a source, by meaning
abbrev pub cards_in : List ℕ → List SpecCard
cards_in text = numbered_cards 1 (specs_of (map card_of (source text)))

-- these are the cards of a source, which has no fault
pub record AreFaultless (text : List ℕ) (cards : List SpecCard) : Type 0 where
  pub readable : first_sheet_fault (source text) ≡ None
  pub are : cards ≡ cards_in text
  pub faultless : Faultless cards
  pub numbered : Numbered 1 cards
  pub few : length cards ≤ 2000

-- a fault of the sheets, as it is reported
abbrev pub of_sheet : SheetFault → SourceFault
of_sheet (sheet.At card code columns) = At card (Sheet code) columns
of_sheet sheet.NoMemory = NoMemory

-- what a rejection reports: the first fault of the sheets, or if there is none the first other fault; nothing if memory ran out
abbrev pub IsSourceRefusal : SourceFault → List ℕ → Type 0
IsSourceRefusal (At card (Sheet code) columns) text = first_sheet_fault (source text) ≡ Some (sheet.At card code columns)
IsSourceRefusal (At card (Fault code) columns) text = (first_sheet_fault (source text) ≡ None) × IsLeastFault (cards_in text) (record { card = card; code = code }) × (columns ≡ None)
IsSourceRefusal NoMemory text = Unit {0}
