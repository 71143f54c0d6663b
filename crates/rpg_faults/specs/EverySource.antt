-- All that is wrong with a source.
use Rattle.std.specs.Prelude.{◌≡◌, ℕ, List, Option, None, MatchOption, map}
use Rattle.rpg_cards.specs.declared.spec_card.SpecCard.{SpecCard}
use Rattle.rpg_faults.specs.Cards.{numbered_cards}
use Rattle.rpg_faults.specs.Source.{cards_in}
use Rattle.rpg_faults.specs.Reported.{AreFaultsOf}
use Rattle.rpg_faults.specs.declared.source_fault.CardFault.{CardFault}
use Rattle.rpg_faults.specs.declared.source_fault.SourceCode.TheVariants as codes
use Rattle.rpg_sheet.specs.Sheet.{first_sheet_fault, source}
use Rattle.rpg_sheet.specs.declared.unreadable.UnreadableCard.{UnreadableCard}
use Rattle.rpg_sheet.specs.Unreadable.{unreadable_cards}
use Rattle.rpg_sheet_specs.specs.declared.spec.Spec.{Spec}

-- the cards of a source with their numbers, from 1 on
abbrev pub numbered_specs : List (Option Spec) → List SpecCard
numbered_specs specs = numbered_cards 1 specs

-- a card that can't be read, as it is reported for a source
abbrev pub unreadable_reported : UnreadableCard → CardFault
unreadable_reported u = record { card = u.card; code = codes.Sheet u.code; columns = u.columns; cause = None }

-- all cards that can't be read; if there is none, all faults of the cards
abbrev pub AreSourceFaults : List ℕ → List CardFault → Type 0
AreSourceFaults text reported = MatchOption (first_sheet_fault (source text)) (AreFaultsOf (cards_in text) reported) (λ fault. reported ≡ map unreadable_reported (unreadable_cards (source text)))
