-- What is known of the cards before a card.
use Rattle.std.specs.Prelude.{List}
use Rattle.rpg_cards.specs.declared.spec_card.SpecCard.{SpecCard}
use Rattle.rpg_causes_flow.specs.Flow.{IsFlow}
use Rattle.rpg_faults.specs.declared.before.Before.{Before}
use Rattle.rpg_faults_data.specs.Decks.{AreDecks}
use Rattle.rpg_faults_flow.specs.OpenGroups.{IsOpenGroup}
use Rattle.rpg_faults_limits.specs.Sheets.{AreSheets}
use Rattle.rpg_faults_limits.specs.State.{AreLimits}
use Rattle.rpg_faults_places.specs.State.{IsPlaces}

-- of those cards of a source, where the others follow
pub record AreBefore (cards before rest : List SpecCard) (b : Before) : Type 0 where
  pub sheets : AreSheets cards before b.sheets
  pub limits : AreLimits cards before rest b.limits
  pub places : IsPlaces cards before b.places
  pub flow : IsFlow before rest b.flow
  pub group : IsOpenGroup before rest b.group
  pub decks : AreDecks cards before b.decks
