-- The state that is kept of the cards before a card.
use Rattle.std.specs.Prelude.{List}
use Rattle.rpg_cards.specs.declared.spec_card.SpecCard.{SpecCard}
use Rattle.rpg_faults_places.specs.Lengths.{AreJoinedLengths}
use Rattle.rpg_faults_places.specs.Matches.{AreMatches}
use Rattle.rpg_faults_places.specs.declared.state.Places.{Places}

-- what is known before a card: of control fields and of match fields
pub record IsPlaces (cards before : List SpecCard) (p : Places) : Type 0 where
  pub lengths : AreJoinedLengths cards before p.lengths
  pub matches : AreMatches cards before p.matches
