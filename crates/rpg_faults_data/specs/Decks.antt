-- The decks that the E cards before a card have left.
use Rattle.std.specs.Prelude.{◌≡◌, ◌≤◌, ◌+◌, List, ◌∷◌, ℕ, count_by, length, Bool, true, false, None}
use Rattle.rpg_cards.specs.Groups.{Group, data_role, followers, groups}
use Rattle.rpg_cards.specs.declared.spec_card.SpecCard.{SpecCard}
use Rattle.rpg_faults_data.specs.Causes.{after_deck_begin, begins_table_data}
use Rattle.rpg_faults_data.specs.Data.{wanted}
use Rattle.rpg_faults_data.specs.declared.decks.Decks.{Decks}

-- the data after a ** card, up to the next one
abbrev pub deck : List SpecCard → Group (Unit {0}) (List ℕ)
deck following = record { heading = tt; followers = followers data_role following; file = None }

-- what the E cards before have left of the data, how many E cards expect data, and how many decks begin before
pub record AreDecks (cards before : List SpecCard) (d : Decks) : Type 0 where
  pub rest : (n : ℕ) → after_deck_begin n d.rest.now ≡ after_deck_begin (wanted before + n) cards
  pub expected : d.wanted ≡ wanted cards
  pub begun : d.begun ≡ count_by begins_table_data before
  pub few : d.begun ≤ length before

-- a `**` card begins a deck, any other card doesn't change the groups
abbrev pub BeginsDeck : SpecCard → Bool → Type 0
BeginsDeck c true = (following : List SpecCard) → groups data_role (c ∷ following) ≡ deck following ∷ groups data_role following
BeginsDeck c false = (following : List SpecCard) → groups data_role (c ∷ following) ≡ groups data_role following
