use Rattle.std.proofs.Common.{◌≡◌, length}
use Rattle.rpg_cards.specs.Groups.{data_role, groups}
use Rattle.rpg_faults_data.specs.Causes.{after_deck_begin}
use Rattle.rpg_faults_data.proofs.decks.after_next.Given as goal

abbrev pub invariant-loop-card : goal.invariant-loop-card
invariant-loop-card l = (groups data_role l.cards ≡ groups data_role l.rest) × (after_deck_begin 0 l.cards ≡ after_deck_begin 0 l.rest)

abbrev pub decreases-loop-card : goal.decreases-loop-card
decreases-loop-card l = length l.rest
