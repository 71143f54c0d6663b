use Rattle.std.proofs.Common.{◌≡◌, drop, find}
use Rattle.std.specs.Option.{option_copied}
use Rattle.rpg_record_decks.specs.Files.{is_meant}
use Rattle.rpg_record_decks.specs.declared.deck.DeckCard.{DeckCard}
use Rattle.rpg_record_decks.proofs.file.find_file.Given as goal

abbrev pub invariant-loop-card : goal.invariant-loop-card
invariant-loop-card l =
    find (λ (c : DeckCard). is_meant (option_copied l.name) c.card) (drop l.card-index l.cards) ≡ find (λ (c : DeckCard). is_meant (option_copied l.name) c.card) l.cards
