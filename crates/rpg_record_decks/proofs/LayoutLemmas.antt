-- The file that is meant.
use Rattle.std.proofs.Common.{◌≡◌, List, find, ap, Some, None, Err, option_copied}
use Rattle.rpg_record_decks.specs.Files.{is_meant}
use Rattle.rpg_record_decks.specs.Layouts.{layout_by_cards, layout_of_file}
use Rattle.rpg_record_decks.specs.declared.deck.DeckCard.{DeckCard}
use Rattle.rpg_record_decks.specs.declared.deck.DeckArguments.{DeckArguments}
use Rattle.rpg_record_decks.specs.declared.fault.DeckFault.TheVariants as faults

pub no_file : (words : DeckArguments) (cards : List DeckCard) → find (λ (c : DeckCard). is_meant (option_copied words.file) c.card) cards ≡ None → layout_by_cards words cards ≡ Err faults.NoFile
no_file words cards e = ap (layout_of_file words.length words.are_lines cards) e

pub file_found : (words : DeckArguments) (cards : List DeckCard) (file : DeckCard) → find (λ (c : DeckCard). is_meant (option_copied words.file) c.card) cards ≡ Some file
    → layout_by_cards words cards ≡ layout_of_file words.length words.are_lines cards (Some file)
file_found words cards file e = ap (layout_of_file words.length words.are_lines cards) e
