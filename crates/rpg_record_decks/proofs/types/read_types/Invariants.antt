use Rattle.std.proofs.Common.{◌≡◌, codes, drop, false}
use Rattle.rpg_record_decks.specs.Reading.{all_types}
use Rattle.rpg_record_decks.specs.Types.{cards_of_file, types_read}
use Rattle.rpg_record_decks.proofs.types.read_types.Given as goal

abbrev pub invariant-loop-card : goal.invariant-loop-card
invariant-loop-card l = all_types l.length l.types (cards_of_file (codes "I") l.name l.is_meant (drop l.card-index l.cards)) ≡ types_read l.length (cards_of_file (codes "I") l.name false l.cards)
