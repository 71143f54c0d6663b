use Rattle.std.proofs.Common.{◌≡◌, drop}
use Rattle.rpg_cards.specs.Files.{file_named}
use Rattle.rpg_cards.proofs.files.file_named.Given as goal

abbrev pub invariant-loop-card : goal.invariant-loop-card
invariant-loop-card l = file_named l.name (drop l.card-index l.cards) ≡ file_named l.name l.cards
