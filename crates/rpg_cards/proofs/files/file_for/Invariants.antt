use Rattle.std.proofs.Common.{◌≡◌, drop}
use Rattle.rpg_cards.specs.Files.{file_for}
use Rattle.rpg_cards.proofs.files.file_for.Given as goal

abbrev pub invariant-loop-card : goal.invariant-loop-card
invariant-loop-card l = file_for l.file_use (drop l.card-index l.cards) ≡ file_for l.file_use l.cards
