use Rattle.std.proofs.Common.{◌≡◌, drop}
use Rattle.rpg_cards.specs.Files.{file_named}
use Rattle.rpg_faults_limits.specs.FileCauses.{file_of_name}
use Rattle.rpg_faults_limits.proofs.files.file_of_name.Given as goal

abbrev pub invariant-loop-card : goal.invariant-loop-card
invariant-loop-card l =
    (file_of_name l.name (drop l.card-index l.cards) ≡ file_of_name l.name l.cards)
    × (file_named l.name (drop l.card-index l.cards) ≡ file_named l.name l.cards)
