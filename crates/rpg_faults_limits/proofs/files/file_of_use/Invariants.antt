use Rattle.std.proofs.Common.{◌≡◌, drop}
use Rattle.rpg_cards.specs.Files.{file_for}
use Rattle.rpg_faults_limits.specs.FileCauses.{file_of_use}
use Rattle.rpg_faults_limits.proofs.files.file_of_use.Given as goal

abbrev pub invariant-loop-card : goal.invariant-loop-card
invariant-loop-card l =
    (file_of_use l.serves_as (drop l.card-index l.cards) ≡ file_of_use l.serves_as l.cards)
    × (file_for l.serves_as (drop l.card-index l.cards) ≡ file_for l.serves_as l.cards)
