use Rattle.std.proofs.Common.{◌≡◌, drop}
use Rattle.rpg_faults_limits.specs.Files.{first_form}
use Rattle.rpg_faults_limits.proofs.files.first_form.Given as goal

abbrev pub invariant-loop-card : goal.invariant-loop-card
invariant-loop-card l = first_form (drop l.card-index l.cards) ≡ first_form l.cards
