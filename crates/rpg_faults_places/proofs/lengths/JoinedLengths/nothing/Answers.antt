use Rattle.rpg_faults_places.proofs.TypeLemmas.{nothing_joined}
use Rattle.rpg_faults_places.proofs.lengths.JoinedLengths.nothing.Goals as goal

pub returns : goal.returns
returns c = nothing_joined
