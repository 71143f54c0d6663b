use Rattle.std.proofs.Common.{refl}
use Rattle.rpg_faults_places.proofs.matches.Matches.nothing.Goals as goal

pub returns : goal.returns
returns c = λ cards. record { first = refl; open_type = refl }
