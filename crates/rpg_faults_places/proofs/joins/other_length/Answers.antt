use Rattle.std.proofs.Common.{ap}
use Rattle.rpg_faults_places.specs.Joins.{first_cause_in_list, of_level}
use Rattle.rpg_faults_places.proofs.LevelLemmas.{levels-is}
use Rattle.rpg_faults_places.proofs.joins.other_length.Goals as goal

pub loop-level-init : goal.loop-level-init
loop-level-init c = ap (first_cause_in_list (of_level c.args.before.now c.args.after.now)) levels-is
