use Rattle.std.proofs.Common.{◌≡◌, ◌-◌}
use Rattle.std.specs.List.{range_with_len}
use Rattle.rpg_faults_places.specs.Joins.{first_cause_in_list, of_level}
use Rattle.rpg_faults_places.specs.Places.{levels}
use Rattle.rpg_faults_places.proofs.joins.other_length.Given as goal

abbrev pub invariant-loop-level : goal.invariant-loop-level
invariant-loop-level l = first_cause_in_list (of_level l.before l.after) levels ≡ first_cause_in_list (of_level l.before l.after) (range_with_len l.level (10 - l.level))
