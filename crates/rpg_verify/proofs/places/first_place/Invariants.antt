use Rattle.std.proofs.Common.{◌≡◌, ◌-◌}
use Rattle.rpg_program.specs.Object.{seen}
use Rattle.rpg_program.specs.Sections.{places_of}
use Rattle.rpg_verify.proofs.Walking.{breaks_from}
use Rattle.rpg_verify.proofs.places.first_place.Given as goal

abbrev pub invariant-loop-placed : goal.invariant-loop-placed
invariant-loop-placed l = breaks_from l.rule (seen l.rows) l.place ≡ breaks_from l.rule (seen l.rows) 0

abbrev pub decreases-loop-placed : goal.decreases-loop-placed
decreases-loop-placed l = places_of (seen l.rows) - l.place
