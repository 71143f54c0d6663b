use Rattle.rpg_cycle.proofs.OneRun.{cycle_fixed}
use Rattle.rpg_cycle_records.specs.Earlier.{left_by}
use Rattle.rpg_cycle_records.specs.Waiting.{has_match}
use Rattle.rpg_cycle_safety.proofs.run_laws.cycles_are_one.Goals as goal

pub returns : goal.returns
returns c = λ p earlier primary secondary c e f x y a b one other.
    let same = (cycle_fixed p (left_by p earlier) (has_match p earlier) primary secondary).same c e f x y a b one other in (same.end, same.there, same.out)
