use Rattle.std.proofs.Common.{[], sym, ap, subst, arith}
use Rattle.rpg_cycle.proofs.Cycling.{at_first}
use Rattle.rpg_cycle_records.specs.Merging.{AreMergedInOrder}
use Rattle.rpg_cycle_records.specs.Waiting.{Inputs}
use Rattle.rpg_machine.specs.Running.{Running}
use Rattle.rpg_cycle.proofs.jobs.Job.start_on.Goals as goal

pub invariant_of-result : goal.invariant_of-result
invariant_of-result g c =
    let p = c.args.program.now in
    let start = c.in_ok-machine.ensures.start in
    let none = ap (λ (r : Running). r.config.steps) start in
    record {
      program = λ on. ap (λ (r : Running). r.program) start;
      ready = λ on. c.in_ok-machine.ensures.ready;
      following = λ on. record {
        earlier = [];
        leave = c.in_ok-kept.ensures.left;
        orderly = subst (λ (i : Inputs). AreMergedInOrder p [] i) (sym c.in_ok-kept.ensures.inputs) (at_first p);
      };
      files = λ on. c.in_ok-kept.ensures.kept;
      few = λ on. omega (arith, none);
    }
