use Rattle.std.proofs.Common.{◌<◌, ◌≤◌, length, refl, sym, ap, ◌∙◌, subst}
use Rattle.std.proofs.lemmas.List.{length-map}
use Rattle.std.specs.Option.{ForSome}
use Rattle.rpg_cycle.proofs.JobCycles.{answers, ends, fails, continues, job, one_more, passes}
use Rattle.rpg_cycle.proofs.Spending.{some_before}
use Rattle.rpg_cycle.specs.Doing.{CycleEnds, CycleContinues, next_text}
use Rattle.rpg_cycle.specs.Ends.{Continues}
use Rattle.rpg_cycle.specs.Job as of
use Rattle.rpg_cycle_records.specs.Holding.{AreFilesKept, inputs_of, text_in}
use Rattle.rpg_cycle_records.specs.Earlier.{Left}
use Rattle.rpg_cycle_records.specs.Keeping.{left_of, noted, seen_bytes}
use Rattle.rpg_cycle_records.specs.Waiting.{Inputs}
use Rattle.rpg_cycle.specs.Selecting.{RenewsLeft}
use Rattle.rpg_cycle.specs.Stages.{Going, Ended, is_going, job_end, stage_of}
use Rattle.rpg_cycle.specs.declared.ends.Progress.TheVariants as progresses
use Rattle.rpg_machine.specs.Running.{Running, refilled}
use Rattle.rpg_program.specs.Object.{Object}
use Rattle.rpg_verify.specs.Bound.{bound}
use Rattle.rpg_cycle.proofs.Growing.{and_grows}
use Rattle.rpg_program.specs.Fronts.{OnlyGrows}
use Rattle.rpg_cycle.proofs.jobs.Job.cycle_on.Goals as goal

pub returns-in-Ok-clause-cycled : goal.returns-in-Ok-clause-cycled
returns-in-Ok-clause-cycled g c =
    let i = c.self.inside in
    let p = i.program.now in
    let x = next_text c.args.primary in
    let y = next_text c.args.secondary in
    let going = ap (λ (r : of.AtWork). is_going r.stage) c.self.view_is ∙ c.requires.going in
    let following = c.self.invariant.following going in
    let same = c.self.invariant.program going in
    let t = c.in-Ok.selected in
    let kept = c.run_cycle.new.kept in
    let went = subst (λ (o : Object). CycleContinues o i.kept c.args.primary c.args.secondary (refilled i.machine) t kept c.run_cycle.new.machine) same c.in-Ok.ensures.goes.goes in
    let renewed = subst (λ (o : Object). RenewsLeft o t i.kept kept) same c.in-Ok.ensures.goes.left in
    let was = job p i.machine (left_of i.kept) (inputs_of i.kept) (stage_of i.progress) in
    let new = job p c.run_cycle.new.machine (left_of c.note.new.self) (inputs_of c.note.new.self) Going in
    let done = subst (λ (old : of.AtWork). of.Cycles old x y new) c.self.view_is (record {
      following = following;
      does = λ earlier leave orderly previous l. (
        Continues,
        subst (λ (j : Inputs). of.DoesCycle was earlier previous x y Continues (job p c.run_cycle.new.machine (left_of c.note.new.self) j Going)) (sym c.note.ensures.inputs)
            (continues p earlier previous x y i.machine c.run_cycle.new.machine (left_of i.kept) (left_of c.note.new.self) (inputs_of i.kept) (inputs_of kept) (stage_of i.progress) t (text_in p kept t)
            same leave orderly l (c.note.ensures.left ∙ ap (noted p t) renewed) went),
      );
    }) in
    answers stage_of x y progresses.Going c.requires.going done refl (subst (λ (o : Object). c.run_cycle.new.machine.config.steps ≤ bound o) same c.in-Ok.ensures.few)
    (subst (λ (old : of.AtWork). OnlyGrows old.output c.run_cycle.new.machine.output) c.self.view_is c.in-Ok.ensures.grows)

pub returns-in_ok-finish-in-Err-Ends-clause-cycled : goal.returns-in_ok-finish-in-Err-Ends-clause-cycled
returns-in_ok-finish-in-Err-Ends-clause-cycled g c =
    let i = c.self.inside in
    let p = i.program.now in
    let x = next_text c.args.primary in
    let y = next_text c.args.secondary in
    let e = c.in-Err-Ends.end in
    let going = ap (λ (r : of.AtWork). is_going r.stage) c.self.view_is ∙ c.requires.going in
    let following = c.self.invariant.following going in
    let same = c.self.invariant.program going in
    let kept = c.run_cycle.new.kept in
    let d = subst (λ (o : Object). CycleEnds o i.kept c.args.primary c.args.secondary (refilled i.machine) (job_end e) c.run_cycle.new.machine) same (rw c.in-Err-Ends.field-0-is at c.in-Err-Ends.ensures.stops) in
    let new = job p c.finish.new.self (left_of kept) (inputs_of kept) (Ended (job_end e)) in
    let done = subst (λ (old : of.AtWork). of.Cycles old x y new) c.self.view_is (record {
      following = following;
      does = λ earlier leave orderly previous l. (
        job_end e,
        ends p earlier previous x y i.machine c.run_cycle.new.machine c.finish.new.self (left_of i.kept) (left_of kept) (inputs_of i.kept) (inputs_of kept) (stage_of i.progress) d.0 e
            same leave orderly l d.1 c.in_ok-finish-in-Err-Ends.ensures.finished,
      );
    }) in
    let few = subst (λ (o : Object). c.run_cycle.new.machine.config.steps ≤ bound o) same (rw c.in-Err-Ends.field-0-is at c.in-Err-Ends.ensures.few) in
    answers stage_of x y (progresses.Ended e) c.requires.going done refl (subst (λ (r : Running). r.config.steps ≤ bound p) (sym c.in_ok-finish-in-Err-Ends.ensures.finished) few)
    (subst (λ (old : of.AtWork). OnlyGrows old.output c.finish.new.self.output) c.self.view_is (and_grows c.in-Err-Ends.ensures.grows c.in_ok-finish-in-Err-Ends.ensures.grows))

pub returns-in_err-finish-in-Err-Ends-clause-cycled : goal.returns-in_err-finish-in-Err-Ends-clause-cycled
returns-in_err-finish-in-Err-Ends-clause-cycled g c =
    passes stage_of (next_text c.args.primary) (next_text c.args.secondary) c.from_residual.result _ c.from_residual.ensures.1 c.requires.going refl
    (subst (λ (old : of.AtWork). OnlyGrows old.output c.finish.new.self.output) c.self.view_is (and_grows c.in-Err-Ends.ensures.grows c.in_err-finish-in-Err-Ends.ensures.grows))

pub returns-in-Err-NoMemory-clause-cycled : goal.returns-in-Err-NoMemory-clause-cycled
returns-in-Err-NoMemory-clause-cycled g c =
    fails stage_of (next_text c.args.primary) (next_text c.args.secondary) _ c.requires.going refl
    (subst (λ (old : of.AtWork). OnlyGrows old.output c.run_cycle.new.machine.output) c.self.view_is c.in-Err-NoMemory.ensures.grows)

pub invariant_of-self : goal.invariant_of-self
invariant_of-self g c =
    let i = c.self.inside in
    let p = i.program.now in
    let x = next_text c.args.primary in
    let y = next_text c.args.secondary in
    let going = ap (λ (r : of.AtWork). is_going r.stage) c.self.view_is ∙ c.requires.going in
    let following = c.self.invariant.following going in
    let same = c.self.invariant.program going in
    let t = c.in-Ok.selected in
    let kept = c.run_cycle.new.kept in
    let went = subst (λ (o : Object). CycleContinues o i.kept c.args.primary c.args.secondary (refilled i.machine) t kept c.run_cycle.new.machine) same c.in-Ok.ensures.goes.goes in
    let renewed = subst (λ (o : Object). RenewsLeft o t i.kept kept) same c.in-Ok.ensures.goes.left in
    let o = some_before i.machine.last in
    let old = job p i.machine (left_of i.kept) (inputs_of i.kept) (stage_of i.progress) in
    let done = continues p following.earlier o.0 x y i.machine c.run_cycle.new.machine (left_of i.kept) (left_of c.note.new.self) (inputs_of i.kept) (inputs_of kept) (stage_of i.progress) t (text_in p kept t)
    same following.leave following.orderly o.1 (c.note.ensures.left ∙ ap (noted p t) renewed) went in
    record {
      program = λ on. c.in-Ok.ensures.goes.goes.program ∙ same;
      ready = λ on. c.in-Ok.ensures.goes.ready;
      following = λ on. subst (λ (j : Inputs). of.IsFollowing p (left_of c.note.new.self) j) (sym c.note.ensures.inputs)
          (one_more old (job p c.run_cycle.new.machine (left_of c.note.new.self) (inputs_of kept) Going) following.earlier o.0 x y following.orderly done);
      files = λ on. c.note.ensures.kept (subst (λ (o : Object). AreFilesKept o kept) same c.in-Ok.ensures.goes.kept);
      few = λ on. subst (λ (o : Object). c.run_cycle.new.machine.config.steps ≤ bound o) same c.in-Ok.ensures.few;
    }

pub note-requires : goal.note-requires
note-requires g c =
    let going = ap (λ (r : of.AtWork). is_going r.stage) c.self.view_is ∙ c.requires.going in
    subst (λ (o : Object). ForSome c.in-Ok.selected (λ n. n < length o.types)) (c.self.invariant.program going) c.in-Ok.ensures.goes.there

pub run_cycle-requires-clause-kept : goal.run_cycle-requires-clause-kept
run_cycle-requires-clause-kept g c =
    let going = ap (λ (r : of.AtWork). is_going r.stage) c.self.view_is ∙ c.requires.going in
    record {
      nine = sym (length-map c.self.inside.kept.levels.items seen_bytes) ∙ ap (λ (l : Left). length l.bytes) (c.self.invariant.following going).leave;
      files = subst (λ (o : Object). AreFilesKept o c.self.inside.kept) (sym (c.self.invariant.program going)) (c.self.invariant.files going);
    }
