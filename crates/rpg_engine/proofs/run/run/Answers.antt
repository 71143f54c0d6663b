use Rattle.std.proofs.Common.{◌∙◌, sym, ap, is_some, length, max, arith, refl}
use Rattle.std.proofs.lemmas.Result.{err_from_is_err_and}
use Rattle.rpg_cycle.specs.Job.{AtWork}
use Rattle.rpg_cycle.specs.Stages.{is_going}
use Rattle.rpg_machine.specs.Run.{running_place}
use Rattle.rpg_program.specs.Object.{Object}
use Rattle.rpg_paper.specs.Paper.{last_position}
use Rattle.rpg_engine.specs.Outputs.{bytes_for}
use Rattle.rpg_engine.specs.Streaming.{ended_stage}
use Rattle.rpg_engine.specs.declared.files.OutputFile.{OutputFile}
use Rattle.rpg_engine.specs.declared.report.Report.{Report}
use Rattle.rpg_engine.proofs.Flows.{cycled, flow_begins, flow_continues, flow_sends}
use Rattle.rpg_engine.proofs.Outputs.{can_fail, none_for, unsent}
use Rattle.rpg_engine.proofs.Sent.{all_sent, front_is, goes_out}
use Rattle.rpg_engine.proofs.Stopping.{moved_by, none_waits, some_have, some_of_run, some_parts, stays_there, stop_counts, stop_has, stop_needs, stop_of_run, stop_parts, stopped_after, stopped_between, stream_reports, writers_count, writers_of, writers_read}
use Rattle.rpg_engine.proofs.Streams.{few_given, stays_bounded}
use Rattle.rpg_engine.proofs.Taking.{faults_stay, needs_still, ready_after, ready_still, source_of, takes_next, went}
use Rattle.rpg_engine.proofs.Whose.{none_rises, some_faults, stop_faults}
use Rattle.rpg_engine.proofs.run.run.Goals as goal

pub cycles-init : goal.cycles-init
cycles-init g c =
    let begins = c.requires.begins in
    let first = begins.starts.1 in
    let one = begins.fresh_primary in
    let two = begins.fresh_secondary in
    record {
      flows = flow_begins c.args.job.now (source_of g.R1.Read.remaining c.args.primary.now) (source_of g.R2.Read.remaining c.args.secondary.now) _
          (ap (λ (j : AtWork). j.left) first) (ap (λ (j : AtWork). j.inputs) first) (ap (λ (j : AtWork). j.last) first) (ap (λ (j : AtWork). j.output) first)
          one.buffered one.ended one.count two.buffered two.ended two.count unsent;
      ready = record {
        going = ap (λ (j : AtWork). is_going j.stage) first;
        after_primary = λ _. one.answer;
        after_secondary = λ _. two.answer;
        limit_primary = one.limit;
        limit_secondary = two.limit;
      };
      same_primary = refl;
      same_secondary = refl;
      watching = c.begin.ensures;
      alone = λ _. refl;
      few = omega arith;
      few_sent = λ file. omega (arith, unsent file);
      bounded = omega arith;
      primary = refl;
      secondary = refl;
    }

-- before a cycle, the readers as they were
pub send_before_reading-requires : goal.send_before_reading-requires
send_before_reading-requires g c =
    let i = c.cycles.invariant in
    record {
      ready = record {
        faults = λ file. omega (arith, (i.flows.sent file).faults, can_fail _ _ c.requires.devices file);
        few = λ file. omega (arith, i.few_sent file, i.few);
      };
    }

pub returns-in_err-send_before_reading-clause-early : goal.returns-in_err-send_before_reading-clause-early
returns-in_err-send_before_reading-clause-early g c =
    let e = err_from_is_err_and c.from_residual.result c.from_residual.ensures.1 in
    let f = c.cycles.invariant.flows in
    let fails = c.in_err-send_before_reading.ensures.sends in
    let writers = writers_of _ _ _ _ fails in
    let a = source_of g.R1.Read.remaining c.cycles.primary in
    let b = source_of g.R2.Read.remaining c.cycles.secondary in
    rw (e.1, e.2) (stopped_between c.args.job.now c.cycles.job _ _ a b a.input b.input c.cycles.cycles c.cycles.most f.streams (stays_there a.input) (stays_there b.input) _ _ _
    (writers_count _ _ writers) (some_parts _ _ _ _ _ f.sent _ fails) (some_have _ _ _ _ _ f.sent _ fails) (λ file why read. absurd (writers_read _ writers file why read)))

pub returns-in_err-send_before_reading-clause-only : goal.returns-in_err-send_before_reading-clause-only
returns-in_err-send_before_reading-clause-only g c =
    let e = err_from_is_err_and c.from_residual.result c.from_residual.ensures.1 in
    rw (e.1, e.2) (some_of_run _ _ _ _ c.in_err-send_before_reading.ensures.sends)

pub returns-in_err-send_before_reading-clause-faults : goal.returns-in_err-send_before_reading-clause-faults
returns-in_err-send_before_reading-clause-faults g c =
    let e = err_from_is_err_and c.from_residual.result c.from_residual.ensures.1 in
    let i = c.cycles.invariant in
    rw (e.1, e.2) (some_faults _ _ _ _ _ _ _ _ _ _ Report c.in_err-send_before_reading.ensures.sends i.primary i.secondary (λ file. (i.flows.sent file).faults) (λ file. refl))

-- the cycle
pub next_cycle-requires : goal.next_cycle-requires
next_cycle-requires g c =
    let i = c.cycles.invariant in
    let rest = c.in_ok-send_before_reading.ensures.sends.rest in
    let job = c.send_before_reading.new.job in
    let ready = ready_still c.cycles.job job rest c.cycles.primary c.cycles.secondary i.ready in
    record {
      going = ready.going;
      needs = needs_still c.needs-need.result c.cycles.job job rest (record { primary = c.needs-need.ensures.primary; secondary = c.needs-need.ensures.secondary });
      primary = record { following = ready.after_primary; faults = omega (arith, i.primary, c.requires.devices.primary_faults) };
      secondary = record { following = ready.after_secondary; faults = omega (arith, i.secondary, c.requires.devices.secondary_faults) };
    }

-- a cycle that wasn't done
pub fault_after-requires-clause-ready : goal.fault_after-requires-clause-ready
fault_after-requires-clause-ready g c =
    let i = c.cycles.invariant in
    let out = c.in_ok-send_before_reading.ensures.sends.out in
    record {
      faults = λ file. omega (arith, (out file).faults, (i.flows.sent file).faults, can_fail _ _ c.requires.devices file);
      few = λ file. omega (arith, (out file).count, (out file).few, i.few_sent file, i.few);
    }

pub returns-in-Err-clause-early : goal.returns-in-Err-clause-early
returns-in-Err-clause-early g c =
    let i = c.cycles.invariant in
    let sends = c.in_ok-send_before_reading.ensures.sends in
    let a = source_of g.R1.Read.remaining c.cycles.primary in
    let b = source_of g.R2.Read.remaining c.cycles.secondary in
    let job = c.send_before_reading.new.job in
    let f = flow_sends c.args.job.now c.cycles.job _ _ a b c.cycles.cycles c.cycles.most _ _ i.flows job _ sends in
    let s = f.streams in
    let none = c.in-Err.ensures.none in
    let moved = moved_by g.R1.Read.remaining g.R2.Read.remaining job c.cycles.primary c.next_cycle.new.primary c.cycles.secondary c.next_cycle.new.secondary c.in-Err.fault none in
    let grows = c.next_cycle.ensures.grows in
    let lines = front_is job.output.print c.next_cycle.new.job.output.print grows.more.print c.waiting_in-waiting.result.print grows.print (c.waiting_in-waiting.ensures.print ∙ ap length c.output.ensures.print) in
    let records = front_is job.output.disk c.next_cycle.new.job.output.disk grows.more.disk c.waiting_in-waiting.result.disk grows.disk (c.waiting_in-waiting.ensures.disk ∙ ap length c.output.ensures.disk) in
    let stop = rw (lines, records) at (rw (c.output-in-Err.ensures.print, c.output-in-Err.ensures.disk) at c.fault_after.ensures.1) in
    stopped_between c.args.job.now job _ _ a b _ _ c.cycles.cycles c.cycles.most s moved.0 moved.1 _ _ _
    (stop_counts _ _ _ _ _ f.sent c.in-Err.fault _ _ stop)
    (stop_parts _ _ _ _ _ f.sent c.in-Err.fault _ _ stop)
    (stop_has _ _ _ _ _ f.sent c.in-Err.fault _ _ stop)
    (stop_needs _ _ _ _ _ f.sent g.R1.Read.remaining g.R2.Read.remaining job c.cycles.primary c.next_cycle.new.primary c.cycles.secondary c.next_cycle.new.secondary
    _ _ s.primary s.secondary (ready_still c.cycles.job job sends.rest c.cycles.primary c.cycles.secondary i.ready).limit_primary
    c.in-Err.fault _ _ stop none (none_waits job _ _ c.in-Err.fault c.in_ok-send_before_reading.ensures.ready c.in-Err.ensures.sure))

pub returns-in-Err-clause-only : goal.returns-in-Err-clause-only
returns-in-Err-clause-only g c = stop_of_run c.in-Err.fault _ _ _ _ _ c.fault_after.ensures.1

pub returns-in-Err-clause-faults : goal.returns-in-Err-clause-faults
returns-in-Err-clause-faults g c =
    let i = c.cycles.invariant in
    let streams = i.flows.streams in
    let out = c.in_ok-send_before_reading.ensures.sends.out in
    stop_faults g.R1.Read.remaining g.R2.Read.remaining c.cycles.primary c.next_cycle.new.primary c.cycles.secondary c.next_cycle.new.secondary _ _ streams.primary streams.secondary c.send_before_reading.new.job
    _ _ i.primary i.secondary refl refl c.in-Err.fault _ _ _ _ _ Report c.in-Err.ensures.none c.fault_after.ensures.1 (λ file. (out file).faults ∙ (i.flows.sent file).faults) (λ file. refl)

-- after a cycle
pub send_where_enough-requires : goal.send_where_enough-requires
send_where_enough-requires g c =
    let i = c.cycles.invariant in
    let out = c.in_ok-send_before_reading.ensures.sends.out in
    record {
      ready = record {
        faults = λ file. omega (arith, (out file).faults, (i.flows.sent file).faults, can_fail _ _ c.requires.devices file);
        few = λ file. omega (arith, (out file).count, (out file).few, i.few_sent file, i.few);
      };
      watching = i.watching;
    }

pub returns-in_err-send_where_enough-clause-early : goal.returns-in_err-send_where_enough-clause-early
returns-in_err-send_where_enough-clause-early g c =
    let e = err_from_is_err_and c.from_residual-in_err-send_where_enough.result c.from_residual-in_err-send_where_enough.ensures.1 in
    let sends = c.in_ok-send_before_reading.ensures.sends in
    let a = source_of g.R1.Read.remaining c.cycles.primary in
    let b = source_of g.R2.Read.remaining c.cycles.secondary in
    let job = c.send_before_reading.new.job in
    let f = flow_sends c.args.job.now c.cycles.job _ _ a b c.cycles.cycles c.cycles.most _ _ c.cycles.invariant.flows job _ sends in
    let s = f.streams in
    let a' = source_of g.R1.Read.remaining c.next_cycle.new.primary in
    let b' = source_of g.R2.Read.remaining c.next_cycle.new.secondary in
    let mid = c.next_cycle.new.job in
    let k = cycled c.args.job.now job _ _ a b c.cycles.cycles c.cycles.most _ _ f mid a' b'
    (takes_next g.R1.Read.remaining g.R2.Read.remaining job mid c.cycles.primary c.next_cycle.new.primary c.cycles.secondary c.next_cycle.new.secondary _
    (ready_still c.cycles.job job sends.rest c.cycles.primary c.cycles.secondary c.cycles.invariant.ready) c.in-Ok.ensures.cycle s.earlier s.left s.orderly (last_position s.out.lines) s.last) in
    let fails = c.in_err-send_where_enough.ensures.sends in
    rw (e.1, e.2) (stopped_after c.args.job.now job mid _ _ a b a' b' c.cycles.cycles c.cycles.most _ k.ending _ _ s k.takes
    (some_parts _ _ _ _ _ k.sent _ fails) (some_have _ _ _ _ _ k.sent _ fails) (writers_of _ _ _ _ fails))

pub returns-in_err-send_where_enough-clause-only : goal.returns-in_err-send_where_enough-clause-only
returns-in_err-send_where_enough-clause-only g c =
    let e = err_from_is_err_and c.from_residual-in_err-send_where_enough.result c.from_residual-in_err-send_where_enough.ensures.1 in
    rw (e.1, e.2) (some_of_run _ _ _ _ c.in_err-send_where_enough.ensures.sends)

pub returns-in_err-send_where_enough-clause-faults : goal.returns-in_err-send_where_enough-clause-faults
returns-in_err-send_where_enough-clause-faults g c =
    let e = err_from_is_err_and c.from_residual-in_err-send_where_enough.result c.from_residual-in_err-send_where_enough.ensures.1 in
    let i = c.cycles.invariant in
    let out = c.in_ok-send_before_reading.ensures.sends.out in
    let takes = c.in-Ok.ensures.cycle in
    rw (e.1, e.2) (some_faults _ _ _ _ _ _ _ _ _ _ Report c.in_err-send_where_enough.ensures.sends
    (faults_stay g.R1.Read.remaining _ _ _ _ takes.reads_primary ∙ i.primary) (faults_stay g.R2.Read.remaining _ _ _ _ takes.reads_secondary ∙ i.secondary)
    (λ file. (out file).faults ∙ (i.flows.sent file).faults) (λ file. refl))

pub returns-in-Some-clause-report : goal.returns-in-Some-clause-report
returns-in-Some-clause-report g c =
    let sends = c.in_ok-send_before_reading.ensures.sends in
    let a = source_of g.R1.Read.remaining c.cycles.primary in
    let b = source_of g.R2.Read.remaining c.cycles.secondary in
    let job = c.send_before_reading.new.job in
    let f = flow_sends c.args.job.now c.cycles.job _ _ a b c.cycles.cycles c.cycles.most _ _ c.cycles.invariant.flows job _ sends in
    let s = f.streams in
    let a' = source_of g.R1.Read.remaining c.next_cycle.new.primary in
    let b' = source_of g.R2.Read.remaining c.next_cycle.new.secondary in
    let mid = c.next_cycle.new.job in
    let takes = c.in-Ok.ensures.cycle in
    let k = cycled c.args.job.now job _ _ a b c.cycles.cycles c.cycles.most _ _ f mid a' b'
    (takes_next g.R1.Read.remaining g.R2.Read.remaining job mid c.cycles.primary c.next_cycle.new.primary c.cycles.secondary c.next_cycle.new.secondary _
    (ready_still c.cycles.job job sends.rest c.cycles.primary c.cycles.secondary c.cycles.invariant.ready) takes s.earlier s.left s.orderly (last_position s.out.lines) s.last) in
    let all = c.in_ok-send_where_enough.ensures in
    let empty = all.all (ap is_some c.in-Some.is) in
    let sent = λ (file : OutputFile). all_sent _ _ _ _ (goes_out _ _ _ _ (k.sent file) _ _ (all.sends.out file)) (ap (bytes_for file) empty ∙ none_for file) in
    let few = stays_bounded c.args.job.now job mid _ _ a b a' b' c.cycles.cycles c.cycles.most k.ending s k.takes c.cycles.invariant.bounded takes.cycle.bounded in
    let most = c.max-most.ensures ∙ ap (max c.cycles.most) c.steps.ensures in
    stream_reports c.args.job.now job mid _ _ a b a' b' c.cycles.cycles c.cycles.most c.max-most.result _ _ c.args.bound c.in-Some.ending c.running_place.result k.ending
    s k.takes (takes.cycle.stage ∙ ap ended_stage c.in-Some.is) most sent c.requires.bound (omega (arith, few, most, c.requires.bound))
    (c.running_place.ensures ∙ ap (λ (j : AtWork). running_place j.program j.config) all.sends.rest)

pub returns-in-Some-clause-faults : goal.returns-in-Some-clause-faults
returns-in-Some-clause-faults g c =
    let i = c.cycles.invariant in
    let takes = c.in-Ok.ensures.cycle in
    let out = c.in_ok-send_before_reading.ensures.sends.out in
    let last = c.in_ok-send_where_enough.ensures.sends.out in
    none_rises _ _ (faults_stay g.R1.Read.remaining _ _ _ _ takes.reads_primary ∙ i.primary) (faults_stay g.R2.Read.remaining _ _ _ _ takes.reads_secondary ∙ i.secondary)
    (λ file. (last file).faults ∙ (out file).faults ∙ (i.flows.sent file).faults)

pub cycles-preserved : goal.cycles-preserved
cycles-preserved g c =
    let i = c.cycles.invariant in
    let sends = c.in_ok-send_before_reading.ensures.sends in
    let a = source_of g.R1.Read.remaining c.cycles.primary in
    let b = source_of g.R2.Read.remaining c.cycles.secondary in
    let job = c.send_before_reading.new.job in
    let f = flow_sends c.args.job.now c.cycles.job _ _ a b c.cycles.cycles c.cycles.most _ _ i.flows job _ sends in
    let s = f.streams in
    let a' = source_of g.R1.Read.remaining c.next_cycle.new.primary in
    let b' = source_of g.R2.Read.remaining c.next_cycle.new.secondary in
    let mid = c.next_cycle.new.job in
    let takes = c.in-Ok.ensures.cycle in
    let ready = ready_still c.cycles.job job sends.rest c.cycles.primary c.cycles.secondary i.ready in
    let k = cycled c.args.job.now job _ _ a b c.cycles.cycles c.cycles.most _ _ f mid a' b'
    (takes_next g.R1.Read.remaining g.R2.Read.remaining job mid c.cycles.primary c.next_cycle.new.primary c.cycles.secondary c.next_cycle.new.secondary _
    ready takes s.earlier s.left s.orderly (last_position s.out.lines) s.last) in
    let stage = takes.cycle.stage ∙ ap ended_stage c.in_default.is in
    let most = c.max-most.ensures ∙ ap (max c.cycles.most) c.steps.ensures in
    let few = stays_bounded c.args.job.now job mid _ _ a b a' b' c.cycles.cycles c.cycles.most k.ending s k.takes i.bounded takes.cycle.bounded in
    let following = ready_after g.R1.Read.remaining g.R2.Read.remaining job mid c.cycles.primary c.next_cycle.new.primary c.cycles.secondary c.next_cycle.new.secondary _
    ready takes s.earlier s.left s.orderly (last_position s.out.lines) s.last stage in
    let all = c.in_ok-send_where_enough.ensures.sends in
    let next = c.send_where_enough.new.job in
    let on = flow_continues c.args.job.now job _ _ a b c.cycles.cycles c.cycles.most _ _ f mid a' b' k c.max-most.result (went k.ending (sym k.takes.does.stage ∙ stage)) most in
    let later = flow_sends c.args.job.now mid _ _ a' b' _ _ _ _ on next _ all in
    record {
      flows = later;
      ready = ready_still mid next all.rest c.next_cycle.new.primary c.next_cycle.new.secondary following;
      same_primary = c.in-Ok.ensures.same.0 ∙ i.same_primary;
      same_secondary = c.in-Ok.ensures.same.1 ∙ i.same_secondary;
      watching = c.in_ok-send_where_enough.ensures.watching;
      alone = λ none. c.in-Ok.ensures.alone (ap (λ (p : Object). p.secondary_length) s.program ∙ none) ∙ i.alone none;
      few = let one = few_given c.next_cycle.new.primary in let two = few_given c.next_cycle.new.secondary in let few = later.streams.few in omega (arith, one, two, few);
      few_sent = λ file. omega (arith, (sends.out file).count, (sends.out file).few, (all.out file).count, (all.out file).few, i.few_sent file);
      bounded = omega (arith, few, most);
      primary = faults_stay g.R1.Read.remaining _ _ _ _ takes.reads_primary ∙ i.primary;
      secondary = faults_stay g.R2.Read.remaining _ _ _ _ takes.reads_secondary ∙ i.secondary;
    }
