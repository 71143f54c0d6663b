use Rattle.std.proofs.Common.{◌+◌, ◌≤◌, max, ℕ, ap, sym, ◌∙◌, subst, arith}
use Rattle.std.specs.Option.{option_map}
use Rattle.rpg_program.specs.declared.input.InputFile.TheVariants.{Primary, Secondary}
use Rattle.rpg_cycle.proofs.Courses.{IsUnderWay, begins, ended_so, fewer_left, next_is, one_more, rest_is, still_low}
use Rattle.rpg_cycle.specs.RunAnswers.{records_in}
use Rattle.rpg_cycle.specs.Runs.{Records}
use Rattle.rpg_cycle.specs.Stages.{has_failed, is_going, stage_of}
use Rattle.rpg_cycle.specs.declared.runs.Summary.{Summary}
use Rattle.rpg_cycle.proofs.runs.run_on.Goals as goal

both_low : (m n k : ℕ) → m ≤ k → n ≤ k → max m n ≤ k
both_low m n k h g = omega (arith, h, g)

pub loop-progress-init : goal.loop-progress-init
loop-progress-init g c = record {
  going = c.requires.going;
  under_way = begins c.args.job.now (records_in c.args.primary.now c.args.secondary.now) c.requires.first c.requires.files c.requires.top;
  low = omega arith;
}

pub loop-progress-preserved : goal.loop-progress-preserved
loop-progress-preserved g c =
    let old = c.args.job.now in
    let all = records_in c.args.primary.now c.args.secondary.now in
    let mid = c.loop-progress.job in
    let new = c.cycle_on.new.self in
    let rest = records_in c.loop-progress.primary.now c.loop-progress.secondary.now in
    let then = records_in c.split_needed.result.1.now c.split_needed-in-loop-progress.result.1.now in
    let going = c.loop-progress.invariant.going in
    let a = option_map (λ t. t.now) c.split_needed.result.0 in
    let b = option_map (λ t. t.now) c.split_needed-in-loop-progress.result.0 in
    let first = next_is mid Primary c.needs-need.result.primary rest.primary a going c.needs-need.ensures.primary c.split_needed.ensures.next in
    let second = next_is mid Secondary c.needs-need.result.secondary rest.secondary b going c.needs-need.ensures.secondary c.split_needed-in-loop-progress.ensures.next in
    let left = rest_is mid c.needs-need.result.primary c.needs-need.result.secondary rest then going c.needs-need.ensures.primary c.needs-need.ensures.secondary c.split_needed.ensures.rest
    c.split_needed-in-loop-progress.ensures.rest in
    let on = ap stage_of (sym c.in-Going.is) ∙ c.in_ok-progress.ensures.cycled.stage_after in
    let cycled = c.in_ok-progress.ensures.cycled.going going in
    record {
      going = ap is_going (sym on);
      under_way = subst (λ (r : Records). IsUnderWay old all new r (c.loop-progress.cycles + 1) c.max-most.result) (sym left)
          (one_more old mid new all rest a b c.loop-progress.cycles c.loop-progress.most c.max-most.result c.loop-progress.invariant.under_way first second cycled on
          (c.max-most.ensures ∙ ap (max c.loop-progress.most) c.steps.ensures));
      low = omega (
        arith,
        c.loop-progress.invariant.low,
        c.max-most.ensures,
        c.steps.ensures,
        still_low old mid new all rest a b c.loop-progress.cycles c.loop-progress.most c.loop-progress.invariant.under_way cycled (c.in_ok-progress.ensures.cycled.bound (ap has_failed (sym on))),
      );
    }

pub loop-progress-smaller : goal.loop-progress-smaller
loop-progress-smaller g c =
    let mid = c.loop-progress.job in
    let rest = records_in c.loop-progress.primary.now c.loop-progress.secondary.now in
    let then = records_in c.split_needed.result.1.now c.split_needed-in-loop-progress.result.1.now in
    let going = c.loop-progress.invariant.going in
    let a = option_map (λ t. t.now) c.split_needed.result.0 in
    let b = option_map (λ t. t.now) c.split_needed-in-loop-progress.result.0 in
    fewer_left c.args.job.now mid c.cycle_on.new.self (records_in c.args.primary.now c.args.secondary.now) rest then a b c.loop-progress.cycles c.loop-progress.most c.loop-progress.invariant.under_way
    (next_is mid Primary c.needs-need.result.primary rest.primary a going c.needs-need.ensures.primary c.split_needed.ensures.next)
    (next_is mid Secondary c.needs-need.result.secondary rest.secondary b going c.needs-need.ensures.secondary c.split_needed-in-loop-progress.ensures.next)
    (rest_is mid c.needs-need.result.primary c.needs-need.result.secondary rest then going c.needs-need.ensures.primary c.needs-need.ensures.secondary c.split_needed.ensures.rest
    c.split_needed-in-loop-progress.ensures.rest)
    (c.in_ok-progress.ensures.cycled.going going) (ap stage_of (sym c.in-Going.is) ∙ c.in_ok-progress.ensures.cycled.stage_after)

pub returns-in-Ended : goal.returns-in-Ended
returns-in-Ended g c =
    let old = c.args.job.now in
    let mid = c.loop-progress.job in
    let new = c.cycle_on.new.self in
    let all = records_in c.args.primary.now c.args.secondary.now in
    let rest = records_in c.loop-progress.primary.now c.loop-progress.secondary.now in
    let going = c.loop-progress.invariant.going in
    let under_way = c.loop-progress.invariant.under_way in
    let a = option_map (λ t. t.now) c.split_needed.result.0 in
    let b = option_map (λ t. t.now) c.split_needed-in-loop-progress.result.0 in
    let cycled = c.in_ok-progress.ensures.cycled.going going in
    let ended = ap stage_of (sym c.in-Ended.is) ∙ c.in_ok-progress.ensures.cycled.stage_after in
    ended_so old mid new all rest a b c.loop-progress.cycles c.loop-progress.most c.in-Ended.ending _ under_way
    (next_is mid Primary c.needs-need.result.primary rest.primary a going c.needs-need.ensures.primary c.split_needed.ensures.next)
    (next_is mid Secondary c.needs-need.result.secondary rest.secondary b going c.needs-need.ensures.secondary c.split_needed-in-loop-progress.ensures.next)
    cycled ended
    (ap (λ (n : ℕ). let s : Summary = record { ending = c.in-Ended.ending; cycles = c.loop-progress.cycles + 1; most = n } in s) (c.max-most.ensures ∙ ap (max c.loop-progress.most) c.steps.ensures))
    (both_low c.loop-progress.most new.config.steps _ c.loop-progress.invariant.low
    (still_low old mid new all rest a b c.loop-progress.cycles c.loop-progress.most under_way cycled (c.in_ok-progress.ensures.cycled.bound (ap has_failed (sym ended)))))
