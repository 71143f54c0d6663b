use Rattle.std.proofs.Common.{◌<◌, ◌∙◌, length, sym, arith}
use Rattle.std.proofs.lemmas.List.{length-set}
use Rattle.rpg_cycle_records.specs.Keeping.{seen_levels}
use Rattle.rpg_cycle_records.proofs.Joining.{broken_stays, kept_more, broken_more, renewed_stays, still_low}
use Rattle.rpg_cycle_records.proofs.levels.renew_all.Goals as goal

pub loop-i-preserved : goal.loop-i-preserved
loop-i-preserved c =
    let low : c.loop-i.i < length c.loop-i.levels = omega arith in
    record {
      broken = broken_more c.args.fields.now c.args.text.now c.loop-i.levels (seen_levels c.args.levels.now) c.loop-i.i c.loop-i.broken c.higher-broken.result c.index-levels-i.result c.in_ok-is_broken.is_broken low
          c.loop-i.invariant.kept c.in_ok-is_broken.ensures.differs c.loop-i.invariant.broken c.higher-broken.ensures;
      low = still_low c.loop-i.i c.loop-i.broken c.higher-broken.result c.in_ok-is_broken.is_broken c.loop-i.invariant.low c.higher-broken.ensures;
      kept = kept_more c.args.fields.now c.args.text.now c.loop-i.levels (seen_levels c.args.levels.now) c.loop-i.i c.index-levels-i.result c.renew_if_there.new.last low
          c.loop-i.invariant.kept c.in_ok-is_broken.ensures.kept;
      nine = length-set c.loop-i.levels c.loop-i.i c.renew_if_there.new.last ∙ c.loop-i.invariant.nine;
    }

pub returns-clause-kept : goal.returns-clause-kept
returns-clause-kept c =
    let last = c.min.ensures in
    let end = c.from-i-end.ensures in
    let none = c.highest_level.ensures in
    c.loop-i.invariant.kept
    ∙ sym (renewed_stays c.args.fields.now c.args.text.now (seen_levels c.args.levels.now) 9 c.loop-i.i (omega (arith, c.loop-i-test.false, c.loop-i.auto.i-end, last, end))
    (λ k more most. none k (omega (arith, c.loop-i-test.false, c.loop-i.auto.i-end, last, end, more, most))))

pub returns-clause-broken : goal.returns-clause-broken
returns-clause-broken c =
    let last = c.min.ensures in
    let end = c.from-i-end.ensures in
    let none = c.highest_level.ensures in
    c.loop-i.invariant.broken
    ∙ sym (broken_stays c.args.fields.now c.args.text.now (seen_levels c.args.levels.now) 9 c.loop-i.i (omega (arith, c.loop-i-test.false, c.loop-i.auto.i-end, last, end))
    (λ k more most. none k (omega (arith, c.loop-i-test.false, c.loop-i.auto.i-end, last, end, more, most))))
