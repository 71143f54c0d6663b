use Rattle.std.proofs.Common.{◌∙◌}
use Rattle.rpg_cycle_records.proofs.Valuing.{joined_so_far}
use Rattle.rpg_cycle_records.proofs.matching.join_down.Goals as goal

pub loop-i-preserved : goal.loop-i-preserved
loop-i-preserved c =
    joined_so_far c.args.fields.now c.args.text.now c.loop-i.bytes.items c.join.new.bytes.items c.loop-i.i c.loop-i-test.true c.in_ok-join.ensures ∙ c.loop-i.invariant
