use Rattle.std.proofs.Common.{arith}
use Rattle.rpg_cycle_records.proofs.Joining.{none_above}
use Rattle.rpg_cycle_records.proofs.levels.highest_level.Goals as goal

-- src/levels.rt:186:1
pub returns : goal.returns
returns c = λ k above. none_above c.args.fields.now k (λ i d h. let low = c.loop-field.invariant i d (omega (arith, h, c.loop-field-test.false)) in omega (arith, low, above))
