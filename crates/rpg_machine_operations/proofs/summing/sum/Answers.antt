use Rattle.std.proofs.Common.{◌≡◌, ◌≤◌, rules, to_z, of_z}
use Rattle.std.specs.Int.{w64, w128}
use Rattle.rpg_program.specs.World.{number_at}
use Rattle.rpg_machine_operations.proofs.Sums.{sum_next}
use Rattle.rpg_machine_operations.proofs.summing.sum.Goals as goal

pub entries-preserved : goal.entries-preserved
entries-preserved g c =
    let forms = c.args.memory.now.program.fields in
    let low : 1 ≤ c.entries.position = c.entries.auto.position in
    let next = sum_next forms (number_at c.args.memory.now.world.data c.args.array.entry.field) c.args.array.entry.field c.args.array.entry.position c.entries.position _ _
    c.is_kept.ensures.valid c.requires.value low c.entries.invariant.sum c.entries.invariant.small c.number.ensures.value c.number.ensures.fits in
    let read : to_z w64 (of_z w64 c.number.result) ≡ c.number.result = search rules in
    let back : to_z w128 (of_z w128 c.plus-total.result) ≡ c.plus-total.result = search rules in
    let is = rw read at c.plus-total.ensures in
    record { sum = rw (back, is) next.0; small = rw (back, is) next.1 }
