use Rattle.std.proofs.Common.{◌≡◌, nat_cmp, rules, subst, sym, to_z, of_z}
use Rattle.std.specs.Int.{w64}
use Rattle.rpg_program.specs.Ended.{Ended}
use Rattle.rpg_program.specs.Ends.{Continues}
use Rattle.rpg_memory.specs.Doing.{DidData}
use Rattle.rpg_machine_operations.proofs.Named.{cross_named, cross_stored}
use Rattle.rpg_machine_operations.proofs.summing.cross_foot.Goals as goal

pub returns : goal.returns
returns g c =
    let n = c.summed-n.result in
    let back : to_z w64 (of_z w64 n) ≡ n = search rules in
    let done = cross_stored c.args.memory.now c.store.new.memory c.args.half c.args.shows c.in_ok-factor2.factor2 c.in_ok-to.to n c.summed-n.ensures.value (rw back at c.store.ensures) in
    let is = cross_named c.args.memory.now c.args.half c.args.factor2.now c.args.to.now c.args.shows c.in_ok-factor2.factor2 c.in_ok-to.to c.in_ok-factor2.ensures.entry c.in_ok-to.ensures.entry in
    subst (λ (e : Ended nat_cmp). DidData e c.args.memory.now Continues c.store.new.memory) (sym is) done
