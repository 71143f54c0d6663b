use Rattle.std.proofs.Common.{refl, sym, subst, nat_cmp}
use Rattle.rpg_program.specs.Act.{act}
use Rattle.rpg_program.specs.Ended.{Ended}
use Rattle.rpg_program.specs.Ends.{Continues}
use Rattle.rpg_memory.specs.Doing.{DidData}
use Rattle.rpg_machine_operations.proofs.Named.{compare_named}
use Rattle.rpg_machine_operations.proofs.Rights.{names_like}
use Rattle.rpg_machine_operations.proofs.comparing.compare_entries.Goals as goal

pub show_order-requires : goal.show_order-requires
show_order-requires g c = record {
  factor1 = names_like c.args.memory.now.program.fields _ _ c.in_ok-factor1.factor1 _ c.in_ok-factor1.ensures.operand c.in_ok-factor1.ensures.named c.requires.factor1;
  factor2 = names_like c.args.memory.now.program.fields _ _ c.in_ok-factor1.factor1 _ c.in_ok-factor1.ensures.operand c.in_ok-factor2.ensures.named c.requires.factor2;
}

pub returns : goal.returns
unfolding act
returns g c =
    let is = compare_named c.args.memory.now c.args.factor1.now c.args.factor2.now c.args.shows c.in_ok-factor1.factor1 c.in_ok-factor2.factor2 c.in_ok-factor1.ensures.entry c.in_ok-factor2.ensures.entry in
    subst (λ (e : Ended nat_cmp). DidData e c.args.memory.now Continues c.show_order.new.memory) (sym is)
    (record { leaves = rw c.show_order.ensures refl; right = tt; rest = rw c.show_order.ensures refl })
