use Rattle.std.proofs.Common.{◌∙◌, sym, ◌-◌, ◌≤◌, arith}
use Rattle.rpg_program.specs.Act.{order_at}
use Rattle.rpg_program.proofs.Searches.{last_here, last_earlier, last_none}
use Rattle.rpg_machine_operations.proofs.searching.last_one.Goals as goal
use Rattle.rpg_program.specs.Forms.{form_at}

pub returns-then-stands : goal.returns-then-stands
returns-then-stands g c =
    let low : c.args.from ≤ c.args.last - c.positions.back = omega arith in
    sym (last_here (order_at (form_at c.args.memory.now.program.fields) c.args.memory.now.world.data c.args.factor1.entry c.args.factor2.entry) c.args.order c.args.from (c.args.last - c.positions.back) low (omega arith) (sym c.stands.ensures ∙ c.if-stands.true)) ∙ c.positions.invariant

pub positions-preserved : goal.positions-preserved
positions-preserved g c =
    let low : c.args.from ≤ c.args.last - c.positions.back = omega arith in
    sym (last_earlier (order_at (form_at c.args.memory.now.program.fields) c.args.memory.now.world.data c.args.factor1.entry c.args.factor2.entry) c.args.order c.args.from c.args.last c.positions.back low (omega arith) (sym c.stands.ensures ∙ c.if-stands.false)) ∙ c.positions.invariant

pub returns : goal.returns
returns g c = sym (last_none (order_at (form_at c.args.memory.now.program.fields) c.args.memory.now.world.data c.args.factor1.entry c.args.factor2.entry) c.args.order c.args.from (c.args.last - c.positions.back) (omega arith)) ∙ c.positions.invariant
