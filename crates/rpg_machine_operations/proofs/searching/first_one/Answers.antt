use Rattle.std.proofs.Common.{◌∙◌, sym, arith}
use Rattle.rpg_program.specs.Act.{order_at}
use Rattle.rpg_program.proofs.Searches.{first_here, first_later, first_none}
use Rattle.rpg_machine_operations.proofs.searching.first_one.Goals as goal
use Rattle.rpg_program.specs.Forms.{form_at}

pub returns-then-stands : goal.returns-then-stands
returns-then-stands g c = sym (first_here (order_at (form_at c.args.memory.now.program.fields) c.args.memory.now.world.data c.args.factor1.entry c.args.factor2.entry) c.args.order c.positions.position c.args.last (omega arith) (sym c.stands.ensures ∙ c.if-stands.true)) ∙ c.positions.invariant

pub positions-preserved : goal.positions-preserved
positions-preserved g c = sym (first_later (order_at (form_at c.args.memory.now.program.fields) c.args.memory.now.world.data c.args.factor1.entry c.args.factor2.entry) c.args.order c.positions.position c.args.last (omega arith) (sym c.stands.ensures ∙ c.if-stands.false)) ∙ c.positions.invariant

pub returns : goal.returns
returns g c = sym (first_none (order_at (form_at c.args.memory.now.program.fields) c.args.memory.now.world.data c.args.factor1.entry c.args.factor2.entry) c.args.order c.positions.position c.args.last (omega arith)) ∙ c.positions.invariant
