use Rattle.std.proofs.Common.{arith}
use Rattle.rpg_cli_trace.proofs.Entries.{value_in}
use Rattle.rpg_cli_trace.proofs.changes.number_at.Goals as goal

pub number-requires : goal.number-requires
number-requires g c =
    value_in c.rows.result.now c.args.memory.now.program _ c.args.field c.args.position c.form_at.result c.in_ok-form.form c.rows.ensures.same c.form_at.ensures c.in_ok-form.was c.in-Number.is (omega arith) (omega arith)
