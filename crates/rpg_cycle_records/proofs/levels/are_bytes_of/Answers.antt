use Rattle.std.proofs.Common.{◌∙◌}
use Rattle.rpg_cycle_records.proofs.Lasting.{plainly, unlike}
use Rattle.rpg_cycle_records.proofs.levels.are_bytes_of.Goals as goal

pub returns-else-bytes-columns : goal.returns-else-bytes-columns
returns-else-bytes-columns c = unlike c.args.bytes.now c.columns_of-columns.result.now c.args.text.now c.args.field.now c.columns_of-columns.ensures c.if-bytes-columns.false

pub returns-else-field : goal.returns-else-field
returns-else-field c = c.eq.ensures ∙ plainly c.args.bytes.now c.columns_of-columns.result.now c.args.text.now c.args.field.now c.columns_of-columns.ensures c.if-field.false
