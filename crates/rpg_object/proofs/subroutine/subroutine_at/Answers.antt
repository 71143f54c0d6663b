use Rattle.std.proofs.Common.{◌≡◌, ◌≤◌, length, arith}
use Rattle.rpg_object_format.specs.Instructions.{instruction}
use Rattle.rpg_object.proofs.Tables.{count_read, table_read}
use Rattle.rpg_object.proofs.subroutine.subroutine_at.Goals as goal

pub returns-clause-few : goal.returns-clause-few
returns-clause-few c =
    let same : length c.in_ok-instructions.instructions.items ≡ c.in_ok-count.count = table_read instruction c.in_ok-count.count _ _ _ c.in_ok-instructions.ensures in
    let within : c.in_ok-count.count ≤ c.args.left = count_read c.args.left _ _ _ c.in_ok-count.ensures in
    omega (arith, c.ranges.left)
