use Rattle.std.proofs.Common.{◌≡◌, length, rules}
use Rattle.rpg_program.specs.Object.{subroutine_row}
use Rattle.rpg_object.proofs.SubroutineLaws.{subroutine_written}
use Rattle.rpg_object.proofs.subroutine.put_subroutine.Goals as goal

pub returns : goal.returns
returns c =
    let count : c.len-count.result ≡ length c.args.subroutine.now.instructions.items = search rules in
    subroutine_written (subroutine_row c.args.subroutine.now) c.args.out.now.items _ _ (rw count at c.in_ok-put_numbers.ensures) (rw c.deref.ensures.value at c.in_ok-put_instructions.ensures)
