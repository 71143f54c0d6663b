use Rattle.std.proofs.Common.{refl}
use Rattle.rpg_machine.proofs.ByNumber.{none_set}
use Rattle.rpg_machine.proofs.cells.Cells.new.Goals as goal

pub returns : goal.returns
returns c = none_set _ refl
