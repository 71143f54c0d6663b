use Rattle.std.proofs.Common.{ap, ◌∙◌, arith}
use Rattle.std.specs.FinMap as maps
use Rattle.rpg_machine.proofs.ByNumber.{cells-unset}
use Rattle.rpg_machine.proofs.cells.Cells.unset.Goals as goal

pub returns : goal.returns
returns c =
    cells-unset c.self.inside.at c.args.subroutine (omega arith)
    ∙ ap (λ s. maps.remove s c.args.subroutine) c.self.view_is
