use Rattle.std.proofs.Common.{ap, ◌∙◌, arith}
use Rattle.std.specs.FinMap as maps
use Rattle.rpg_machine.proofs.ByNumber.{cells-set}
use Rattle.rpg_machine.proofs.cells.Cells.set.Goals as goal

pub returns : goal.returns
returns c =
    cells-set c.self.inside.at c.args.subroutine c.args.place (omega arith)
    ∙ ap (λ s. maps.insert s c.args.subroutine c.args.place) c.self.view_is
