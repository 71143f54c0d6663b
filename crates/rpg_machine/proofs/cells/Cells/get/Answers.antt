use Rattle.std.proofs.Common.{sym, ap, ◌∙◌}
use Rattle.std.specs.FinMap as maps
use Rattle.rpg_machine.proofs.ByNumber.{get-cells}
use Rattle.rpg_machine.proofs.cells.Cells.get.Goals as goal

pub returns : goal.returns
returns c = sym (get-cells c.self.inside.at c.args.subroutine) ∙ ap (λ s. maps.get s c.args.subroutine) c.self.view_is
