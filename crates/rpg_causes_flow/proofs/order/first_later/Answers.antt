use Rattle.std.proofs.Common.{ap, sym, ◌∙◌}
use Rattle.std.specs.Option.{option_map}
use Rattle.rpg_causes_flow.proofs.OrderLemmas.{none_above}
use Rattle.rpg_causes_flow.specs.Order.{first_later}
use Rattle.rpg_causes_flow.proofs.order.first_later.Goals as goal
use Rattle.rpg_causes_flow.specs.declared.flow.Later.{Later}
use Rattle.rpg_sheet_specs.specs.declared.calculation.ControlLevel.TheVariants as control
use Rattle.rpg_causes_flow.specs.declared.order.OrderCause.TheVariants.{Early}

pub returns-in-Subroutine : goal.returns-in-Subroutine
returns-in-Subroutine c = λ before rest is. sym (ap (λ own. first_later own before) c.in-Subroutine.is ∙ ap (option_map (λ (l : Later). Early control.Subroutine l.level l.card)) (none_above before))
