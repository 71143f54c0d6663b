use Rattle.std.proofs.Common.{ap, ◌∙◌}
use Rattle.rpg_program.specs.Forms.{form_at}
use Rattle.rpg_program.specs.Weights.{instruction_weight}
use Rattle.rpg_verify.specs.Paths.{costs_from}
use Rattle.rpg_verify.proofs.bound.costs_at.Goals as goal

pub returns : goal.returns
returns c = c.in_ok-costs.ensures ∙ ap (λ e. costs_from (instruction_weight (form_at c.args.rows.now.fields.items) e) c.args.first c.args.code.now) c.requires.exceptions
