use Rattle.std.proofs.Common.{sym, ap, ◌∙◌}
use Rattle.std.specs.FinSet as sets
use Rattle.rpg_memory.proofs.MarkedLemmas.{contains-marked}
use Rattle.rpg_memory.proofs.indicators.Indicators.is_on.Goals as goal

pub returns : goal.returns
returns c = sym (contains-marked c.self.inside.on c.args.number) ∙ ap (λ s. sets.contains s c.args.number) c.self.view_is
