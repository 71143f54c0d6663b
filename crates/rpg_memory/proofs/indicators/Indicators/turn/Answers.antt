use Rattle.std.proofs.Common.{cond, ap, ◌∙◌, arith}
use Rattle.std.specs.FinSet as sets
use Rattle.rpg_memory.proofs.MarkedLemmas.{marked-set}
use Rattle.rpg_memory.proofs.indicators.Indicators.turn.Goals as goal

pub returns : goal.returns
returns c =
    marked-set c.self.inside.on c.args.number c.args.is_on (omega arith)
    ∙ ap (λ s. cond c.args.is_on (sets.insert s c.args.number) (sets.remove s c.args.number)) c.self.view_is
