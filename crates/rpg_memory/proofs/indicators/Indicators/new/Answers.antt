use Rattle.std.proofs.Common.{refl}
use Rattle.rpg_memory.proofs.MarkedLemmas.{marked_none}
use Rattle.rpg_memory.proofs.indicators.Indicators.new.Goals as goal

pub returns : goal.returns
returns c = marked_none _ refl
