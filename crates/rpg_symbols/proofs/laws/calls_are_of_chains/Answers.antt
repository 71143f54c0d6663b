use Rattle.rpg_symbols.proofs.Chains.{of_chains}
use Rattle.rpg_symbols.proofs.laws.calls_are_of_chains.Goals as goal

pub returns : goal.returns
returns c = of_chains
