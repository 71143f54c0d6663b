use Rattle.rpg_meaning.proofs.Calls.Sources.{has_chains}
use Rattle.rpg_meaning.proofs.call_laws.sources_have_chains.Goals as goal

pub returns : goal.returns
returns c = has_chains
