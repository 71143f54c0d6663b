use Rattle.std.proofs.Common.{arith}
use Rattle.rpg_cards.proofs.ItemLemmas.{few_definitions}
use Rattle.rpg_faults_limits.proofs.storage.all_names.Goals as goal

pub returns-clause-few : goal.returns-clause-few
returns-clause-few c = let few = few_definitions c.args.source.now in omega (arith, c.all_names.ensures.few, c.requires)

pub returns-clause-few_bytes : goal.returns-clause-few_bytes
returns-clause-few_bytes c = let few = few_definitions c.args.source.now in omega (arith, c.all_names.ensures.few_bytes, c.requires)
