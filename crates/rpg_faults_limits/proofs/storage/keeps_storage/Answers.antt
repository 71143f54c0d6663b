use Rattle.std.proofs.Common.{arith}
use Rattle.rpg_cards.proofs.ItemLemmas.{few_constants}
use Rattle.rpg_faults_limits.proofs.storage.keeps_storage.Goals as goal

pub overflow_add-names : goal.overflow_add-names
overflow_add-names c = let few = few_constants c.args.source.now in omega (arith, c.all_names-names.ensures.few, c.all_constants-constants.ensures.few, c.requires)

pub overflow_add-result : goal.overflow_add-result
overflow_add-result c = let few = few_constants c.args.source.now in omega (arith, c.all_names-names.ensures.few_bytes, c.all_constants-constants.ensures.few_bytes, c.requires)
