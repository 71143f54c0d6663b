use Rattle.std.proofs.Common.{ap, arith, length, [], ◌∙◌}
use Rattle.std.specs.Prelude.{sum_by}
use Rattle.rpg_card_index.specs.Totals.{constant_size}
use Rattle.rpg_cards.proofs.ItemLemmas.{constants_in-append, few_constants}
use Rattle.rpg_cards.specs.Constants.{constants_in, is_same}
use Rattle.rpg_cards.specs.Insertions.{insert_all}
use Rattle.rpg_faults_limits.proofs.StorageLemmas.{items_in_front}
use Rattle.rpg_faults_limits.proofs.storage.constants_in.Goals as goal

pub returns-clause-number : goal.returns-clause-number
returns-clause-number c =
    ap (λ t. t.number) c.constant_totals.ensures.value
    ∙ ap (λ l. length (insert_all is_same [] l)) (items_in_front constants_in constants_in-append c.args.source.now c.args.front.now c.args.count c.requires.front c.requires.count)

pub returns-clause-bytes : goal.returns-clause-bytes
returns-clause-bytes c =
    ap (λ t. t.bytes) c.constant_totals.ensures.value
    ∙ ap (λ l. sum_by constant_size (insert_all is_same [] l)) (items_in_front constants_in constants_in-append c.args.source.now c.args.front.now c.args.count c.requires.front c.requires.count)

pub returns-clause-few : goal.returns-clause-few
returns-clause-few c = let few = few_constants c.args.source.now in omega (arith, c.constant_totals.ensures.few, c.requires.few)

pub returns-clause-few_bytes : goal.returns-clause-few_bytes
returns-clause-few_bytes c = let few = few_constants c.args.source.now in omega (arith, c.constant_totals.ensures.few_bytes, c.requires.few)
