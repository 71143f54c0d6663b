use Rattle.std.proofs.Common.{ap, arith, length, ◌∙◌}
use Rattle.std.specs.Prelude.{sum_by}
use Rattle.rpg_card_index.specs.Totals.{definition_bytes}
use Rattle.rpg_cards.proofs.ItemLemmas.{definitions-append, few_definitions}
use Rattle.rpg_cards.specs.Names.{definitions, given_names, same_name}
use Rattle.rpg_cards.specs.Insertions.{insert_all}
use Rattle.rpg_faults_limits.proofs.StorageLemmas.{items_in_front}
use Rattle.rpg_faults_limits.proofs.storage.names_in.Goals as goal

pub returns-clause-number : goal.returns-clause-number
returns-clause-number c =
    ap (λ t. t.number) c.name_totals.ensures.value
    ∙ ap (λ l. length (insert_all same_name given_names l)) (items_in_front definitions definitions-append c.args.source.now c.args.front.now c.args.count c.requires.front c.requires.count)

pub returns-clause-bytes : goal.returns-clause-bytes
returns-clause-bytes c =
    ap (λ t. t.bytes) c.name_totals.ensures.value
    ∙ ap (λ l. sum_by definition_bytes (insert_all same_name given_names l)) (items_in_front definitions definitions-append c.args.source.now c.args.front.now c.args.count c.requires.front c.requires.count)

pub returns-clause-few : goal.returns-clause-few
returns-clause-few c = let few = few_definitions c.args.source.now in omega (arith, c.name_totals.ensures.few, c.requires.few)
