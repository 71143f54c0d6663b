use Rattle.std.proofs.Common.{ap, arith, length, ◌∙◌}
use Rattle.rpg_card_index.proofs.TotalLemmas.{totals_within}
use Rattle.rpg_cards.specs.Names.{definitions, given_names, same_name}
use Rattle.rpg_card_index.specs.Totals.{definition_bytes}
use Rattle.rpg_card_index.proofs.index.IndexedCards.name_totals.Goals as goal

pub returns-clause-few : goal.returns-clause-few
returns-clause-few c =
    let run = c.self.invariant.names.running in
    let cards = c.self.inside.cards.now in
    let low = totals_within same_name definition_bytes given_names (definitions cards) c.args.count in
    let value = ap (λ t. t.number) (c.totals.ensures ∙ run.each c.args.count) in
    let all = ap (λ t. t.number) run.all in
    let few = run.few in
    let same = ap (λ cards. length (definitions cards)) c.self.view_is in
    omega (arith, low.0)

pub returns-clause-few_bytes : goal.returns-clause-few_bytes
returns-clause-few_bytes c =
    let run = c.self.invariant.names.running in
    let cards = c.self.inside.cards.now in
    let low = totals_within same_name definition_bytes given_names (definitions cards) c.args.count in
    let value = ap (λ t. t.bytes) (c.totals.ensures ∙ run.each c.args.count) in
    let all = ap (λ t. t.bytes) run.all in
    let few = run.few_bytes in
    let same = ap (λ cards. length (definitions cards)) c.self.view_is in
    omega (arith, low.1)
