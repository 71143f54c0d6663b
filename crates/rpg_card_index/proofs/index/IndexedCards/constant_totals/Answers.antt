use Rattle.std.proofs.Common.{ap, arith, length, [], ◌∙◌}
use Rattle.rpg_card_index.proofs.TotalLemmas.{totals_within}
use Rattle.rpg_cards.specs.Constants.{constants_in, is_same}
use Rattle.rpg_card_index.specs.Totals.{constant_size}
use Rattle.rpg_card_index.proofs.index.IndexedCards.constant_totals.Goals as goal

pub returns-clause-few : goal.returns-clause-few
returns-clause-few c =
    let run = c.self.invariant.constants.running in
    let cards = c.self.inside.cards.now in
    let low = totals_within is_same constant_size [] (constants_in cards) c.args.count in
    let value = ap (λ t. t.number) (c.totals.ensures ∙ run.each c.args.count) in
    let all = ap (λ t. t.number) run.all in
    let few = run.few in
    let same = ap (λ cards. length (constants_in cards)) c.self.view_is in
    omega (arith, low.0)

pub returns-clause-few_bytes : goal.returns-clause-few_bytes
returns-clause-few_bytes c =
    let run = c.self.invariant.constants.running in
    let cards = c.self.inside.cards.now in
    let low = totals_within is_same constant_size [] (constants_in cards) c.args.count in
    let value = ap (λ t. t.bytes) (c.totals.ensures ∙ run.each c.args.count) in
    let all = ap (λ t. t.bytes) run.all in
    let few = run.few_bytes in
    let same = ap (λ cards. length (constants_in cards)) c.self.view_is in
    omega (arith, low.1)
