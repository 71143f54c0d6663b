use Rattle.std.proofs.Common.{◌≡◌, ◌∙◌, ◌+◌, arith, refl, sym}
use Rattle.rpg_faults_data.proofs.DeckLemmas.{with_deck, with_other, with_taken}
use Rattle.rpg_faults_data.proofs.decks.Decks.with.Goals as goal

pub returns-then-expects_data : goal.returns-then-expects_data
returns-then-expects_data c = λ cards was.
    with_taken cards c.args.before.now c.args.card.now c.args.self c.after_next.result _ c.unwrap_or.result c.after_next.ensures.first c.unwrap_or.ensures refl
    (sym c.expects_data.ensures ∙ c.if-expects_data.true) was

pub returns-then-begins_deck : goal.returns-then-begins_deck
returns-then-begins_deck c = λ cards was.
    let few = was.few in
    let short = c.requires in
    let sum = c.saturating_add.ensures in
    let more : c.saturating_add.result ≡ c.args.self.begun + 1 = omega arith in
    with_deck cards c.args.before.now c.args.card.now c.args.self c.saturating_add.result (sym c.expects_data.ensures ∙ c.if-expects_data.false)
    (sym c.begins_deck.ensures.value ∙ c.if-begins_deck.true) more was

pub returns-else-begins_deck : goal.returns-else-begins_deck
returns-else-begins_deck c = λ cards was.
    with_other cards c.args.before.now c.args.card.now c.args.self (sym c.expects_data.ensures ∙ c.if-expects_data.false) (sym c.begins_deck.ensures.value ∙ c.if-begins_deck.false) was
