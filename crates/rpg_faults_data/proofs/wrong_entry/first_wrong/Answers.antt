use denote.Bor.{Bor}
use Rattle.std.proofs.Common.{◌≡◌, ◌∙◌, List, Option, Some, None, ap, arith, drop, length, refl, subst, sym, ℕ, ◌+◌}
use Rattle.std.specs.Prelude.{IfSome, option_copied}
use Rattle.rpg_cards.specs.Cards.{data_on}
use Rattle.rpg_faults_data.proofs.EntryWalk.{at_data, at_other, found_on_card, kept, not_on_card}
use Rattle.rpg_faults_data.specs.Causes.{data_card, deck_cards}
use Rattle.rpg_faults_data.proofs.wrong_entry.first_wrong.Goals as goal
use Rattle.rpg_faults_data.proofs.wrong_entry.first_wrong.Goals.{in-None, in-Some-Card+else-is_some}
use Rattle.rpg_sheet_specs.specs.declared.data.DataSpec.TheVariants as deck

pub loop-card-init : goal.loop-card-init
loop-card-init c = record { same = refl; size = tt; one = omega arith; number = omega arith }

pub wrong_on-found-requires-clause-few : goal.wrong_on-found-requires-clause-few
wrong_on-found-requires-clause-few c =
    let number = c.loop-card.invariant.number in
    let one = c.loop-card.invariant.one in
    let few = c.requires.few in
    let count = c.min-count.ensures in
    omega arith

pub returns-then-is_some : goal.returns-then-is_some
returns-then-is_some c =
    let lay = c.args.layout in
    let text = c.as_slice-text.result.now in
    let i = c.loop-card.card-index in
    let card = c.card-item.result in
    let on : data_on card.spec ≡ Some (deck.Card text) = cc in
    found_on_card c.args.table.now c.loop-card.first (option_copied c.loop-card.before) lay.width lay.from lay.length c.loop-card.left lay.per_card c.min-count.result
    (data_card card.number text) (deck_cards (drop (i + 1) c.args.deck.now)) _ _ c.wrong_on-found.result c.min-count.ensures
    (at_data c.args.deck.now i card c.loop-card-test.true c.card-item.is text on) c.loop-card.invariant.same c.wrong_on-found.ensures
    (sym c.is_some.ensures ∙ c.if-is_some.true)

pub loop-card-preserved : goal.loop-card-preserved
loop-card-preserved c = elim c.match-data.branch [
  | in-None w ↦
      let lay = c.args.layout in
      let i = c.loop-card.card-index in
      let card = c.card-item.result in
      let on : data_on card.spec ≡ None = cc in
      let number = c.loop-card.invariant.number in
      let one = c.loop-card.invariant.one in
      let first = w.first-is in
      let left = w.left-is in
      record {
        same = kept c.args.table.now c.loop-card.first (option_copied c.loop-card.before) lay.width lay.from lay.length c.loop-card.left lay.per_card
            (deck_cards (drop (i + 1) c.args.deck.now)) _ _ c.match-data.first c.match-data.left (option_copied c.match-data.before)
            (at_other c.args.deck.now i card c.loop-card-test.true c.card-item.is on) c.loop-card.invariant.same w.first-is w.left-is (ap option_copied w.before-is);
        size = subst (λ (o : Option (Bor (List ℕ))). IfSome o (λ b. length b.now ≡ lay.length)) (sym w.before-is) c.loop-card.invariant.size;
        one = omega arith;
        number = omega arith;
      }
  | in-Some-Card+else-is_some w ↦
      let lay = c.args.layout in
      let text = w.as_slice-text.result.now in
      let i = c.loop-card.card-index in
      let card = c.card-item.result in
      let on : data_on card.spec ≡ Some (deck.Card text) = cc in
      let number = c.loop-card.invariant.number in
      let one = c.loop-card.invariant.one in
      let first = w.first-is in
      let left = w.left-is in
      let count = w.min-count.ensures in
      record {
        same = not_on_card c.args.table.now c.loop-card.first (option_copied c.loop-card.before) lay.width lay.from lay.length c.loop-card.left lay.per_card w.min-count.result
            (data_card card.number text) (deck_cards (drop (i + 1) c.args.deck.now)) _ _ w.wrong_on-found.result w.min-count.ensures
            (at_data c.args.deck.now i card c.loop-card-test.true c.card-item.is text on) c.loop-card.invariant.same w.wrong_on-found.ensures
            c.match-data.first c.match-data.left (option_copied c.match-data.before) (sym w.is_some.ensures ∙ w.if-is_some.false) w.first-is w.left-is
            (ap option_copied w.before-is ∙ w.last_entry-before.ensures.last);
        size = subst (λ (o : Option (Bor (List ℕ))). IfSome o (λ b. length b.now ≡ lay.length)) (sym w.before-is) w.last_entry-before.ensures.length;
        one = omega arith;
        number = omega arith;
      }
]
