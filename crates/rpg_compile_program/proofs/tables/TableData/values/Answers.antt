use Rattle.std.proofs.Common.{◌≡◌, ◌∙◌, ◌+◌, ◌++◌, Global, Some, None, Vec, ap, drop, map, sym}
use Rattle.rpg_cards.specs.Cards.{data_on}
use Rattle.rpg_cards.specs.Groups.{data_role, followers}
use Rattle.rpg_program.specs.Values.{held}
use Rattle.rpg_program.specs.declared.value.Value.{Value}
use Rattle.rpg_compile_program.proofs.TableLemmas.{at_card, values_in}
use Rattle.rpg_faults_data.proofs.DeckLemmas.{texts-card, texts-other}
use Rattle.rpg_sheet_specs.specs.declared.data.DataSpec.TheVariants as deck
use Rattle.rpg_compile_program.proofs.tables.TableData.values.Goals as goal
use Rattle.rpg_compile_program.proofs.tables.TableData.values.Goals.{in-None, in-Some-Card+in_ok-add_entries-in-Some-Card}

pub loop-card-preserved : goal.loop-card-preserved
loop-card-preserved c = elim c.match-data.branch [
  | in-None w ↦
      let table = c.args.self in
      let later = followers data_role (drop (c.loop-card.card-index + 1) table.deck.now) in
      let on : data_on c.card-item.result.spec ≡ None = cc in
      ap (λ (v : Vec Value Global). map held v.items ++ values_in table c.match-data.left later) w.values-is
      ∙ ap (λ n. map held c.loop-card.values.items ++ values_in table n later) w.left-is
      ∙ ap (λ texts. map held c.loop-card.values.items ++ values_in table c.loop-card.left texts) (sym (texts-other table.deck.now c.loop-card.card-index c.card-item.result c.loop-card-test.true c.card-item.is on))
      ∙ c.loop-card.invariant
  | in-Some-Card+in_ok-add_entries-in-Some-Card w ↦
      let table = c.args.self in
      let text = w.as_slice.result.now in
      let later = followers data_role (drop (c.loop-card.card-index + 1) table.deck.now) in
      let on : data_on c.card-item.result.spec ≡ Some (deck.Card text) = cc in
      ap (λ (v : Vec Value Global). map held v.items ++ values_in table c.match-data.left later) w.values-is
      ∙ at_card table c.loop-card.left w.min-number.result c.match-data.left text later _ (map held c.loop-card.values.items) (map held w.add_entries.new.values.items) _
      w.min-number.ensures w.left-is (texts-card table.deck.now c.loop-card.card-index c.card-item.result text c.loop-card-test.true c.card-item.is on)
      w.in_ok-add_entries-in-Some-Card.ensures c.loop-card.invariant
]
