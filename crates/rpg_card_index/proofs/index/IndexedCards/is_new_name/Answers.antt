use Rattle.std.proofs.Common.{not, ap, ◌∙◌}
use Rattle.rpg_card_index.proofs.IndexLemmas.{new_name}
use Rattle.rpg_card_index.proofs.index.IndexedCards.is_new_name.Goals as goal

pub returns-then-is_none : goal.returns-then-is_none
returns-then-is_none c =
    new_name c.args.name.now c.given_form.result c.first_before.result _ _ c.given_form.ensures (c.is_none.ensures ∙ ap not c.if-is_none.true) c.first_before.ensures c.is_none-then-is_none.ensures
