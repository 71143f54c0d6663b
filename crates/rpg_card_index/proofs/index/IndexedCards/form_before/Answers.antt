use Rattle.std.proofs.Common.{take, sym, ap, ◌∙◌}
use Rattle.rpg_card_index.proofs.IndexLemmas.{first_form_first}
use Rattle.rpg_card_index.specs.Index.{defined_first}
use Rattle.rpg_cards.specs.Names.{definitions, first_form, unless_given}
use Rattle.rpg_card_index.proofs.index.IndexedCards.form_before.Goals as goal

pub returns-in-None : goal.returns-in-None
returns-in-None c =
    let front = take c.args.place (definitions c.args.self.now) in
    c.defined_first.ensures ∙ ap defined_first c.first_before.ensures ∙ sym (first_form_first c.args.name.now 0 front)
    ∙ ap (λ o. unless_given o (first_form c.args.name.now front)) c.in-None.ensures
