use Rattle.std.proofs.Common.{sym, ap, ◌∙◌}
use Rattle.rpg_card_index.proofs.IndexLemmas.{first_form_first}
use Rattle.rpg_card_index.specs.Index.{defined_first}
use Rattle.rpg_cards.specs.Names.{definitions, first_form, unless_given}
use Rattle.rpg_card_index.proofs.index.IndexedCards.form_of_name.Goals as goal

pub returns-in-None : goal.returns-in-None
returns-in-None c =
    let all = definitions c.args.self.now in
    c.defined_first.ensures ∙ ap defined_first c.first_definition.ensures ∙ sym (first_form_first c.args.name.now 0 all)
    ∙ ap (λ o. unless_given o (first_form c.args.name.now all)) c.in-None.ensures
