use Rattle.rpg_compile.proofs.Kept.{keeps_rules}
use Rattle.rpg_compile.proofs.Names.{fields_filled}
use Rattle.rpg_compile.proofs.first_values.faultless_sources_fill_their_fields.Goals as goal

pub returns : goal.returns
returns c = λ none.
    let laws = c.texts_spell_by_places.ensures in
    fields_filled c.args.cards.now (keeps_rules c.args.cards.now none) c.cards_are_in_range.ensures (λ text n spells. ((laws.spells text n).0 ((laws.read text n).0 spells)).fits)
