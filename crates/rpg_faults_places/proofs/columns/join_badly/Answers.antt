use Rattle.std.proofs.Common.{◌≡◌, ◌∙◌, ap, false, not, sym}
use Rattle.std.specs.Option.{option_map_or}
use Rattle.rpg_cards.specs.Cards.{input_on}
use Rattle.rpg_faults_places.specs.Places.{joins_badly}
use Rattle.rpg_faults_places.proofs.JoinedLemmas.{card_alone}
use Rattle.rpg_faults_places.proofs.columns.join_badly.Goals as goal
use Rattle.rpg_faults_places.proofs.columns.join_badly.Goals.{then-is_none, else-is_none}

pub returns-else-has_level : goal.returns-else-has_level
returns-else-has_level c = λ before was.
    let alone : option_map_or (joins_badly before c.args.after.now) (input_on c.args.card.now.spec) false ≡ false =
    elim c.if-is_none.branch [
      | then-is_none w ↦ let e = sym w.value-is ∙ c.if-has_level.false in absurd cc
      | else-is_none w ↦
          card_alone before c.args.after.now (input_on c.args.card.now.spec) c.record_type.result c.record_type.ensures (ap not (c.is_none.ensures ∙ ap not w.if-is_none.false))
          (sym w.has_level.ensures ∙ sym w.value-is ∙ c.if-has_level.false)
    ] in
    c.if-has_level.false ∙ sym alone
