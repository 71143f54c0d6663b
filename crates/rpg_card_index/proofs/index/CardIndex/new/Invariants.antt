use Rattle.std.proofs.Common.{take}
use Rattle.rpg_card_index.specs.Index.{IsConstantIndex, IsNameIndex}
use Rattle.rpg_cards.specs.Constants.{constants_in}
use Rattle.rpg_cards.specs.Names.{definitions}
use Rattle.rpg_card_index.proofs.index.CardIndex.new.Given as goal

abbrev pub invariant-loop-card : goal.invariant-loop-card
invariant-loop-card l = record {
  names : IsNameIndex (definitions (take l.card-index l.cards)) l.names;
  constants : IsConstantIndex (constants_in (take l.card-index l.cards)) l.constants;
}
