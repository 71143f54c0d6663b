-- What judging cards returns: their index if they have no fault, otherwise the first fault.
use Rattle.std.specs.Prelude.{List, Result, Ok, Err}
use Rattle.rpg_card_index.specs.Index.{IsIndexOf}
use Rattle.rpg_card_index.specs.declared.index.CardIndex.{CardIndex}
use Rattle.rpg_cards.specs.declared.spec_card.SpecCard.{SpecCard}
use Rattle.rpg_faults.specs.Faults.{Faultless, IsLeastFault}
use Rattle.rpg_faults.specs.declared.fault.Fault.{Fault}

abbrev pub IsJudged : List SpecCard → Result CardIndex Fault → Type 0
IsJudged cards (Ok index) = Faultless cards × IsIndexOf index cards
IsJudged cards (Err fault) = IsLeastFault cards fault
