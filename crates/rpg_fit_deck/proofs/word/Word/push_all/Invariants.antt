use Rattle.std.proofs.Common.{◌≡◌, ◌-◌, ◌++◌, take}
use Rattle.rpg_fit_deck.specs.Words.{room_of, word_text}
use Rattle.rpg_fit_deck.proofs.word.Word.push_all.Given as goal

abbrev pub invariant-loop-character : goal.invariant-loop-character
invariant-loop-character l =
    (word_text l.self ≡ word_text l.initial.self ++ take (room_of l.initial.self) (take l.character-index l.text))
    × (room_of l.self ≡ room_of l.initial.self - l.character-index)
