-- Short texts.
use Rattle.std.specs.Prelude.{ℕ, ◌-◌, List, ◌++◌, take}
use Rattle.rpg_fit_deck.specs.declared.word.Word.{Word}

-- the characters of a word
unfoldable pub word_text : Word → List ℕ
word_text word = take word.length word.characters

-- how many more characters a word has room for
abbrev pub room_of : Word → ℕ
room_of word = 10 - word.length

-- the characters of a word, and then as much of a text as it has room for
abbrev pub word_with_text : Word → List ℕ → List ℕ
word_with_text word text = word_text word ++ take (room_of word) text

-- as much of a text as a word has room for
abbrev pub cut : List ℕ → List ℕ
cut text = take 10 text
