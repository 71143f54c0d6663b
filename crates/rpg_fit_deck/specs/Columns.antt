-- The contents of a card's columns, which are counted from 1.
use Rattle.std.specs.Prelude.{ℕ, ◌-◌, Bool, ◌==◌, ◌||◌, ◌&&◌, nat_le, List, [], ◌∷◌, slice_index_or, slice_range, if◌then◌else◌}
use Rattle.rpg_text.specs.Texts.{all_blank, is_blank, trimmed}
use Rattle.rpg_fit_deck.specs.declared.card.Card.{Card}

-- the character in a column; a blank if there is no such column
unfoldable pub column_of : Card → ℕ → ℕ
column_of card column = slice_index_or card.columns (column - 1) 32

-- the columns from the first to the last
unfoldable pub characters_in_columns : Card → ℕ → ℕ → List ℕ
characters_in_columns card first last = if nat_le (first - 1) last && nat_le last 80 then slice_range card.columns (first - 1) last else []

-- a text without the blanks in front of it
abbrev pub without_blanks : List ℕ → List ℕ
without_blanks [] = []
without_blanks (c ∷ text) = if is_blank c then without_blanks text else c ∷ text

-- the text in columns, trimmed of blanks
unfoldable pub value_in_columns : Card → ℕ → ℕ → List ℕ
value_in_columns card first last = without_blanks (trimmed (characters_in_columns card first last))

-- the form: column 6
unfoldable pub form_letter : Card → ℕ
form_letter card = column_of card 6

-- a comment, or nothing at all
unfoldable pub is_comment : Card → Bool
is_comment card = column_of card 7 == 42 || all_blank card.columns
