-- A deck with changes of its cards: the one that reads the lines of a layout.
use Rattle.std.specs.Prelude.{ℕ, ◌+◌, ◌==◌, List, [], ◌∷◌, ◌++◌, drop, find, length, Option, Some, None}
use Rattle.std.specs.List.{flat_map, join_with_byte, slice_split}
use Rattle.std.specs.Str.Lines.{strip_carriage_return}
use Rattle.rpg_text.specs.Lines.{is_line_feed}
use Rattle.rpg_records.specs.Seen.{LayoutSeen, NumberSeen, digits_seen}
use Rattle.rpg_records.specs.Sizes.{counted}
use Rattle.rpg_record_decks.specs.Edits.{number_columns, with_columns}
use Rattle.rpg_record_decks.specs.declared.fitted.CardChange.{CardChange}
use Rattle.rpg_record_decks.specs.declared.fitted.DigitColumns.{DigitColumns}

-- the columns of the fields' digits, which follow this one in sequence
abbrev pub digit_columns_after : ℕ → List NumberSeen → List DigitColumns
digit_columns_after end [] = []
digit_columns_after end (f ∷ fs) = record { card = f.card; first = counted (end + 1); last = counted (end + digits_seen f) } ∷ digit_columns_after (counted (end + digits_seen f)) fs

-- those of all types
abbrev pub all_digit_columns : LayoutSeen → List DigitColumns
all_digit_columns layout = flat_map (λ t. digit_columns_after layout.length t.numbers) layout.types

-- on a file's card the length of the longest line
abbrev pub length_change : ℕ → ℕ → CardChange
length_change card columns = record { card = card; first = 24; text = number_columns columns }

-- on a field's I card a blank in 43, and the columns of the digits
abbrev pub digits_change : DigitColumns → CardChange
digits_change d = record { card = d.card; first = 43; text = 32 ∷ number_columns d.first ++ number_columns d.last }

-- a line with a change; a carriage return at its end stays
abbrev pub with_change : CardChange → List ℕ → List ℕ
with_change change line = with_columns change.first change.text (strip_carriage_return line) ++ drop (length (strip_carriage_return line)) line

-- the same, if there is a change
abbrev pub changed : Option CardChange → List ℕ → List ℕ
changed None line = line
changed (Some change) line = with_change change line

-- lines that are numbered from n on, each with the first change of its card
abbrev pub fitted_from : List CardChange → ℕ → List (List ℕ) → List (List ℕ)
fitted_from changes n [] = []
fitted_from changes n (line ∷ more) = changed (find (λ c. c.card == n) changes) line ∷ fitted_from changes (n + 1) more

-- the source, byte for byte except for these changes
abbrev pub fitted : List CardChange → List ℕ → List ℕ
fitted changes source = join_with_byte 10 (fitted_from changes 1 (slice_split is_line_feed source))
