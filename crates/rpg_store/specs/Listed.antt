-- A store that lists its values.
use Rattle.std.specs.Prelude.{ℕ, ℤ, List, [], ◌∷◌, ◌++◌, take, drop, length, Some, slice_get, slice_set}
use Rattle.rpg_program.specs.Values.{Value, Number, Text, characters_of, number_of}
use Rattle.rpg_store.specs.Contents.{by_entry}
use Rattle.rpg_store.specs.Slots.{forms_of, spot}
use Rattle.rpg_store.specs.Store.{Values}
use Rattle.rpg_store.specs.declared.slot.Slot.{Slot}

-- a store whose values are a list
pub record Listed : Type 0 where
  pub slots : List Slot
  pub list : List Value

-- an entry, from its text and its number: a number has no text
abbrev pub one_value : List ℕ → ℤ → Value
one_value [] n = Number n
one_value (c ∷ t) n = Text (c ∷ t)

-- the values of entries by their texts and their numbers
abbrev pub paired_values : List (List ℕ) → List ℤ → List Value
paired_values [] ns = []
paired_values (t ∷ ts) [] = []
paired_values (t ∷ ts) (n ∷ ns) = one_value t n ∷ paired_values ts ns

-- the number of an entry, 0 if it is a text
abbrev pub number_part : Value → ℤ
number_part v = number_of (Some v)

-- the text of an entry, empty if it is a number
abbrev pub text_part : Value → List ℕ
text_part v = characters_of (Some v)

-- the values of such a store, by field and entry
abbrev pub listed_contents : Listed → Values
listed_contents s = by_entry (forms_of s.slots) s.list

-- a text overwritten from its start with bytes, as far as it goes
abbrev pub laid_at_front : List ℕ → List ℕ → List ℕ
laid_at_front text w = take (length text) (w ++ drop (length w) text)

-- the text of an entry overwritten with these bytes
abbrev pub listed_with_text : Listed → ℕ → ℕ → List ℕ → Listed
listed_with_text s field position w = record s { list = slice_set s.list (spot s.slots (field, position)) (Text (laid_at_front (characters_of (slice_get s.list (spot s.slots (field, position)))) w)) }
