-- Where the digits of packed and binary fields end in a line, and their O cards.
use Rattle.std.specs.Prelude.{ℕ, ◌+◌, ◌==◌, List, [], ◌∷◌, ◌++◌, Bool, ◌&&◌, Option, Some, None, if◌then◌else◌}
use Rattle.rpg_records.specs.Fields.{is_same_form}
use Rattle.rpg_records.specs.Sizes.{counted, field_digits}
use Rattle.rpg_records.specs.declared.layout.NumberField.{NumberField}
use Rattle.rpg_record_decks.specs.Edits.{number_columns}
use Rattle.rpg_record_decks.specs.declared.fitted.CardChange.{CardChange}

-- two fields have the same bytes
abbrev pub is_same : NumberField → NumberField → Bool
is_same f g = f.first == g.first && f.last == g.last && is_same_form f.form g.form

-- The last column of a field's digits, where those of these fields follow one another after a column. Fields with the same bytes have
-- the same digits.
abbrev pub digits_end : ℕ → List NumberField → NumberField → Option ℕ
digits_end end [] f = None
digits_end end (g ∷ gs) f = if is_same g f then Some (counted (end + field_digits g)) else digits_end (counted (end + field_digits g)) gs f

-- on a field's O card the last column of its digits, and a blank in 44
abbrev pub end_change : ℕ → ℕ → CardChange
end_change card end = record { card = card; first = 40; text = number_columns end ++ 32 ∷ [] }

-- that change, if the field has digits
abbrev pub change_to : NumberField → Option ℕ → List CardChange
change_to f None = []
change_to f (Some end) = end_change f.card end ∷ []

-- the changes of a line's O cards, where its records have this length
abbrev pub line_changes : ℕ → List NumberField → List NumberField → List CardChange
line_changes length numbers [] = []
line_changes length numbers (f ∷ fs) = change_to f (digits_end length numbers f) ++ line_changes length numbers fs
