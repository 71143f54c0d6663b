-- The characters of text constants, which are never written.
use Rattle.std.specs.Prelude.{ℕ, zero, suc, List, [], Option, None, Some, slice_get, if◌then◌else◌}
use Rattle.rpg_program.specs.Forms.{form_at, is_text_constant}
use Rattle.rpg_program.specs.Values.{Value, characters_of}
use Rattle.rpg_program.specs.Object.{Object}

-- the first values of a field; fields are numbered from 1
abbrev pub values_at : List (List Value) → ℕ → Option (List Value)
values_at values zero = None
values_at values (suc n) = slice_get values n

-- the value of the first entry
abbrev pub first_value : Option (List Value) → Option Value
first_value None = None
first_value (Some vs) = slice_get vs 0

-- the characters of a field that is a text constant, none for any other field
unfoldable pub word_at : Object → ℕ → List ℕ
word_at p field = if is_text_constant (form_at p.fields field) then characters_of (first_value (values_at p.values field)) else []
