-- Entries that take values one after another.
use Rattle.std.specs.Prelude.{◌≡◌, ℕ, ◌+◌, ◌<◌, ◌≤◌, ◌^◌, unsigned_abs, List, [], ◌∷◌, length, slice_get, Option, None, Some}
use Rattle.std.specs.FinMap as map
use Rattle.rpg_program.specs.Forms.{form_at, length_of}
use Rattle.rpg_program.specs.Values.{Value, Number, Text}
use Rattle.rpg_program.specs.declared.form.FieldForm.{FieldForm}
use Rattle.rpg_store.specs.Store.{Values}

-- the positions of a field take values, from that one on
abbrev pub with_positions : Values → ℕ → ℕ → List Value → Values
with_positions m field position [] = m
with_positions m field position (v ∷ vs) = with_positions (map.insert m (field, position) v) field (position + 1) vs

-- all positions of the fields take values, from that field on
abbrev pub with_field_values : Values → ℕ → List (List Value) → Values
with_field_values m field [] = m
with_field_values m field (vs ∷ values) = with_field_values (with_positions m field 1 vs) (field + 1) values

-- there is a value that this one may replace: a number with this many digits, or a text of this length
abbrev pub IsLike : Option Value → ℕ → Value → Type 0
IsLike None len v = ⊥
IsLike (Some (Number m)) len (Number n) = unsigned_abs n < 10 ^ len
IsLike (Some (Number m)) len (Text text) = ⊥
IsLike (Some (Text old)) len (Number n) = ⊥
IsLike (Some (Text old)) len (Text text) = length text ≡ length old

-- the entry may take that value
abbrev pub MayTake : List FieldForm → Values → ℕ → ℕ → Value → Type 0
MayTake forms values field position v = IsLike (map.get values (field, position)) (length_of (form_at forms field)) v

-- so may the positions of a field, from 1
pub record MayTakeAll (forms : List FieldForm) (values : Values) (field : ℕ) (vs : List Value) : Type 0 where
  pub few : length vs ≤ 9999
  pub each : (n : ℕ) (v : Value) → slice_get vs n ≡ Some v → MayTake forms values field (n + 1) v

-- so may all fields, from 1
abbrev pub MayTakeFields : List FieldForm → Values → List (List Value) → Type 0
MayTakeFields forms values vss = (k : ℕ) (vs : List Value) → slice_get vss k ≡ Some vs → MayTakeAll forms values (k + 1) vs
