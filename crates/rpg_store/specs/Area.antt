-- An area of bytes that has the entries of all fields in parts of it.
use Rattle.std.specs.Prelude.{◌≡◌, ◌≢◌, ℕ, zero, suc, ◌+◌, ◌-◌, ◌*◌, ◌≤◌, ◌⊎◌, List, [], ◌∷◌, ◌++◌, take, drop, length, replicate, slice_get, Option, None, Some}
use Rattle.rpg_decimal_words.specs.Zoned.{spelled_number}
use Rattle.rpg_program.specs.Forms.{size_of}
use Rattle.rpg_program.specs.Values.{Value, Number, Text}
use Rattle.rpg_program.specs.declared.form.FieldForm.{FieldForm}
use Rattle.rpg_program.specs.declared.form.Kind.{Kind}
use Rattle.rpg_program.specs.declared.form.Kind.TheVariants as kinds
use Rattle.rpg_store.specs.Written.{IsWritten}
use Rattle.rpg_store.specs.Slots.{slot_at, slot_start}
use Rattle.rpg_store.specs.declared.slot.Slot.{Slot}

-- a part of an area, with what it holds
pub record AreaPart : Type 0 where
  pub kind : Kind
  pub at : ℕ
  pub len : ℕ

-- this many characters 0
abbrev pub zeros : ℕ → List ℕ
zeros n = replicate n 48

-- this many bytes of the area, from a place on
abbrev pub bytes_at : List ℕ → ℕ → ℕ → List ℕ
bytes_at area at len = take len (drop at area)

-- the bytes of a part of the area
abbrev pub bytes_in : List ℕ → AreaPart → List ℕ
bytes_in area p = bytes_at area p.at p.len

-- the value of a text
abbrev pub text_value : Kind → List ℕ → Value
text_value kinds.Number text = Number (spelled_number text)
text_value kinds.Text text = Text text

-- the value of a part of the area
abbrev pub part_value : List ℕ → AreaPart → Value
part_value area p = text_value p.kind (bytes_in area p)

-- this many entries of a field, one after another
abbrev pub field_parts : Kind → ℕ → ℕ → ℕ → List AreaPart
field_parts k len at zero = []
field_parts k len at (suc n) = record { kind = k; at = at; len = len } ∷ field_parts k len (at + len) n

-- the parts of all entries, in the order of the fields and the entries of each
abbrev pub parts : List Slot → List AreaPart
parts [] = []
parts (r ∷ rs) = field_parts r.form.kind r.form.length r.first r.form.entries ++ parts rs

-- where the part of an entry begins, and how long it is
abbrev pub length_in : Option Slot → ℕ
length_in None = 0
length_in (Some r) = r.form.length

-- where the bytes of an entry begin
abbrev pub start : List Slot → ℕ × ℕ → ℕ
start slots entry = slot_start (slot_at slots entry.0) + (entry.1 - 1) * length_in (slot_at slots entry.0)

-- one precedes the other
abbrev pub AreApart : AreaPart → AreaPart → Type 0
AreApart a b = (a.at + a.len ≤ b.at) ⊎ (b.at + b.len ≤ a.at)

-- no part overlaps another, the numbers come before the texts, and each number is written
pub record IsArea (ps : List AreaPart) (area : List ℕ) : Type 0 where
  pub inside : (i : ℕ) (a : AreaPart) → slice_get ps i ≡ Some a → a.at + a.len ≤ length area
  pub apart : (i j : ℕ) (a b : AreaPart) → slice_get ps i ≡ Some a → slice_get ps j ≡ Some b → i ≢ j → AreApart a b
  pub numbers_first : (i j : ℕ) (a b : AreaPart) → slice_get ps i ≡ Some a → slice_get ps j ≡ Some b → a.kind ≡ kinds.Number → b.kind ≡ kinds.Text → a.at + a.len ≤ b.at
  pub digits : (i : ℕ) (a : AreaPart) → slice_get ps i ≡ Some a → a.kind ≡ kinds.Number → (1 ≤ a.len) × (a.len ≤ 15)
  pub numbers : (i : ℕ) (a : AreaPart) → slice_get ps i ≡ Some a → a.kind ≡ kinds.Number → IsWritten (bytes_in area a)

-- ---- the first area: numbers before texts

-- the bytes of a field's entries, if it holds numbers
abbrev pub number_bytes : Kind → ℕ → ℕ
number_bytes kinds.Number n = n
number_bytes kinds.Text n = 0

-- the bytes of a text; numbers have their own part of the area
abbrev pub text_bytes : Kind → ℕ → ℕ
text_bytes kinds.Number n = 0
text_bytes kinds.Text n = n

-- the bytes of all numbers, and of all texts
abbrev pub all_number_bytes : List FieldForm → ℕ
all_number_bytes [] = 0
all_number_bytes (f ∷ fs) = number_bytes f.kind (size_of f) + all_number_bytes fs

-- the bytes of the texts of these fields
abbrev pub all_text_bytes : List FieldForm → ℕ
all_text_bytes [] = 0
all_text_bytes (f ∷ fs) = text_bytes f.kind (size_of f) + all_text_bytes fs

-- one of two, by the kind of a value
abbrev pub by_kind : Kind → ℕ → ℕ → ℕ
by_kind kinds.Number a b = a
by_kind kinds.Text a b = b

-- the table of these fields, with numbers from one place on and texts from the other
abbrev pub area_slots : ℕ → ℕ → List FieldForm → List Slot
area_slots a b [] = []
area_slots a b (f ∷ fs) = record { form = f; first = by_kind f.kind a b; current = 1 } ∷ area_slots (a + number_bytes f.kind (size_of f)) (b + text_bytes f.kind (size_of f)) fs
