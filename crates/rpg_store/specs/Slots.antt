-- The table that finds an entry: where the first entry of each field is, and which entry of a table is current.
use Rattle.std.specs.Prelude.{◌≡◌, ℕ, zero, suc, slice_get, Option, None, Some, ◌+◌, ◌-◌, List, [], ◌∷◌, map as along, if◌then◌else◌}
use Rattle.std.specs.FinMap as map
use Rattle.std.specs.Ordering.{nat_cmp}
use Rattle.rpg_program.specs.declared.form.FieldForm.{FieldForm}
use Rattle.rpg_program.specs.Forms.{is_table}
use Rattle.rpg_store.specs.declared.slot.Slot.{Slot}

-- the forms of all fields
abbrev pub forms_of : List Slot → List FieldForm
forms_of slots = along (λ r. r.form) slots

-- tables with their current entries, in the order of the fields; fields are numbered from here on
abbrev pub currents_from : ℕ → List Slot → List (ℕ × ℕ)
currents_from field [] = []
currents_from field (r ∷ rs) = if is_table r.form.class then (field, r.current) ∷ currents_from (field + 1) rs else currents_from (field + 1) rs

-- the current entry of each field
unfoldable pub currents : List Slot → map.FinMap nat_cmp ℕ
currents slots = map.from_entries (currents_from 1 slots)

-- each field's entries follow those of the previous field; the first one's begin here
abbrev pub AreInOrder : ℕ → List Slot → Type 0
AreInOrder at [] = Unit {0}
AreInOrder at (r ∷ rs) = (r.first ≡ at) × AreInOrder (at + r.form.entries) rs

-- the slot of a field; the first field is 1
abbrev pub slot_at : List Slot → ℕ → Option Slot
slot_at slots zero = None
slot_at slots (suc k) = slice_get slots k

-- the number of a field's first entry among all entries
abbrev pub slot_start : Option Slot → ℕ
slot_start None = 0
slot_start (Some r) = r.first

-- the place of an entry among all entries, by the table
abbrev pub spot : List Slot → ℕ × ℕ → ℕ
spot slots entry = slot_start (slot_at slots entry.0) + (entry.1 - 1)

-- the table of these fields, with their first entries current; the first field begins at that place among all entries
abbrev pub slots_from : ℕ → List FieldForm → List Slot
slots_from at [] = []
slots_from at (f ∷ fs) = record { form = f; first = at; current = 1 } ∷ slots_from (at + f.entries) fs

-- how many entries the fields have
abbrev pub entries_count : List FieldForm → ℕ
entries_count [] = 0
entries_count (f ∷ fs) = f.entries + entries_count fs
