-- A store in one area of bytes.
use Rattle.std.specs.Prelude.{ℕ, List, map, take, drop, ◌++◌, length}
use Rattle.rpg_store.specs.Area.{part_value, parts, start}
use Rattle.rpg_store.specs.Contents.{by_entry}
use Rattle.rpg_store.specs.Slots.{forms_of}
use Rattle.rpg_store.specs.Store.{Values}
use Rattle.rpg_store.specs.declared.slot.Slot.{Slot}

-- a store whose values are bytes of one area
pub record Flat : Type 0 where
  pub slots : List Slot
  pub area : List ℕ

-- the values of such a store, by field and entry
abbrev pub flat_contents : Flat → Values
flat_contents s = by_entry (forms_of s.slots) (map (part_value s.area) (parts s.slots))

-- bytes from there on, as far as the area goes
abbrev pub written_at : List ℕ → ℕ → List ℕ → List ℕ
written_at area at w =
    let all = take at area ++ (w ++ drop (length w) (drop at area)) in
    take (length area) (all ++ drop (length all) area)

-- these bytes over the text of an entry
abbrev pub flat_with_text : Flat → ℕ → ℕ → List ℕ → Flat
flat_with_text s field position w = record s { area = written_at s.area (start s.slots (field, position)) w }
