-- F1: a name that is used but that no card defines, before or after.
use Rattle.std.specs.Prelude.{ℕ, List, Bool, false, ◌||◌, Option, None, Some}
use Rattle.std.specs.List.{list_any}
use Rattle.std.specs.Option.{option_and_then, option_map_or}
use Rattle.rpg_cards.specs.Names.{form_of_name, is_missing}
use Rattle.rpg_cards.specs.declared.spec_card.SpecCard.{SpecCard}
use Rattle.rpg_sheet_specs.specs.declared.entry.Entry.{Entry}
use Rattle.rpg_sheet_specs.specs.declared.entry.EntryIndex.{EntryIndex}
use Rattle.rpg_sheet_specs.specs.declared.entry.EntryIndex.TheVariants as index
use Rattle.rpg_faults_operands.specs.Operands.{Operand, operands_on}

-- a literal index names no field
abbrev pub name_in_index : EntryIndex → Option (List ℕ)
name_in_index (index.Literal n) = None
name_in_index (index.Name x) = Some x

-- the field that indexes an entry, if a field does
abbrev pub index_name : Entry → Option (List ℕ)
index_name e = option_and_then name_in_index e.index

-- a name that no card defines
abbrev pub is_undefined : List SpecCard → List ℕ → Bool
is_undefined cards name = is_missing (form_of_name name cards)

-- the field, or that of its index
abbrev pub names_nothing : List SpecCard → Operand → Bool
names_nothing cards o = is_undefined cards o.field.name || option_map_or (is_undefined cards) (index_name o.field) false

-- F1: an operand on the card has a name that no card defines
abbrev pub lacks_name : List SpecCard → SpecCard → List SpecCard → Bool
lacks_name cards c after = list_any (names_nothing cards) (operands_on c after)
