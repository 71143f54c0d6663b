-- F6: limits that are exceeded, at the card that puts a count or a sum over one.
use Rattle.std.specs.Prelude.{ℕ, ◌+◌, ◌==◌, Bool, true, false, not, ◌&&◌, ◌||◌, nat_le, nat_lt, List, [], ◌∷◌, ◌++◌, length, sum_by, count_by, fold, Option, is_some}
use Rattle.std.specs.Option.{option_map_or}
use Rattle.rpg_card_index.specs.Totals.{constant_size, definition_bytes}
use Rattle.rpg_cards.specs.Calculations.{calculation_ending, calculations_before}
use Rattle.rpg_cards.specs.Labels.{begins_subroutine, begun_count}
use Rattle.rpg_cards.specs.Cards.{calculation_on, extension_on, is_output_field}
use Rattle.rpg_cards.specs.Constants.{constants}
use Rattle.rpg_cards.specs.Groups.{Group, group_count, input_role, open_group, output_role}
use Rattle.rpg_cards.specs.Names.{names}
use Rattle.rpg_cards.specs.declared.spec_card.SpecCard.{SpecCard}
use Rattle.rpg_sheet_specs.specs.Three.{filled_count}
use Rattle.rpg_sheet_specs.specs.declared.extension.ExtensionSpec.{ExtensionSpec}
use Rattle.rpg_sheet_specs.specs.declared.input.InputSpec.{InputSpec}
use Rattle.rpg_sheet_specs.specs.declared.input.InputSpec.TheVariants as input
use Rattle.rpg_sheet_specs.specs.declared.input.RecordType.{RecordType}
use Rattle.rpg_sheet_specs.specs.declared.output.OutputRecord.{OutputRecord}
use Rattle.rpg_sheet_specs.specs.declared.output.OutputSpec.{OutputSpec}
use Rattle.rpg_sheet_specs.specs.declared.output.OutputSpec.TheVariants as output
use Rattle.rpg_text.specs.Texts.{is_between}

-- a count is within its limit before a card, and over it with the card
abbrev pub crosses : (List SpecCard → ℕ) → ℕ → List SpecCard → SpecCard → Bool
crosses measure limit before c = nat_le (measure before) limit && nat_lt limit (measure (before ++ c ∷ []))

-- a measure of the open group: 0 if there is none
abbrev pub in_open : {H F : Type 0} → (Group H F → ℕ) → Option (Group H F) → ℕ
in_open measure g = option_map_or measure g 0

-- ---- record types

-- the codes of an AND card
abbrev pub and_code_count : InputSpec → ℕ
and_code_count (input.Type t) = 0
and_code_count (input.And codes) = filled_count codes
and_code_count (input.Field f) = 0

-- an I card with a field
abbrev pub is_input_field_card : InputSpec → Bool
is_input_field_card (input.Type t) = false
is_input_field_card (input.And codes) = false
is_input_field_card (input.Field f) = true

-- an I card whose field has a control level
abbrev pub is_level_field : InputSpec → Bool
is_level_field (input.Type t) = false
is_level_field (input.And codes) = false
is_level_field (input.Field f) = is_some f.level

-- the codes of a record type, with those of its AND cards
abbrev pub code_count : Group RecordType InputSpec → ℕ
code_count g = filled_count g.heading.codes + sum_by and_code_count g.followers

-- the control fields of a record type
abbrev pub level_count : Group RecordType InputSpec → ℕ
level_count g = count_by is_level_field g.followers

-- the fields of a record type
abbrev pub field_count : Group RecordType InputSpec → ℕ
field_count g = count_by is_input_field_card g.followers

-- for the open type
abbrev pub of_type : (Group RecordType InputSpec → ℕ) → List SpecCard → ℕ
of_type measure cards = in_open measure (open_group input_role cards)

-- 200 types of 100 codes, 100 levels and 500 fields
abbrev pub passes_on_types : List SpecCard → SpecCard → Bool
passes_on_types before c =
    crosses (group_count input_role) 200 before c
    || crosses (of_type code_count) 100 before c
    || crosses (of_type level_count) 100 before c
    || crosses (of_type field_count) 500 before c

-- ---- lines

-- an OR card of a line
abbrev pub is_or_line : OutputSpec → Bool
is_or_line (output.Or t) = true
is_or_line _ = false

-- the conditions of the last alternative, with one more card
abbrev pub conditions_with : ℕ → OutputSpec → ℕ
conditions_with n (output.And t) = n + filled_count t
conditions_with n (output.Or t) = filled_count t
conditions_with n _ = n

-- the conditions of the last alternative of a line
abbrev pub condition_count : Group OutputRecord OutputSpec → ℕ
condition_count g = fold conditions_with (filled_count g.heading.conditions) g.followers

-- the alternatives of a line: one, and one for each OR card
abbrev pub alternative_count : Group OutputRecord OutputSpec → ℕ
alternative_count g = 1 + count_by is_or_line g.followers

-- the fields of a line
abbrev pub output_field_count : Group OutputRecord OutputSpec → ℕ
output_field_count g = count_by is_output_field g.followers

-- for the open line
abbrev pub of_line : (Group OutputRecord OutputSpec → ℕ) → List SpecCard → ℕ
of_line measure cards = in_open measure (open_group output_role cards)

-- 1,000 lines of 50 alternatives with 60 conditions each, and 200 fields
abbrev pub passes_on_lines : List SpecCard → SpecCard → Bool
passes_on_lines before c =
    crosses (group_count output_role) 1000 before c
    || crosses (of_line alternative_count) 50 before c
    || crosses (of_line condition_count) 60 before c
    || crosses (of_line output_field_count) 200 before c

-- ---- calculations

-- the C cards
abbrev pub calculation_count : List SpecCard → ℕ
calculation_count cards = count_by (λ c. is_some (calculation_on c.spec)) cards

-- the calculation that ends on the card is a BEGSR of an SR card, and 100 come before it
abbrev pub passes_subroutines : List SpecCard → SpecCard → List SpecCard → Bool
passes_subroutines before c after =
    begun_count (calculations_before before (c ∷ after)) == 100
    && option_map_or begins_subroutine (calculation_ending before c after) false

-- 1,000 calculation cards, 100 subroutines
abbrev pub passes_on_calculations : List SpecCard → SpecCard → List SpecCard → Bool
passes_on_calculations before c after = crosses calculation_count 1000 before c || passes_subroutines before c after

-- ---- names, and the bytes of names and constants: a name without a form takes none

-- the names that every program has, and those that the cards define
abbrev pub name_count : List SpecCard → ℕ
name_count cards = length (names cards)

-- the bytes of all names
abbrev pub name_bytes : List SpecCard → ℕ
name_bytes cards = sum_by definition_bytes (names cards)

-- the bytes of all constants
abbrev pub constant_bytes : List SpecCard → ℕ
constant_bytes cards = sum_by constant_size (constants cards)

-- fields are the names of all cards, then the constants: here those of the first cards
abbrev pub fields_up_to : List SpecCard → List SpecCard → ℕ
fields_up_to cards front = name_count cards + length (constants front)

-- the bytes of all names, and of the constants of the first cards
abbrev pub bytes_up_to : List SpecCard → List SpecCard → ℕ
bytes_up_to cards front = name_bytes cards + constant_bytes front

-- 4,000 fields, 65,535 bytes of storage; the names alone keep both limits
abbrev pub passes_storage : List SpecCard → List SpecCard → SpecCard → Bool
passes_storage cards before c =
    crosses name_count 4000 before c
    || crosses name_bytes 65535 before c
    || crosses (bytes_up_to cards) 65535 before c
    || crosses (fields_up_to cards) 4000 before c

-- ---- 1 to 9,999 entries

-- an E card with a number of entries out of range
abbrev pub bad_entries_of : ExtensionSpec → Bool
bad_entries_of e = not (is_between 1 9999 e.entries)

-- likewise for a card, if it is an E card
abbrev pub bad_entries : SpecCard → Bool
bad_entries c = option_map_or bad_entries_of (extension_on c.spec) false

-- ---- all of them

-- F6: the card exceeds one of the limits
abbrev pub passes_limit : List SpecCard → List SpecCard → SpecCard → List SpecCard → Bool
passes_limit cards before c after =
    passes_on_types before c || passes_on_lines before c || passes_on_calculations before c after || passes_storage cards before c || bad_entries c
