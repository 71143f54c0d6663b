-- F6: which limit a card exceeds, and the count with it.
use Rattle.std.specs.Prelude.{ℕ, ◌&&◌, nat_le, nat_lt, List, [], ◌∷◌, ◌++◌, Bool, Option, None, Some, if◌then◌else◌}
use Rattle.std.specs.Option.{option_and_then, option_or}
use Rattle.rpg_cards.specs.Cards.{extension_on}
use Rattle.rpg_cards.specs.Groups.{group_count, input_role, output_role}
use Rattle.rpg_cards.specs.declared.spec_card.SpecCard.{SpecCard}
use Rattle.rpg_faults_limits.specs.declared.measures.Measure.{Measure}
use Rattle.rpg_faults_limits.specs.declared.measures.Limit.{Limit}
use Rattle.rpg_faults_limits.specs.declared.measures.Limit.TheVariants as limit
use Rattle.rpg_faults_limits.specs.declared.measures.LimitCause.{LimitCause}
use Rattle.rpg_faults_limits.specs.declared.measures.LimitCause.TheVariants.{Entries, Passed}
use Rattle.rpg_faults_limits.specs.Limits.{alternative_count, bad_entries_of, bytes_up_to, calculation_count, code_count, condition_count, field_count, fields_up_to, level_count, name_bytes, name_count, of_line, of_type, output_field_count, passes_subroutines}
use Rattle.rpg_sheet_specs.specs.declared.column_range.ColumnRange.{ColumnRange}
use Rattle.rpg_sheet_specs.specs.declared.column_range.ColumnRange.TheVariants as range
use Rattle.rpg_sheet_specs.specs.declared.extension.ExtensionSpec.{ExtensionSpec}

-- what is counted, before a card and with it
abbrev pub measure_of : Limit → (List SpecCard → ℕ) → ℕ → List SpecCard → SpecCard → Measure
measure_of what measure most before c = record { limit = what; most = most; before = measure before; with = measure (before ++ c ∷ []) }

-- the count is within its limit before the card and over it with the card
abbrev pub passes_with_card : Measure → Bool
passes_with_card k = nat_le k.before k.most && nat_lt k.most k.with

-- the count with the card, if it is over the limit
abbrev pub of_count : Measure → Option LimitCause
of_count k = if passes_with_card k then Some (Passed k.limit k.with) else None

-- the first count that exceeds its limit
abbrev pub first_past : List Measure → Option LimitCause
first_past [] = None
first_past (k ∷ ks) = option_or (of_count k) (first_past ks)

-- record types, and what is on the cards of one
abbrev pub type_measures : List SpecCard → SpecCard → List Measure
type_measures before c =
    measure_of limit.RecordTypes (group_count input_role) 200 before c
    ∷ measure_of limit.Codes (of_type code_count) 100 before c
    ∷ measure_of limit.ControlFields (of_type level_count) 100 before c
    ∷ measure_of limit.InputFields (of_type field_count) 500 before c
    ∷ []

-- which of these exceeds its limit
abbrev pub on_types : List SpecCard → SpecCard → Option LimitCause
on_types before c = first_past (type_measures before c)

-- lines, and what is on the cards of one
abbrev pub line_measures : List SpecCard → SpecCard → List Measure
line_measures before c =
    measure_of limit.Lines (group_count output_role) 1000 before c
    ∷ measure_of limit.Alternatives (of_line alternative_count) 50 before c
    ∷ measure_of limit.Conditions (of_line condition_count) 60 before c
    ∷ measure_of limit.OutputFields (of_line output_field_count) 200 before c
    ∷ []

-- which of these exceeds its limit
abbrev pub on_lines : List SpecCard → SpecCard → Option LimitCause
on_lines before c = first_past (line_measures before c)

-- the 101st subroutine
abbrev pub on_subroutines : List SpecCard → SpecCard → List SpecCard → Option LimitCause
on_subroutines before c after = if passes_subroutines before c after then Some (Passed limit.Subroutines 101) else None

-- calculation cards and subroutines
abbrev pub on_calculations : List SpecCard → SpecCard → List SpecCard → Option LimitCause
on_calculations before c after = option_or (of_count (measure_of limit.Calculations calculation_count 1000 before c)) (on_subroutines before c after)

-- names and constants, and their bytes
abbrev pub storage_counts : List SpecCard → List SpecCard → SpecCard → List Measure
storage_counts cards before c =
    measure_of limit.Names name_count 4000 before c
    ∷ measure_of limit.NameBytes name_bytes 65535 before c
    ∷ measure_of limit.Bytes (bytes_up_to cards) 65535 before c
    ∷ measure_of limit.Fields (fields_up_to cards) 4000 before c
    ∷ []

-- which of these exceeds its limit
abbrev pub on_storage : List SpecCard → List SpecCard → SpecCard → Option LimitCause
on_storage cards before c = first_past (storage_counts cards before c)

-- entries out of range
abbrev pub of_entries : ExtensionSpec → Option LimitCause
of_entries e = if bad_entries_of e then Some (Entries e.entries) else None

-- F6 of a card: its entries, which its columns show, come first
unfoldable pub limit_cause : List SpecCard → List SpecCard → SpecCard → List SpecCard → Option LimitCause
limit_cause cards before c after =
    option_or (option_and_then of_entries (extension_on c.spec))
    (option_or (on_types before c)
    (option_or (on_lines before c)
    (option_or (on_calculations before c after)
    (on_storage cards before c))))

-- the columns that a cause is about; none if the card as a whole is one too many
abbrev pub limit_range : LimitCause → Option ColumnRange
limit_range (Entries n) = Some range.Entries
limit_range (Passed limit count) = None
