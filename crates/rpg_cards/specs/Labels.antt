-- Labels and subroutine names of a source, with the section of each.
use Rattle.std.specs.Prelude.{ℕ, suc, ◌-◌, List, [], ◌∷◌, ◌++◌, Bool, true, false, ◌&&◌, ◌||◌, if◌then◌else◌, Option, None, Some, find}
use Rattle.std.specs.List.{filter, last_or}
use Rattle.std.specs.Option.{option_map, option_map_or, option_to_list}
use Rattle.rpg_cards.specs.Statements.{Begins, Calculation, Executes, Statement, Ends, GoesTo, Marks}
use Rattle.rpg_cards.specs.Keys.{Key, Name}
use Rattle.rpg_cards.specs.Sections.{is_same_name, is_subroutine}
use Rattle.rpg_cards.specs.declared.labels.Label.{Label}
use Rattle.rpg_cards.specs.declared.labels.Named.{Named}
use Rattle.rpg_cards.specs.declared.labels.Section.{Section}
use Rattle.rpg_cards.specs.declared.labels.Section.TheVariants.{Detail, Total, Subroutine, Outside}
use Rattle.rpg_sheet_specs.specs.declared.calculation.ControlLevel.{ControlLevel}
use Rattle.rpg_sheet_specs.specs.declared.calculation.ControlLevel.TheVariants as control

-- ---- the section of a calculation, given those before it

-- BEGSR
abbrev pub is_begsr : Statement Key → Bool
is_begsr (Begins n) = true
is_begsr _ = false

-- ENDSR
abbrev pub is_endsr : Statement Key → Bool
is_endsr (Ends l) = true
is_endsr _ = false

-- a BEGSR on an SR card
abbrev pub begins_subroutine : Calculation Key → Bool
begins_subroutine g = is_subroutine g.control && is_begsr g.statement

-- an ENDSR on an SR card
abbrev pub ends : Calculation Key → Bool
ends g = is_subroutine g.control && is_endsr g.statement

-- the calculations that begin or end a subroutine
abbrev pub brackets : List (Calculation Key) → List (Calculation Key)
brackets gs = filter (λ g. begins_subroutine g || ends g) gs

-- the last BEGSR or ENDSR before is a BEGSR
abbrev pub is_inside_subroutine : List (Calculation Key) → Bool
is_inside_subroutine before = option_map_or begins_subroutine (last_or None (brackets before)) false

-- how many subroutines have begun
abbrev pub begun_count : List (Calculation Key) → ℕ
begun_count [] = 0
begun_count (g ∷ gs) = if begins_subroutine g then suc (begun_count gs) else begun_count gs

-- the section of an SR card: its own subroutine at BEGSR, otherwise the last one that has begun and not ended
abbrev pub subroutine_at : List (Calculation Key) → Bool → Section
subroutine_at before true = Subroutine (begun_count before)
subroutine_at before false = if is_inside_subroutine before then Subroutine (begun_count before - 1) else Outside

-- the section of a calculation by its columns 7 and 8
abbrev pub section_by : List (Calculation Key) → Bool → ControlLevel → Section
section_by before is_first control.Detail = Detail
section_by before is_first (control.Total i) = Total
section_by before is_first control.Subroutine = subroutine_at before is_first
section_by before is_first _ = Outside

-- the section of a calculation, given those before it
abbrev pub section_of : List (Calculation Key) → Calculation Key → Section
section_of before g = section_by before (begins_subroutine g) g.control

-- ---- labels

-- a name, and whether it is a subroutine's
abbrev pub named_by : Bool → Option Name → Option Named
named_by is_subroutine n = option_map (λ name. record { name = name; is_subroutine = is_subroutine }) n

-- a label's name
abbrev pub as_label : Option Name → Option Named
as_label n = named_by false n

-- a subroutine's name
abbrev pub as_subroutine : Option Name → Option Named
as_subroutine n = named_by true n

-- TAG, ENDSR and BEGSR define a name
abbrev pub defined_name : Statement Key → Option Named
defined_name (Marks l) = as_label l
defined_name (Ends l) = as_label l
defined_name (Begins n) = as_subroutine n
defined_name _ = None

-- GOTO and EXSR refer to one
abbrev pub target_name : Statement Key → Option Named
target_name (GoesTo l) = as_label l
target_name (Executes n) = as_subroutine n
target_name _ = None

-- the label or subroutine that a calculation defines, with its section
abbrev pub label_at : List (Calculation Key) → Calculation Key → Option Label
label_at before g = option_map (λ n. record { named = n; section = section_of before g }) (defined_name g.statement)

-- the labels that calculations after these define
abbrev pub labels_after : List (Calculation Key) → List (Calculation Key) → List Label
labels_after before [] = []
labels_after before (g ∷ gs) = option_to_list (label_at before g) ++ labels_after (before ++ g ∷ []) gs

-- the labels and subroutines of a source, in the order of their cards
abbrev pub labels : List (Calculation Key) → List Label
labels gs = labels_after [] gs

-- a name that is defined twice counts as it was defined first
abbrev pub label_named : Name → List Label → Option Label
label_named name ls = find (λ (l : Label). is_same_name (Some name) (Some l.named.name)) ls
