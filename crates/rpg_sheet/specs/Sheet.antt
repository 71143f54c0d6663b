-- The lines of a source that are cards, and what is wrong with them.
use Rattle.std.specs.Prelude.{◌≡◌, ℕ, ◌+◌, List, [], ◌∷◌, ◌++◌, length, Bool, false, Option, None, Some, option_and_then, if◌then◌else◌, ◌&&◌, not, nat_le, nat_lt, find}
use Rattle.std.specs.List.{list_all, list_any}
use Rattle.std.specs.Option.{is_none, option_map, option_map_or, option_or}
use Rattle.std.specs.Str.Lines.{lines}
use Rattle.rpg_sheet.specs.declared.sheet.SheetCode.{SheetCode}
use Rattle.rpg_sheet.specs.declared.sheet.SheetCode.TheVariants.{S1, S2, S3, S4, S5, S6}
use Rattle.rpg_sheet.specs.declared.sheet.SheetFault.{SheetFault}
use Rattle.rpg_sheet.specs.declared.sheet.SheetFault.TheVariants.{At, NoMemory}
use Rattle.rpg_sheet_specs.specs.declared.column.ColumnFault.{ColumnFault}
use Rattle.rpg_sheet_specs.specs.declared.form_type.FormType.{FormType}
use Rattle.rpg_sheet_specs.specs.Cards.{card_of, begins_data, ends_source, is_sheet, form_type, sheet_of, sheet_place}
use Rattle.rpg_sheet.specs.Readable.{has_bad_column, bad_value_columns}
use Rattle.rpg_text.specs.Texts.{is_character}

-- the items up to the first that passes, and this one
abbrev pub through : {X : Type 0} → (X → Bool) → List X → List X
through test [] = []
through test (x ∷ xs) = if test x then x ∷ [] else x ∷ through test xs

-- the lines that are read: nothing after the card that ends the source
abbrev pub source : List ℕ → List (List ℕ)
source text = through (λ line. ends_source (card_of line)) (lines text)

-- ---- what is wrong with a line that follows others

-- one of these lines begins data, so what follows is data
abbrev pub has_begun_data : List (List ℕ) → Bool
has_begun_data earlier = list_any (λ e. begins_data (card_of e)) earlier

-- a card before all data is on a sheet that follows the one at place n
abbrev pub comes_after : ℕ → List ℕ → Bool
comes_after n card = option_map_or (λ f. nat_lt n (sheet_place f)) (sheet_of false card) false

-- the sheet that a line is on
abbrev pub sheet_after : List (List ℕ) → List ℕ → Option FormType
sheet_after earlier line = sheet_of (has_begun_data earlier) (card_of line)

-- the line has that fault
abbrev pub has_sheet_fault : List (List ℕ) → List ℕ → SheetCode → Bool
has_sheet_fault earlier line S1 = nat_lt 80 (length line)
has_sheet_fault earlier line S2 = not (list_all is_character line)
has_sheet_fault earlier line S3 = is_sheet (has_begun_data earlier) (card_of line) && is_none (form_type (card_of line))
has_sheet_fault earlier line S4 = option_map_or (λ f. list_any (λ e. comes_after (sheet_place f) (card_of e)) earlier) (sheet_after earlier line) false
has_sheet_fault earlier line S5 = option_map_or (λ f. has_bad_column f (card_of line)) (sheet_after earlier line) false
has_sheet_fault earlier line S6 = nat_le 2000 (length earlier)

-- the lowest code of a line
abbrev pub line_code : List (List ℕ) → List ℕ → Option SheetCode
line_code earlier line = find (has_sheet_fault earlier line) (S1 ∷ S2 ∷ S3 ∷ S4 ∷ S5 ∷ S6 ∷ [])

-- with S5 the columns of a card's least bad value
abbrev pub sheet_fault_columns : Bool → List ℕ → SheetCode → Option ColumnFault
sheet_fault_columns data_begun card S1 = None
sheet_fault_columns data_begun card S2 = None
sheet_fault_columns data_begun card S3 = None
sheet_fault_columns data_begun card S4 = None
sheet_fault_columns data_begun card S5 = option_and_then (λ f. bad_value_columns f card) (sheet_of data_begun card)
sheet_fault_columns data_begun card S6 = None

-- a fault with its card and its columns
abbrev pub fault_under : List (List ℕ) → List ℕ → SheetCode → SheetFault
fault_under earlier line code = At (length earlier + 1) code (sheet_fault_columns (has_begun_data earlier) (card_of line) code)

-- the first line with a fault, of lines that follow others
abbrev pub fault_after : List (List ℕ) → List (List ℕ) → Option SheetFault
fault_after earlier [] = None
fault_after earlier (line ∷ more) = option_or (option_map (fault_under earlier line) (line_code earlier line)) (fault_after (earlier ++ line ∷ []) more)

-- the first line with a fault, with the lowest code of it
abbrev pub first_sheet_fault : List (List ℕ) → Option SheetFault
first_sheet_fault all = fault_after [] all

-- what a refusal states about a source: nothing if memory runs out
abbrev pub IsSheetRefusal : SheetFault → List ℕ → Type 0
IsSheetRefusal NoMemory text = Unit {0}
IsSheetRefusal (At card code columns) text = first_sheet_fault (source text) ≡ Some (At card code columns)
