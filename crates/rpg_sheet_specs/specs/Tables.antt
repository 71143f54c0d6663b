-- The cards, one line for each range of columns: `⊛` a range that gives the next member of the spec, `⊘` one that only has to be valid.
-- 1-5 and 75-80 are free on every card, and further columns if a sheet's headline says so.
use Rattle.std.specs.Prelude.{ℕ, List, [], ◌∷◌, Bool, Option, None, Some, if◌then◌else◌, ◌&&◌, codes, map, ◌+◌, ◌*◌, ◌==◌, ◌||◌, not, nat_lt}
use Rattle.std.specs.Char.{is_ascii_digit}
use Rattle.std.specs.Str.{bytes_eq}
use Rattle.std.specs.Option.{option_and_then, option_map, option_or}
use Rattle.rpg_edit_marks.specs.declared.code.EditCode.{EditCode}
use Rattle.rpg_sheet_specs.specs.declared.indicator.Three.{Three}
use Rattle.rpg_sheet_specs.specs.declared.indicator.ConditionSpec.{ConditionSpec}
use Rattle.rpg_sheet_specs.specs.declared.header.HeaderSpec.{HeaderSpec}
use Rattle.rpg_sheet_specs.specs.declared.file.FileSpec.{FileSpec}
use Rattle.rpg_sheet_specs.specs.declared.file.FileRole.{FileRole}
use Rattle.rpg_sheet_specs.specs.declared.file.FileRole.TheVariants.{Primary, Secondary, Output}
use Rattle.rpg_sheet_specs.specs.declared.file.Device.{Device}
use Rattle.rpg_sheet_specs.specs.declared.file.Device.TheVariants as device
use Rattle.rpg_sheet_specs.specs.declared.extension.TableSpec.{TableSpec}
use Rattle.rpg_sheet_specs.specs.declared.extension.ExtensionSpec.{ExtensionSpec}
use Rattle.rpg_sheet_specs.specs.declared.form.FormSpec.{FormSpec}
use Rattle.rpg_sheet_specs.specs.declared.input.RecordCode.{RecordCode}
use Rattle.rpg_sheet_specs.specs.declared.input.RecordType.{RecordType}
use Rattle.rpg_sheet_specs.specs.declared.input.InputFieldSpec.{InputFieldSpec}
use Rattle.rpg_sheet_specs.specs.declared.input.InputSpec.{InputSpec}
use Rattle.rpg_sheet_specs.specs.declared.input.InputSpec.TheVariants as input
use Rattle.rpg_sheet_specs.specs.declared.entry.Entry.{Entry}
use Rattle.rpg_sheet_specs.specs.declared.literal.Factor.{Factor}
use Rattle.rpg_sheet_specs.specs.declared.calculation.ControlLevel.{ControlLevel}
use Rattle.rpg_sheet_specs.specs.declared.calculation.ControlLevel.TheVariants as control
use Rattle.rpg_sheet_specs.specs.declared.calculation.Operation.{Operation}
use Rattle.rpg_sheet_specs.specs.declared.calculation.Operation.TheVariants as op
use Rattle.rpg_sheet_specs.specs.declared.calculation.CalculationSpec.{CalculationSpec}
use Rattle.rpg_sheet_specs.specs.declared.output.LineTime.{LineTime}
use Rattle.rpg_sheet_specs.specs.declared.output.LineTime.TheVariants as time
use Rattle.rpg_sheet_specs.specs.declared.output.Movement.{Movement}
use Rattle.rpg_sheet_specs.specs.declared.output.OutputRecord.{OutputRecord}
use Rattle.rpg_sheet_specs.specs.declared.output.OutputField.{OutputField}
use Rattle.rpg_sheet_specs.specs.declared.output.OutputSpec.{OutputSpec}
use Rattle.rpg_sheet_specs.specs.declared.output.OutputSpec.TheVariants as output
use Rattle.rpg_sheet_specs.specs.Columns.{Columns, cols, values, at, at_with, blank, where_card, ◌⊛◌, ◌⊘◌}
use Rattle.rpg_text.specs.Texts.{all_blank, is_between}
use Rattle.rpg_sheet_specs.specs.Values.{one_of, only, unused, when, blank_or, marked, number, number_within, digits, name, letters, entry, quoted, factor, indicator, indicator_within, level, condition, record_code, edit_code, digit_number}

-- three in the order of their columns
abbrev pub three : {X : Type 0} → X → X → X → Three X
three a b c = record { first = a; second = b; third = c }

-- three conditions, each of three columns
unfoldable pub conditions : ℕ → ℕ → ℕ → ℕ → ℕ → ℕ → Columns (Three (Option ConditionSpec))
conditions a b c d e f = values three ⊛ at a b (blank_or condition) ⊛ at c d (blank_or condition) ⊛ at e f (blank_or condition)

-- three indicators, each of two columns
unfoldable pub three_indicators : ℕ → ℕ → ℕ → ℕ → ℕ → ℕ → Columns (Three (Option ℕ))
three_indicators a b c d e f = values three ⊛ at a b (blank_or indicator) ⊛ at c d (blank_or indicator) ⊛ at e f (blank_or indicator)

-- ---- H; free: 7-14

-- an H card
unfoldable pub header : Columns HeaderSpec
header = values (record {}) ⊘ blank 15 74

-- ---- F; free: 20-23

-- I is read, O is written
unfoldable pub direction : List ℕ → Option (Unit {0})
direction = one_of ((codes "I", tt) ∷ (codes "O", tt) ∷ [])

-- column 15 has I
abbrev pub is_read : List ℕ → Bool
is_read card = bytes_eq (cols 15 15 card) (codes "I")

-- P or S with I, blank with O
unfoldable pub role : List ℕ → List ℕ → Option FileRole
role card = one_of (if is_read card then (codes "P", Primary) ∷ (codes "S", Secondary) ∷ [] else (codes " ", Output) ∷ [])

-- the printer, or a disk
unfoldable pub device_named : List ℕ → Option Device
device_named text = Some (if bytes_eq text (codes "PRINTER") then device.Printer else device.Disk)

-- column 15 has O
abbrev pub is_output_card : List ℕ → Bool
is_output_card card = bytes_eq (cols 15 15 card) (codes "O")

-- between the record length and the device: with O the indicator of a full page
unfoldable pub overflow : Columns (Option ℕ)
overflow = where_card is_output_card (values (λ o. o) ⊛ at 33 34 (blank_or (indicator_within 112 119))) (values None ⊘ at 33 34 unused)

-- the overflow indicator of an output file
unfoldable pub file_overflow : Columns (Option ℕ)
file_overflow = values (λ o. o) ⊘ blank 28 32 ⊛ overflow ⊘ blank 35 38

-- column 15 has O, and 40-46 the printer
abbrev pub is_printer_card : List ℕ → Bool
is_printer_card card = is_output_card card && bytes_eq (cols 40 46 card) (codes "PRINTER")

-- blank, or L on the printer's card
unfoldable pub form_mark : List ℕ → List ℕ → Option Bool
form_mark card text = option_and_then (λ h. when (not h || is_printer_card card) h) (marked (codes "L") text)

-- the columns of an F card, in their order
abbrev pub file_spec : List ℕ → FileRole → Bool → Bool → ℕ → Option ℕ → Bool → Device → FileSpec
file_spec n r e a l o h v = record { name = n; role = r; ends_job = e; ascending = a; record_length = l; overflow = o; has_form = h; device = v }

-- an F card
unfoldable pub file : Columns FileSpec
file = values file_spec
    ⊛ at 7 14 (name 8)
    ⊘ at 15 15 direction
    ⊛ at_with 16 16 role
    ⊛ at 17 17 (marked (codes "E"))
    ⊛ at 18 18 (marked (codes "A"))
    ⊘ at 19 19 (only (codes "F"))
    ⊛ at 24 27 number
    ⊛ file_overflow
    ⊛ at_with 39 39 form_mark
    ⊛ at 40 46 device_named
    ⊘ blank 47 74

-- ---- E; free: 58-74

-- the columns of a table on an E card, in their order
abbrev pub table_spec : List ℕ → ℕ → Option ℕ → Bool → TableSpec
table_spec n l d a = record { name = n; length = l; decimals = d; ascending = a }

-- the alternating table, if there is a name
unfoldable pub alternating_table : Columns TableSpec
alternating_table = values table_spec
    ⊛ at 46 51 (name 6)
    ⊛ at 52 54 number
    ⊘ blank 55 55
    ⊛ at 56 56 (blank_or digits)
    ⊛ at 57 57 (marked (codes "A"))

-- no alternating table is named
abbrev pub has_no_name : List ℕ → Bool
has_no_name card = all_blank (cols 46 51 card)

-- the alternating table, or its columns blank
unfoldable pub alternating : Columns (Option TableSpec)
alternating = where_card has_no_name (values None ⊘ blank 46 57) (values Some ⊛ alternating_table)

-- the columns of an E card, in their order
abbrev pub extension_spec : List ℕ → Option ℕ → ℕ → ℕ → Option ℕ → Bool → Option TableSpec → ExtensionSpec
extension_spec n p e l d a t = record { table = table_spec n l d a; entries_per_card = p; entries = e; alternating = t }

-- an E card
unfoldable pub extension : Columns ExtensionSpec
extension = values extension_spec
    ⊘ blank 7 26
    ⊛ at 27 32 (name 6)
    ⊛ at 33 35 (blank_or number)
    ⊛ at 36 39 number
    ⊛ at 40 42 number
    ⊘ blank 43 43
    ⊛ at 44 44 (blank_or digits)
    ⊛ at 45 45 (marked (codes "A"))
    ⊛ alternating

-- ---- L

-- the columns of an L card, in their order
abbrev pub form_spec : List ℕ → ℕ → ℕ → FormSpec
form_spec n l o = record { file = n; lines = l; overflow_line = o }

-- an L card
unfoldable pub form_card : Columns FormSpec
form_card = values form_spec
    ⊛ at 7 14 (name 8)
    ⊛ at 15 17 (number_within 3 112)
    ⊘ at 18 19 (only (codes "FL"))
    ⊛ at 20 22 (number_within 1 112)
    ⊘ at 23 24 (only (codes "OL"))
    ⊘ blank 25 74

-- ---- I

-- three codes, each of seven columns
unfoldable pub record_codes : Columns (Three (Option RecordCode))
record_codes = values three ⊛ at 21 27 (blank_or record_code) ⊛ at 28 34 (blank_or record_code) ⊛ at 35 41 (blank_or record_code)

-- the columns of a record type, in their order
abbrev pub record_type : Option (List ℕ) → List ℕ → Option ℕ → Three (Option RecordCode) → RecordType
record_type f s i c = record { file = f; sequence = s; indicator = i; codes = c }

-- an I card that begins a record type
unfoldable pub type_card : Columns RecordType
type_card = values record_type
    ⊛ at 7 14 (blank_or (name 8))
    ⊛ at 15 16 letters
    ⊘ blank 17 18
    ⊛ at 19 20 (blank_or indicator)
    ⊛ record_codes
    ⊘ blank 42 74

-- nothing is valid there
abbrev pub nothing : {X : Type 0} → List ℕ → Option X
nothing text = None

-- no record codes
abbrev pub has_no_codes : List ℕ → Bool
has_no_codes card = all_blank (cols 21 41 card)

-- at least one code
unfoldable pub and_codes : Columns (Three (Option RecordCode))
and_codes = where_card has_no_codes (values (λ c. c) ⊛ at 21 41 nothing) record_codes

-- an AND card among I cards
unfoldable pub type_and_card : Columns (Three (Option RecordCode))
type_and_card = values (λ c. c)
    ⊘ blank 17 20
    ⊛ and_codes
    ⊘ blank 42 74

-- the columns of an input field, in their order
abbrev pub input_field : ℕ → ℕ → Option ℕ → List ℕ → Option ℕ → Option ℕ → Three (Option ℕ) → InputFieldSpec
input_field f t d n l m i = record { from = f; to = t; decimals = d; name = n; level = l; match_level = m; indicators = i }

-- L1 to L9
abbrev pub control_field_level : List ℕ → Option ℕ
control_field_level = level 76

-- M1 to M9
abbrev pub match_field_level : List ℕ → Option ℕ
match_field_level = level 77

-- an I card of a field
unfoldable pub field_card : Columns InputFieldSpec
field_card = values input_field
    ⊘ blank 17 43
    ⊛ at 44 47 number
    ⊛ at 48 51 number
    ⊛ at 52 52 (blank_or digits)
    ⊛ at 53 58 (name 6)
    ⊛ at 59 60 (blank_or control_field_level)
    ⊛ at 61 62 (blank_or match_field_level)
    ⊘ blank 63 64
    ⊛ three_indicators 65 66 67 68 69 70
    ⊘ blank 71 74

-- AND in 14-16, and nothing before it
abbrev pub is_and_card : List ℕ → Bool
is_and_card card = all_blank (cols 7 13 card) && bytes_eq (cols 14 16 card) (codes "AND")

-- a card of a field leaves the columns of a type blank
abbrev pub is_field_card : List ℕ → Bool
is_field_card card = all_blank (cols 7 16 card)

-- a type, or a field of one
unfoldable pub type_or_field_card : Columns InputSpec
type_or_field_card = where_card is_field_card (values input.Field ⊛ field_card) (values input.Type ⊛ type_card)

-- an I card
unfoldable pub input_card : Columns InputSpec
input_card = where_card is_and_card (values input.And ⊛ type_and_card) type_or_field_card

-- ---- C; free: 60-74

-- L0 to L9 and LR are total time
unfoldable pub control_level_in : List ℕ → Option ControlLevel
control_level_in text = option_or (one_of ((codes "  ", control.Detail) ∷ (codes "SR", control.Subroutine) ∷ (codes "AN", control.And) ∷ (codes "OR", control.Or) ∷ []) text) (option_map control.Total (indicator_within 100 110 text))

-- the letters of an operation, as its columns have them
abbrev pub letters_of : Operation → List ℕ
letters_of op.Add = codes "ADD  "
letters_of op.Subtract = codes "SUB  "
letters_of op.Multiply = codes "MULT "
letters_of op.Divide = codes "DIV  "
letters_of op.MoveRemainder = codes "MVR  "
letters_of op.ZeroAdd = codes "Z-ADD"
letters_of op.ZeroSubtract = codes "Z-SUB"
letters_of op.CrossFoot = codes "XFOOT"
letters_of op.Compare = codes "COMP "
letters_of op.LookUp = codes "LOKUP"
letters_of op.Move = codes "MOVE "
letters_of op.MoveLeft = codes "MOVEL"
letters_of op.SetOn = codes "SETON"
letters_of op.SetOff = codes "SETOF"
letters_of op.GoTo = codes "GOTO "
letters_of op.Call = codes "EXSR "
letters_of op.Label = codes "TAG  "
letters_of op.BeginSubroutine = codes "BEGSR"
letters_of op.EndSubroutine = codes "ENDSR"
letters_of op.Except = codes "EXCPT"

-- all operations of cards
abbrev pub card_operations : List Operation
card_operations = op.Add ∷ op.Subtract ∷ op.Multiply ∷ op.Divide ∷ op.MoveRemainder ∷ op.ZeroAdd ∷ op.ZeroSubtract ∷ op.CrossFoot
    ∷ op.Compare ∷ op.LookUp ∷ op.Move ∷ op.MoveLeft ∷ op.SetOn ∷ op.SetOff ∷ op.GoTo
    ∷ op.Call ∷ op.Label ∷ op.BeginSubroutine ∷ op.EndSubroutine ∷ op.Except ∷ []

-- an operation by its letters
unfoldable pub operation : List ℕ → Option Operation
operation = one_of (map (λ o. (letters_of o, o)) card_operations)

-- the columns of a C card, in their order
abbrev pub calculation_spec : ControlLevel → Three (Option ConditionSpec) → Option Factor → Option Operation → Option Factor → Option Entry → Option ℕ → Option ℕ → Bool → Three (Option ℕ) → CalculationSpec
calculation_spec t c f o g r l d h i = record { control_level = t; conditions = c; factor_1 = f; operation = o; factor_2 = g; result_field = r; length = l; decimals = d; half_adjust = h; resulting_indicators = i }

-- 54-55 plus or high, 56-57 minus or low, 58-59 zero or equal
unfoldable pub calculation_card : Columns CalculationSpec
calculation_card = values calculation_spec
    ⊛ at 7 8 control_level_in
    ⊛ conditions 9 11 12 14 15 17
    ⊛ at 18 27 (blank_or factor)
    ⊛ at 28 32 (blank_or operation)
    ⊛ at 33 42 (blank_or factor)
    ⊛ at 43 48 (blank_or entry)
    ⊛ at 49 51 (blank_or number)
    ⊛ at 52 52 (blank_or digits)
    ⊛ at 53 53 (marked (codes "H"))
    ⊛ three_indicators 54 55 56 57 58 59

-- ---- O; free: 71-74

-- when a line is output, by its letter
unfoldable pub line_time : List ℕ → Option LineTime
line_time = one_of ((codes "H", time.Heading) ∷ (codes "D", time.Detail) ∷ (codes "T", time.Total) ∷ (codes "E", time.Exception) ∷ [])

-- lines to space, by a digit
unfoldable pub space : List ℕ → Option ℕ
space = one_of ((codes "0", 0) ∷ (codes "1", 1) ∷ (codes "2", 2) ∷ (codes "3", 3) ∷ [])

-- 01 to 99; A0 to A9 for 100 to 109, B0 to B2 for 110 to 112
abbrev pub line_spelled : ℕ → ℕ → Option ℕ
line_spelled a b =
    if is_ascii_digit a && is_ascii_digit b then when (nat_lt 0 (10 * digit_number a + digit_number b)) (10 * digit_number a + digit_number b)
    else if (a == 65) && is_ascii_digit b then Some (100 + digit_number b)
    else if (a == 66) && is_between 48 50 b then Some (110 + digit_number b)
    else None

-- the line to skip to
unfoldable pub skip : List ℕ → Option ℕ
skip (a ∷ b ∷ []) = line_spelled a b
skip _ = None

-- the columns of spaces and skips, in their order
abbrev pub movement_of : Option ℕ → Option ℕ → Option ℕ → Option ℕ → Movement
movement_of a b c d = record { space_before = a; space_after = b; skip_before = c; skip_after = d }

-- spaces and skips before and after a line
unfoldable pub movement : Columns Movement
movement = values movement_of
    ⊛ at 17 17 (blank_or space)
    ⊛ at 18 18 (blank_or space)
    ⊛ at 19 20 (blank_or skip)
    ⊛ at 21 22 (blank_or skip)

-- the columns of a line, in their order
abbrev pub output_record : Option (List ℕ) → LineTime → Movement → Three (Option ConditionSpec) → OutputRecord
output_record f t m c = record { file = f; time = t; movement = m; conditions = c }

-- an O card that begins a line
unfoldable pub record_card : Columns OutputRecord
record_card = values output_record
    ⊛ at 7 14 (blank_or (name 8))
    ⊛ at 15 15 line_time
    ⊘ blank 16 16
    ⊛ movement
    ⊛ conditions 23 25 26 28 29 31
    ⊘ blank 32 70

-- further conditions of a line
unfoldable pub line_conditions : Columns (Three (Option ConditionSpec))
line_conditions = values (λ c. c)
    ⊘ blank 17 22
    ⊛ conditions 23 25 26 28 29 31
    ⊘ blank 32 70

-- the columns of an output field, in their order
abbrev pub output_field : Three (Option ConditionSpec) → Option Entry → Option EditCode → Bool → ℕ → Option (List ℕ) → OutputField
output_field c f e b n t = record { conditions = c; operand = f; code = e; blank_after = b; end = n; text = t }

-- an O card of a field
unfoldable pub output_field_card : Columns OutputField
output_field_card = values output_field
    ⊘ blank 17 22
    ⊛ conditions 23 25 26 28 29 31
    ⊛ at 32 37 (blank_or entry)
    ⊛ at 38 38 (blank_or edit_code)
    ⊛ at 39 39 (marked (codes "B"))
    ⊛ at 40 43 number
    ⊘ blank 44 44
    ⊛ at 45 70 (blank_or quoted)

-- OR in 14-15, and nothing before it
abbrev pub is_or_card : List ℕ → Bool
is_or_card card = all_blank (cols 7 13 card) && bytes_eq (cols 14 15 card) (codes "OR")

-- a line, or a field of one
unfoldable pub line_or_field_card : Columns OutputSpec
line_or_field_card = where_card is_field_card (values output.Field ⊛ output_field_card) (values output.Record ⊛ record_card)

-- an OR card among O cards, or one that isn't an AND card either
unfoldable pub line_or_card : Columns OutputSpec
line_or_card = where_card is_or_card (values output.Or ⊘ blank 16 16 ⊛ line_conditions) line_or_field_card

-- an O card
unfoldable pub output_card : Columns OutputSpec
output_card = where_card is_and_card (values output.And ⊛ line_conditions) line_or_card
