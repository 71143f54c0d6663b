-- Output lines.
use Rattle.std.specs.Prelude.{ℕ, ◌/◌, ◌%◌, List, [], ◌∷◌, length, Bool, true, false, ◌||◌, ◌==◌, nat_lt, if◌then◌else◌, Option, Some, None, Result, Ok, Err}
use Rattle.rpg_edit_marks.specs.Code.{code_character, code_of}
use Rattle.rpg_edit_marks.specs.declared.code.EditCode.{EditCode}
use Rattle.rpg_edit_marks.specs.declared.code.Fill.{Fill}
use Rattle.rpg_edit_marks.specs.declared.code.Fill.TheVariants as fills
use Rattle.rpg_program.specs.declared.condition.Condition.{Condition}
use Rattle.rpg_program.specs.declared.condition.Conditions.{Conditions}
use Rattle.rpg_program.specs.declared.line.Editing.{Editing}
use Rattle.rpg_program.specs.declared.line.Editing.TheVariants as editings
use Rattle.rpg_program.specs.declared.line.File.{File}
use Rattle.rpg_program.specs.declared.line.File.TheVariants.{Printer, Disk}
use Rattle.rpg_program.specs.declared.line.LineField.{LineField}
use Rattle.rpg_program.specs.declared.line.Source.{Source}
use Rattle.rpg_program.specs.declared.line.Source.TheVariants as sources
use Rattle.rpg_program.specs.declared.line.Spacing.{Spacing}
use Rattle.rpg_program.specs.declared.line.Time.{Time}
use Rattle.rpg_program.specs.declared.line.Time.TheVariants as times
use Rattle.rpg_program.specs.declared.operation.Operand.{Operand}
use Rattle.rpg_object_format.specs.declared.fault.Code.{Code}
use Rattle.rpg_object_format.specs.declared.fault.Code.TheVariants.{NotAllowed}
use Rattle.rpg_object_format.specs.Format.{Format, byte, two_bytes, pair, row, table}
use Rattle.rpg_object_format.specs.Numbers.{any_number, choice, count, number_where, up_to, yes_or_no}
use Rattle.rpg_program.specs.Object.{LineRow}
use Rattle.rpg_object_rows.specs.declared.letter.Letter.{Letter}
use Rattle.rpg_object_rows.specs.declared.letter.Letter.TheVariants as letters
use Rattle.rpg_object_format.specs.Indicators.{alternative, conditions_format}
use Rattle.rpg_object_format.specs.Operands.{operand}
use Rattle.rpg_object_format.specs.Shapes.{any_byte, unused_number}

-- ---- single numbers

-- the number of an output file
abbrev pub file_number : File → ℕ
file_number Printer = 1
file_number Disk = 2

-- the output file with that number
abbrev pub file_by_number : ℕ → Result File Code
file_by_number = choice (Printer ∷ Disk ∷ []) file_number

-- the number of a line's time
abbrev pub time_number : Time → ℕ
time_number times.Heading = 1
time_number times.Detail = 2
time_number times.Total = 3
time_number times.Exception = 4

-- the time with that number
abbrev pub time_by_number : ℕ → Result Time Code
time_by_number = choice (times.Heading ∷ times.Detail ∷ times.Total ∷ times.Exception ∷ []) time_number

-- the number of what an output field writes
abbrev pub source_number : Source → ℕ
source_number sources.Value = 1
source_number sources.Page = 2

-- what an output field writes, by its number
abbrev pub source_by_number : ℕ → Result Source Code
source_by_number = choice (sources.Value ∷ sources.Page ∷ []) source_number

-- blanks as 0, `*`, `$`
abbrev pub fill_number : Fill → ℕ
fill_number fills.Blank = 0
fill_number fills.Star = 42
fill_number fills.Dollar = 36

-- the fill with that number
abbrev pub fill_by_number : ℕ → Result Fill Code
fill_by_number = choice (fills.Blank ∷ fills.Star ∷ fills.Dollar ∷ []) fill_number

-- at least one, and at most 50
abbrev pub allowed_alternatives : ℕ → Result ℕ Code
allowed_alternatives n = if nat_lt 0 n then up_to 50 n else Err NotAllowed

-- ---- how a field is edited

-- 0, the character of a code, or `W`
abbrev pub letter_number : Letter → ℕ
letter_number letters.Plain = 0
letter_number (letters.Code code) = code_character code
letter_number letters.Word = 87

-- the letter of an edit code, if there is one
abbrev pub known_edit_code : Option EditCode → Result Letter Code
known_edit_code None = Err NotAllowed
known_edit_code (Some code) = Ok (letters.Code code)

-- how a field is edited, by its letter: not at all, by a code, or by a word
abbrev pub letter_of : ℕ → Result Letter Code
letter_of n = if n == 0 then Ok letters.Plain else (if n == 87 then Ok letters.Word else known_edit_code (code_of n))

-- edited by a word
abbrev pub is_word : Letter → Bool
is_word letters.Plain = false
is_word (letters.Code code) = false
is_word letters.Word = true

-- the field of a word, which is 0 if there is none
abbrev pub is_word_field : Letter → ℕ → Bool
is_word_field letter n = is_word letter || (n == 0)

-- how a field is edited, with the field of its word
abbrev pub editing_by_letter : Letter → ℕ → Editing ℕ
editing_by_letter letters.Plain field = editings.Plain
editing_by_letter (letters.Code code) field = editings.Code code
editing_by_letter letters.Word field = editings.Word field

-- the letter for how a field is edited
abbrev pub letter_in : Editing ℕ → Letter
letter_in editings.Plain = letters.Plain
letter_in (editings.Code code) = letters.Code code
letter_in (editings.Word field) = letters.Word

-- the field of the edit word; 0 if there is none
abbrev pub word_in : Editing ℕ → ℕ
word_in editings.Plain = 0
word_in (editings.Code code) = 0
word_in (editings.Word field) = field

-- ---- fields of lines, 16 bytes

-- the numbers of an output field, one after the other
abbrev pub LineFieldParts : Type 0
LineFieldParts = Source × (Letter × (Fill × (Bool × (Operand ℕ × (ℕ × (ℕ × Conditions))))))

-- kind, edit, fill, blank after, operand, field of the edit word, end, conditions
unfoldable pub line_field_parts : Format LineFieldParts
line_field_parts =
    pair (byte source_by_number source_number) (λ source. pair (byte letter_of letter_number) (λ letter. pair (byte fill_by_number fill_number) (λ fill. pair yes_or_no (λ is_blanked.
    pair operand (λ o. pair (number_where (is_word_field letter)) (λ word. pair any_number (λ end. conditions_format)))))))

-- an output field with its bytes
unfoldable pub line_field : Format (LineField ℕ)
line_field = row
    (λ p. record { source = p.0; operand = p.1.1.1.1.0; editing = editing_by_letter p.1.0 p.1.1.1.1.1.0; fill = p.1.1.0; is_blanked = p.1.1.1.0; end = p.1.1.1.1.1.1.0; conditions = p.1.1.1.1.1.1.1 })
    (λ f. (f.source, (letter_in f.editing, (f.fill, (f.is_blanked, (f.operand, (word_in f.editing, (f.end, f.conditions))))))))
    line_field_parts

-- ---- lines

-- the numbers of a line, one after the other
abbrev pub LineParts : Type 0
LineParts = File × (Time × (Spacing × (ℕ × (ℕ × (Unit {0} × (List (List Condition) × List (LineField ℕ)))))))

-- space before, space after, skip before, skip after
unfoldable pub spacing : Format Spacing
spacing = row
    (λ p. record { space_before = p.0; space_after = p.1.0; skip_before = p.1.1.0; skip_after = p.1.1.1 })
    (λ s. (s.space_before, (s.space_after, (s.skip_before, s.skip_after))))
    (pair any_byte (λ space_before. pair any_byte (λ space_after. pair any_byte (λ skip_before. any_byte))))

-- file, time, spacing, counts of alternatives and fields, 0, and these
unfoldable pub line_parts : Format LineParts
line_parts =
    pair (byte file_by_number file_number) (λ f. pair (byte time_by_number time_number) (λ t. pair spacing (λ s.
    pair (two_bytes allowed_alternatives (λ n. n)) (λ alternatives. pair (count 200) (λ fields. pair unused_number (λ nothing.
    pair (table alternatives alternative) (λ as_. table fields line_field)))))))

-- a line with its bytes
unfoldable pub line : Format LineRow
line = row
    (λ p. record { file = p.0; time = p.1.0; spacing = p.1.1.0; alternatives = p.1.1.1.1.1.1.0; fields = p.1.1.1.1.1.1.1 })
    (λ l. (l.file, (l.time, (l.spacing, (length l.alternatives, (length l.fields, (tt, (l.alternatives, l.fields))))))))
    line_parts

-- the bytes of a line before its alternatives and fields
abbrev pub line_head : LineRow → List ℕ
line_head l =
    file_number l.file ∷ time_number l.time
    ∷ l.spacing.space_before ∷ l.spacing.space_after ∷ l.spacing.skip_before ∷ l.spacing.skip_after
    ∷ length l.alternatives / 256 ∷ length l.alternatives % 256 ∷ length l.fields / 256 ∷ length l.fields % 256 ∷ 0 ∷ 0 ∷ []
