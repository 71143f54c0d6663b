-- An object program as its rows, independent of where their tables are in memory.
use Rattle.std.specs.Prelude.{ℕ, Bool, true, false, not, ◌==◌, List, map, Option}
use Rattle.rpg_program.specs.Input.{TypeRow}
use Rattle.rpg_program.specs.Lines as lines
use Rattle.rpg_program.specs.Values.{Value, entries_held}
use Rattle.rpg_program.specs.declared.condition.Condition.{Condition}
use Rattle.rpg_program.specs.declared.form.FieldForm.{FieldForm}
use Rattle.rpg_program.specs.declared.input.InputFile.{InputFile}
use Rattle.rpg_program.specs.declared.input.InputFile.TheVariants.{Primary, Secondary}
use Rattle.rpg_program.specs.declared.line.File.{File}
use Rattle.rpg_program.specs.declared.line.File.TheVariants as files
use Rattle.rpg_program.specs.declared.line.LineField.{LineField}
use Rattle.rpg_program.specs.declared.line.Spacing.{Spacing}
use Rattle.rpg_program.specs.declared.line.Time.{Time}
use Rattle.rpg_program.specs.declared.operation.Instruction.{Instruction}
use Rattle.rpg_program.specs.declared.rows.Line.{Line}
use Rattle.rpg_program.specs.declared.rows.Overflow.{Overflow}
use Rattle.rpg_program.specs.declared.rows.RecordType.{RecordType}
use Rattle.rpg_program.specs.declared.rows.Rows.{Rows}
use Rattle.rpg_program.specs.declared.rows.Subroutine.{Subroutine}
use Rattle.rpg_program.specs.declared.rows.Version.{Version}
use Rattle.rpg_program.specs.declared.rows.Version.TheVariants.{One, Two, Three}

-- an output line, as its row has it
pub record LineRow : Type 0 where
  pub file : File
  pub time : Time
  pub spacing : Spacing
  pub alternatives : List (List Condition)
  pub fields : List (LineField ℕ)

-- a subroutine
pub record SubroutineRow : Type 0 where
  pub level : ℕ
  pub instructions : List (Instruction ℕ)

-- an object program
pub record Object : Type 0 where
  pub version : Version
  pub allowance : ℕ
  pub record_length : ℕ
  pub secondary_length : ℕ
  pub printer_length : ℕ
  pub disk_length : ℕ
  pub overflow : Overflow
  pub ends : Option InputFile
  pub fields : List FieldForm
  pub values : List (List Value)
  pub types : List (TypeRow ℕ)
  pub lines : List LineRow
  pub detail : List (Instruction ℕ)
  pub total : List (Instruction ℕ)
  pub subroutines : List SubroutineRow

-- a record type as a row
abbrev pub type_row : RecordType → TypeRow ℕ
type_row t = record { file = t.file; indicator = t.indicator; codes = t.codes.items; levels = t.levels.items; inputs = t.inputs.items; matches = t.matches.items }

-- a line as a row
abbrev pub line_row : Line → LineRow
line_row l = record { file = l.file; time = l.time; spacing = l.spacing; alternatives = map (λ a. a.items) l.alternatives.items; fields = l.fields.items }

-- a subroutine as a row
abbrev pub subroutine_row : Subroutine → SubroutineRow
subroutine_row s = record { level = s.level; instructions = s.instructions.items }

-- the program that these rows make
abbrev pub seen : Rows → Object
seen r = record {
  version = r.version;
  allowance = r.allowance;
  record_length = r.record_length;
  secondary_length = r.secondary_length;
  printer_length = r.printer_length;
  disk_length = r.disk_length;
  overflow = r.overflow;
  ends = r.ends;
  fields = r.fields.items;
  values = map entries_held r.values.items;
  types = map type_row r.types.items;
  lines = map line_row r.lines.items;
  detail = r.detail.items;
  total = r.total.items;
  subroutines = map subroutine_row r.subroutines.items;
}

-- ---- versions

-- the number of a version
abbrev pub version_number : Version → ℕ
version_number One = 1
version_number Two = 2
version_number Three = 3

-- a version with a secondary file and match fields
abbrev pub has_secondary : Version → Bool
has_secondary One = false
has_secondary Two = true
has_secondary Three = true

-- a version with a page of its own, and a file that can end the job alone
abbrev pub has_page : Version → Bool
has_page One = false
has_page Two = false
has_page Three = true

-- ---- input files

-- the length of a file's records, 0 if there is no such file
abbrev pub input_length : Object → InputFile → ℕ
input_length p Primary = p.record_length
input_length p Secondary = p.secondary_length

-- the file exists if its records have a length
abbrev pub has_file : Object → InputFile → Bool
has_file p f = not (input_length p f == 0)

-- ---- lines as output knows them

-- the length of a file's lines or records, 0 if there is no such file
abbrev pub file_length : Object → File → ℕ
file_length p files.Printer = p.printer_length
file_length p files.Disk = p.disk_length

-- a line of the program, with the length of its file
abbrev pub program_line : Object → LineRow → lines.Line ℕ
program_line p l = record { file = l.file; time = l.time; len = file_length p l.file; spacing = l.spacing; alternatives = l.alternatives; fields = l.fields }

-- all lines of the program
abbrev pub lines_of : Object → List (lines.Line ℕ)
lines_of p = map (program_line p) p.lines
