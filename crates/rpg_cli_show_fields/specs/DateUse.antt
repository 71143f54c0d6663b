-- Whether an object program uses the date of its job.
use Rattle.std.specs.Prelude.{ℕ, Bool, false, ◌||◌, List, Option, None, Some}
use Rattle.std.specs.List.{list_any}
use Rattle.rpg_program.specs.Forms.{form_at, is_date}
use Rattle.rpg_program.specs.Instructions.{instruction_columns}
use Rattle.rpg_program.specs.declared.form.FieldForm.{FieldForm}
use Rattle.rpg_program.specs.declared.line.LineField.{LineField}
use Rattle.rpg_program.specs.declared.operation.Index.{Index}
use Rattle.rpg_program.specs.declared.operation.Index.TheVariants as indexes
use Rattle.rpg_program.specs.declared.operation.Instruction.{Instruction}
use Rattle.rpg_program.specs.declared.operation.Operand.{Operand}
use Rattle.rpg_program.specs.declared.row.Row.{Row}
use Rattle.rpg_program.specs.declared.row.Use.{Use}
use Rattle.rpg_program.specs.Object.{Object, LineRow, SubroutineRow}

-- the form is the date's
abbrev pub is_date_form : Option FieldForm → Bool
is_date_form (Some form) = is_date form.class
is_date_form None = false

-- the field of this number is the date
abbrev pub is_date_at : List FieldForm → ℕ → Bool
is_date_at fields n = is_date_form (form_at fields n)

-- the index is the date
abbrev pub index_is_date : List FieldForm → Index ℕ → Bool
index_is_date fields (indexes.Field n) = is_date_at fields n
index_is_date fields i = false

-- an operand is the date, or the entry that the date names
abbrev pub operand_uses : List FieldForm → Operand ℕ → Bool
operand_uses fields o = is_date_at fields o.field || index_is_date fields o.index

-- an operand names the date
abbrev pub column_uses : List FieldForm → Option (Use (Operand ℕ)) → Bool
column_uses fields (Some column) = operand_uses fields column.operand
column_uses fields None = false

-- one of three operands names the date
abbrev pub row_uses : List FieldForm → Row (Operand ℕ) → Bool
row_uses fields row = column_uses fields row.factor1 || column_uses fields row.factor2 || column_uses fields row.result

-- an instruction names the date
abbrev pub instruction_uses : List FieldForm → Instruction ℕ → Bool
instruction_uses fields i = row_uses fields (instruction_columns (form_at fields) i)

-- an output field names the date
abbrev pub field_uses : List FieldForm → LineField ℕ → Bool
field_uses fields f = operand_uses fields f.operand

-- a line names the date
abbrev pub line_uses : List FieldForm → LineRow → Bool
line_uses fields l = list_any (field_uses fields) l.fields

-- a subroutine names the date
abbrev pub subroutine_uses : List FieldForm → SubroutineRow → Bool
subroutine_uses fields s = list_any (instruction_uses fields) s.instructions

-- an instruction or a field of a line uses it
abbrev pub uses_date : Object → Bool
uses_date p = list_any (instruction_uses p.fields) p.detail || list_any (instruction_uses p.fields) p.total || list_any (subroutine_uses p.fields) p.subroutines || list_any (line_uses p.fields) p.lines
