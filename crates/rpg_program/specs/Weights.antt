-- The weights of lines, types and instructions.
use Rattle.std.specs.Prelude.{ℕ, ◌+◌, Bool, true, false, List, [], ◌∷◌, length, Option, None, Some, if◌then◌else◌}
use Rattle.rpg_program.specs.Forms.{entries_of}
use Rattle.rpg_program.specs.Input.{TypeRow}
use Rattle.rpg_program.specs.Instructions.{instruction_columns}
use Rattle.rpg_program.specs.Lines.{Line}
use Rattle.rpg_program.specs.declared.form.FieldForm.{FieldForm}
use Rattle.rpg_program.specs.declared.line.Time.{Time}
use Rattle.rpg_program.specs.declared.line.Time.TheVariants as times
use Rattle.rpg_program.specs.declared.operation.Instruction.{Instruction}
use Rattle.rpg_program.specs.declared.operation.Instruction.TheVariants.{Except}
use Rattle.rpg_program.specs.declared.operation.Operand.{Operand}
use Rattle.rpg_program.specs.declared.row.Row.{Row}
use Rattle.rpg_program.specs.declared.row.Shape.{Shape}
use Rattle.rpg_program.specs.declared.row.Shape.TheVariants as shapes
use Rattle.rpg_program.specs.declared.row.Use.{Use}

-- ---- lines

-- a line weighs one, and one more for each of its fields
abbrev pub line_weight : {K : Type 0} → Line K → ℕ
line_weight l = 1 + length l.fields

-- the lines of the given times
abbrev pub lines_weight : {K : Type 0} → (Time → Bool) → List (Line K) → ℕ
lines_weight is_meant [] = 0
lines_weight is_meant (l ∷ ls) = (if is_meant l.time then line_weight l else 0) + lines_weight is_meant ls

-- H and D lines
abbrev pub is_at_detail : Time → Bool
is_at_detail times.Heading = true
is_at_detail times.Detail = true
is_at_detail time = false

-- T lines
abbrev pub is_at_total : Time → Bool
is_at_total times.Total = true
is_at_total time = false

-- E lines
abbrev pub is_exception : Time → Bool
is_exception times.Exception = true
is_exception time = false

-- H, D and T lines
abbrev pub is_in_cycle : Time → Bool
is_in_cycle times.Exception = false
is_in_cycle time = true

-- detail output weighs all H and D lines, tested or placed
abbrev pub detail_weight : {K : Type 0} → List (Line K) → ℕ
detail_weight lines = lines_weight is_at_detail lines

-- total output weighs all T lines
abbrev pub total_weight : {K : Type 0} → List (Line K) → ℕ
total_weight lines = lines_weight is_at_total lines

-- overflow output weighs all H, D and T lines
abbrev pub overflow_weight : {K : Type 0} → List (Line K) → ℕ
overflow_weight lines = lines_weight is_in_cycle lines

-- EXCPT outputs all E lines
abbrev pub exceptions_weight : {K : Type 0} → List (Line K) → ℕ
exceptions_weight lines = lines_weight is_exception lines

-- ---- types

-- each code, control field, input field and match field of a type has weight one
abbrev pub type_weight : {K : Type 0} → TypeRow K → ℕ
type_weight t = length t.codes + length t.levels + length t.inputs + length t.matches

-- all types together
abbrev pub types_weight : {K : Type 0} → List (TypeRow K) → ℕ
types_weight [] = 0
types_weight (t ∷ ts) = type_weight t + types_weight ts

-- ---- instructions

-- whether all entries count
abbrev pub goes_through : Shape → Bool
goes_through shapes.Whole = true
goes_through shapes.Searched = true
goes_through s = false

-- the weight of EXCPT besides its own step, given that of all exception lines
abbrev pub exceptions_of : {K : Type 0} → ℕ → Instruction K → ℕ
exceptions_of exceptions Except = exceptions
exceptions_of exceptions i = 0

module _ {K : Type 0} (forms : K → Option FieldForm) where
  -- the weight of an operand that the operation goes through is its number of entries
  abbrev pub use_weight : Option (Use (Operand K)) → ℕ
  use_weight None = 0
  use_weight (Some u) = if goes_through u.shape then entries_of (forms u.operand.field) else 0

  -- an operation has weight one, plus the entries that it goes through
  unfoldable pub row_weight : Row (Operand K) → ℕ
  row_weight r = 1 + use_weight r.factor2

  -- an instruction has weight one; LOKUP and XFOOT add entries, EXCPT the weight of all exception lines
  unfoldable pub instruction_weight : ℕ → Instruction K → ℕ
  instruction_weight exceptions i = row_weight (instruction_columns forms i) + exceptions_of exceptions i
