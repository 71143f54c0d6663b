-- Whole object programs: the bytes that encode them, and the faults of other bytes.
use Rattle.std.specs.Prelude.{◌≡◌, ℕ, ◌-◌, ◌≤◌, List, [], ◌∷◌, ◌++◌, length, drop, codes, Bool, true, false, ◌&&◌, ◌==◌, if◌then◌else◌, Option, Some, None, Result, Ok, Err}
use Rattle.rpg_program.specs.Input.{TypeRow}
use Rattle.rpg_program.specs.Values.{Value}
use Rattle.rpg_program.specs.declared.form.FieldForm.{FieldForm}
use Rattle.rpg_program.specs.declared.operation.Instruction.{Instruction}
use Rattle.rpg_object_format.specs.declared.fault.Code.{Code}
use Rattle.rpg_object_format.specs.declared.fault.Code.TheVariants.{NoObject, CutShort, LeftOver}
use Rattle.rpg_object_format.specs.declared.fault.Fault.{Fault}
use Rattle.rpg_object_format.specs.Format.{Format, pair, row, table, fault_at, ◌>>=◌}
use Rattle.rpg_program.specs.Object.{LineRow, Object, SubroutineRow}
use Rattle.rpg_program.specs.declared.rows.Version.{Version}
use Rattle.rpg_object_format.specs.Instructions.{instruction}
use Rattle.rpg_object_rows.specs.Lines.{line}
use Rattle.rpg_object_rows.specs.Types.{record_type_format}
use Rattle.rpg_object.specs.declared.header.Counts.{Counts}
use Rattle.rpg_object.specs.declared.header.Header.{Header}
use Rattle.rpg_object.specs.declared.header.Settings.{Settings}
use Rattle.rpg_object.specs.Fields.{fields}
use Rattle.rpg_object.specs.FirstValues.{values_format}
use Rattle.rpg_object.specs.Header.{header_format, most_instructions}
use Rattle.rpg_object.specs.Subroutines.{subroutines}

-- the tables of an object, in the order of its bytes
abbrev pub Tables : Type 0
Tables = List FieldForm × (List (List Value) × (List (TypeRow ℕ) × (List LineRow × (List (Instruction ℕ) × (List (Instruction ℕ) × List SubroutineRow)))))

-- fields, first values, types, lines, detail, total, subroutines
unfoldable pub tables : Version → Counts → Format Tables
tables v c =
    pair (fields c.fields) (λ fs.
    pair (values_format fs) (λ vs.
    pair (table c.types (record_type_format v)) (λ ts.
    pair (table c.lines line) (λ ls.
    pair (table c.detail instruction) (λ detail.
    pair (table c.total instruction) (λ total.
    subroutines c.subroutines (most_instructions - c.detail - c.total)))))))

-- the program of a header and its tables
abbrev pub object_of : Header × Tables → Object
object_of p = record {
  version = p.0.version;
  allowance = p.0.settings.allowance;
  record_length = p.0.settings.record_length;
  secondary_length = p.0.secondary_length;
  printer_length = p.0.settings.printer_length;
  disk_length = p.0.settings.disk_length;
  overflow = record { indicator = p.0.settings.overflow; page = p.0.page };
  ends = p.0.ends;
  fields = p.1.0;
  values = p.1.1.0;
  types = p.1.1.1.0;
  lines = p.1.1.1.1.0;
  detail = p.1.1.1.1.1.0;
  total = p.1.1.1.1.1.1.0;
  subroutines = p.1.1.1.1.1.1.1;
}

-- what the header says about files, allowance and overflow
abbrev pub settings_of : Object → Settings
settings_of p = record { allowance = p.allowance; record_length = p.record_length; printer_length = p.printer_length; disk_length = p.disk_length; overflow = p.overflow.indicator }

-- how many rows each table has
abbrev pub counts_of : Object → Counts
counts_of p = record { fields = length p.fields; types = length p.types; lines = length p.lines; detail = length p.detail; total = length p.total; subroutines = length p.subroutines }

-- the header of an object
abbrev pub header_of : Object → Header
header_of p = record { version = p.version; settings = settings_of p; counts = counts_of p; secondary_length = p.secondary_length; page = p.overflow.page; ends = p.ends }

-- the tables of an object, in order
abbrev pub tables_of : Object → Tables
tables_of p = (p.fields, (p.values, (p.types, (p.lines, (p.detail, (p.total, p.subroutines))))))

-- an object after its name
unfoldable pub body : Format Object
body = row object_of (λ p. (header_of p, tables_of p)) (pair header_format (λ h. tables h.version h.counts))

-- ---- whole objects

-- the characters that every object begins with
abbrev pub object_name : List ℕ
object_name = codes "RPGOBJ"

-- the bytes of an object program
abbrev pub spelling : Object → List ℕ
spelling p = object_name ++ body.spelling p

-- no byte is left
abbrev pub wholly_read : Object × List ℕ → Result Object Fault
wholly_read (p, []) = Ok p
wholly_read (p, b ∷ rest) = Err (fault_at (b ∷ rest) LeftOver)

-- the bytes begin with these
abbrev pub begins_with : List ℕ → List ℕ → Bool
begins_with [] bytes = true
begins_with (x ∷ xs) [] = false
begins_with (x ∷ xs) (b ∷ bytes) = x == b && begins_with xs bytes

-- the program that bytes encode, or their first fault
unfoldable pub reading : List ℕ → Result Object Fault
reading bytes = if begins_with object_name bytes then (body.reading (drop 6 bytes) >>= wholly_read) else Err (fault_at bytes NoObject)

-- ---- faults by their offsets

-- the fault, and how many bytes come before it
abbrev pub fault_in : List ℕ → Result Object Fault → Option (ℕ × Code)
fault_in bytes (Ok p) = None
fault_in bytes (Err f) = Some (length bytes - f.left, f.code)

-- the offset and the code of the first number that breaks its rule
unfoldable pub first_fault : List ℕ → Option (ℕ × Code)
first_fault bytes = fault_in bytes (reading bytes)

-- Appending bytes changes neither the offset nor the code of a fault, unless they may complete a number or the name that is cut short.
abbrev pub FaultStays : List ℕ → List ℕ → Type 0
FaultStays bytes more = (offset : ℕ) (code : Code) → first_fault bytes ≡ Some (offset, code) → (code ≡ CutShort → ⊥) → (code ≡ NoObject → 6 ≤ length bytes) → first_fault (bytes ++ more) ≡ Some (offset, code)
