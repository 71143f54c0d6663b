-- Operands: a field, and which entry of it.
use Rattle.std.specs.Prelude.{ℕ, ◌+◌, ◌-◌, ◌==◌, nat_le, if◌then◌else◌, Option, Some, None, Result, Ok}
use Rattle.rpg_program.specs.declared.operation.Index.{Index}
use Rattle.rpg_program.specs.declared.operation.Index.TheVariants.{Blank, Literal, Field}
use Rattle.rpg_program.specs.declared.operation.Operand.{Operand}
use Rattle.rpg_object_format.specs.declared.fault.Code.{Code}
use Rattle.rpg_object_format.specs.Format.{Format, two_bytes, pair, row}
use Rattle.rpg_object_format.specs.Numbers.{any_number}
use Rattle.rpg_object_format.specs.Shapes.{unused_number}

-- 0 for no index, 1 to 9,999 for a literal, and 10,000 plus its number for a field
abbrev pub index_by_number : ℕ → Index ℕ
index_by_number n = if n == 0 then Blank else (if nat_le n 9999 then Literal n else Field (n - 10000))

-- an index as a number: 0 for none, above 10,000 for a field
abbrev pub index_number : Index ℕ → ℕ
index_number Blank = 0
index_number (Literal n) = n
index_number (Field k) = 10000 + k

-- the index with that number
abbrev pub index_rule : ℕ → Result (Index ℕ) Code
index_rule n = Ok (index_by_number n)

-- an index with its bytes
abbrev pub index : Format (Index ℕ)
index = two_bytes index_rule index_number

-- field, index
unfoldable pub operand : Format (Operand ℕ)
operand = row
    (λ p. record { field = p.0; index = p.1 })
    (λ o. (o.field, o.index))
    (pair any_number (λ field. index))

-- ---- no operand

-- the operand that encodes none: field 0 without an index
abbrev pub no_operand : Operand ℕ
no_operand = record { field = 0; index = Blank }

-- a field and an index that are 0
unfoldable pub unused_operand : Format (Unit {0})
unused_operand = row (λ p. tt) (λ u. (tt, tt)) (pair unused_number (λ field. unused_number))

-- the operand, if it is one
abbrev pub if_operand : ℕ → Index ℕ → Option (Operand ℕ)
if_operand field Blank = if field == 0 then None else Some (record { field = field; index = Blank })
if_operand field (Literal n) = Some (record { field = field; index = Literal n })
if_operand field (Field k) = Some (record { field = field; index = Field k })

-- the operand, if there is one
abbrev pub optional_of : Operand ℕ → Option (Operand ℕ)
optional_of o = if_operand o.field o.index

-- an operand, or the encoding of none
abbrev pub operand_or_none : Option (Operand ℕ) → Operand ℕ
operand_or_none None = no_operand
operand_or_none (Some o) = o
