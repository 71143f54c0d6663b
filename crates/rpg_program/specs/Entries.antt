-- What operands name: one entry of their field, stated once for operations and for fields of lines.
use Rattle.std.specs.Prelude.{ℕ, ℤ, pos, negsuc, ◌&&◌, nat_le, Option, None, Some, unwrap_or, if◌then◌else◌}
use Rattle.std.specs.declared.cmp.Ordering.{Ordering}
use Rattle.rpg_program.specs.Forms.{entries_of, is_table_form}
use Rattle.rpg_program.specs.Values.{number_of}
use Rattle.rpg_program.specs.World.{Fields, current_in, value_in}
use Rattle.rpg_program.specs.declared.form.FieldForm.{FieldForm}
use Rattle.rpg_program.specs.declared.operation.Entry.{Entry}
use Rattle.rpg_program.specs.declared.operation.Index.{Index}
use Rattle.rpg_program.specs.declared.operation.Index.TheVariants.{Blank, Literal, Field}
use Rattle.rpg_program.specs.declared.operation.Operand.{Operand}

-- a number as a position, from 1 to the entries
abbrev pub in_range : ℕ → ℤ → Option ℕ
in_range entries (pos n) = if nat_le 1 n && nat_le n entries then Some n else None
in_range entries (negsuc n) = None

module _ {K : Type 0} {R : K → K → Ordering} (forms : K → Option FieldForm) where
  -- without an index, the current entry of a table, and the first of any other field
  abbrev pub position_by : Fields R → K → Index K → Option ℕ
  position_by fields field Blank = Some (if is_table_form (forms field) then current_in fields field else 1)
  position_by fields field (Literal n) = Some n
  position_by fields field (Field k) = in_range (entries_of (forms field)) (number_of (value_in fields (k, 1)))

  -- the position that an operand names now; none if the number in its index field is out of range
  unfoldable pub position_of : Fields R → Operand K → Option ℕ
  position_of fields o = position_by fields o.field o.index

  -- the entry that it names, if any
  unfoldable pub entry_of : Fields R → Operand K → Entry K
  entry_of fields o = record { field = o.field; index = o.index; position = unwrap_or (position_of fields o) 0 }
