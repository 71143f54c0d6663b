-- What the columns of an operation give of its entries.
use Rattle.std.proofs.Common.{◌≡◌, ℕ, Bool, true, List, Option, None, Some}
use Rattle.std.specs.Option.{option_map}
use Rattle.rpg_program.specs.Act.{field_of_entry}
use Rattle.rpg_program.specs.Forms.{entries_of, kind_of}
use Rattle.rpg_program.specs.Rows.{holds_position, holds_positions, row_of}
use Rattle.rpg_program.specs.declared.form.FieldForm.{FieldForm}
use Rattle.rpg_program.specs.declared.form.Kind.TheVariants as kinds
use Rattle.rpg_program.specs.declared.operation.Action.TheVariants.{Compute, Divide, Assign, TakeRemainder, CrossFoot, LookUp, Move}
use Rattle.rpg_program.specs.declared.operation.Entry.{Entry}
use Rattle.rpg_program.specs.declared.operation.Operand.{Operand}
use Rattle.rpg_program.specs.declared.operation.Operator.{Operator}
use Rattle.rpg_program.specs.declared.operation.Shows.{Shows}
use Rattle.rpg_program.specs.declared.operation.Side.{Side}
use Rattle.rpg_program.specs.declared.form.Kind.{Kind}
use Rattle.rpg_program.specs.declared.row.Shape.{Shape}
use Rattle.rpg_program.specs.declared.row.Shape.TheVariants as shapes
use Rattle.rpg_memory.specs.Fields.{IsValue, reads_index}
use Rattle.rpg_machine_operations.specs.Valid.{AreOperandEntries, IsOperandEntry, IsRightAction}
use Rattle.rpg_machine_operations.specs.Words.{operand_field}
use Rattle.rpg_machine_operations.proofs.Rights.{reads_shape}
use Rattle.rpg_program.specs.Forms.{form_at}

module _ (forms : List FieldForm) where
  abbrev pub IsNumber : Entry ℕ → Type 0
  IsNumber e = IsValue forms kinds.Number e.field e.position

  abbrev pub IsLike : Entry ℕ → Entry ℕ → Type 0
  IsLike a e = IsValue forms (kind_of (form_at forms a.field)) e.field e.position

  pub compute_entries : (f : Operator) (half : Bool) (a b r : Entry ℕ) (s : Shows) → AreOperandEntries forms (Compute f half a b r s) → IsNumber a × (IsNumber b × IsNumber r)
  unfolding row_of
  compute_entries f half a b r s h = (h.factor1.value, (h.factor2.value, h.result.value))

  pub divide_entries : (half : Bool) (a b r : Entry ℕ) (s : Shows) → AreOperandEntries forms (Divide half a b r s) → IsNumber a × (IsNumber b × IsNumber r)
  unfolding row_of
  divide_entries half a b r s h = (h.factor1.value, (h.factor2.value, h.result.value))

  pub assign_entries : (negated half : Bool) (b r : Entry ℕ) (s : Shows) → AreOperandEntries forms (Assign negated half b r s) → IsNumber b × IsNumber r
  unfolding row_of
  assign_entries negated half b r s h = (h.factor2.value, h.result.value)

  pub remainder_entries : (r : Entry ℕ) (s : Shows) → AreOperandEntries forms (TakeRemainder r s) → IsNumber r
  unfolding row_of
  remainder_entries r s h = h.result.value

  pub cross_entries : (half : Bool) (b r : Entry ℕ) (s : Shows) → AreOperandEntries forms (CrossFoot half b r s) → IsNumber b × IsNumber r
  unfolding row_of
  cross_entries half b r s h = (h.factor2.value, h.result.value)

  pub move_entries : (side : Side) (b r : Entry ℕ) → AreOperandEntries forms (Move side b r) → IsLike b b × IsLike r r
  unfolding row_of
  move_entries side b r h = (h.factor2.value, h.result.value)

  pub look_entries : (a b : Entry ℕ) (r : Option (Entry ℕ)) (s : Shows) → AreOperandEntries forms (LookUp a b r s) → IsLike a a × IsLike a b
  unfolding row_of
  look_entries a b r s h = (h.factor1.value, h.factor2.value)

  entry_reads : (s : Shape) (k : Kind) (e : Entry ℕ) → IsOperandEntry forms s k e → reads_index forms e.index ≡ true
  entry_reads s k e h = reads_shape forms s h.value.form e.index h.shape

  pub look_reads : (a b : Entry ℕ) (r : Option (Entry ℕ)) (s : Shows) → AreOperandEntries forms (LookUp a b r s) → reads_index forms b.index ≡ true
  unfolding row_of
  look_reads a b r s h = entry_reads shapes.Searched (kind_of (form_at forms a.field)) b h.factor2

  pub look_positions : (a b : Entry ℕ) (r : Option (Entry ℕ)) (s : Shows) → AreOperandEntries forms (LookUp a b r s) →
      holds_position (form_at forms) b.index (option_map field_of_entry r) (entries_of (form_at forms b.field)) ≡ true
  unfolding row_of holds_positions
  look_positions a b None s h = h.positions
  look_positions a b (Some r) s h = h.positions

-- whatever a search finds fits the index field of factor 2 and the result's table
pub sought_positions : (forms : List FieldForm) (a b : Operand ℕ) (r : Option (Operand ℕ)) (s : Shows) → IsRightAction forms (LookUp a b r s) →
    holds_position (form_at forms) b.index (operand_field r) (entries_of (form_at forms b.field)) ≡ true
unfolding row_of holds_positions
sought_positions forms a b None s h = h.positions
sought_positions forms a b (Some r) s h = h.positions
