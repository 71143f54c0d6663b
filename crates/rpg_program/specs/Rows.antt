-- The table of operations: one row each, and what is required of the operands in its columns.
use Rattle.std.specs.Prelude.{ℕ, ◌^◌, Bool, true, false, not, ◌&&◌, ◌||◌, nat_le, nat_lt, Option, None, Some, is_some, if◌then◌else◌}
use Rattle.rpg_program.specs.Forms.{entries_of, has_field, is_array, is_index_form, is_table, is_table_form, kind_of, length_of, may_write, same_kind}
use Rattle.rpg_program.specs.declared.form.FieldForm.{FieldForm}
use Rattle.rpg_program.specs.declared.form.Kind.{Kind}
use Rattle.rpg_program.specs.declared.form.Kind.TheVariants as kinds
use Rattle.rpg_program.specs.declared.operation.Action.{Action}
use Rattle.rpg_program.specs.declared.operation.Action.TheVariants.{Compute, Divide, Assign, TakeRemainder, CrossFoot, Compare, LookUp, Move, SetIndicators}
use Rattle.rpg_program.specs.declared.operation.Index.{Index}
use Rattle.rpg_program.specs.declared.operation.Index.TheVariants.{Blank, Literal, Field}
use Rattle.rpg_program.specs.declared.row.Marks.{Marks}
use Rattle.rpg_program.specs.declared.row.Marks.TheVariants.{Unmarked, Shown, Wanted, Sought}
use Rattle.rpg_program.specs.declared.operation.Operand.{Operand}
use Rattle.rpg_program.specs.declared.row.Row.{Row}
use Rattle.rpg_program.specs.declared.row.Shape.{Shape}
use Rattle.rpg_program.specs.declared.row.Shape.TheVariants as shapes
use Rattle.rpg_program.specs.declared.row.Use.{Use}

-- the form of the field that an operand names
abbrev pub form_of : {K : Type 0} → (K → Option FieldForm) → Operand K → Option FieldForm
form_of forms o = forms o.field

-- ---- the table

-- an operand with the shape and the kind that its column requires
abbrev pub use_of : {O : Type 0} → Shape → Kind → O → Option (Use O)
use_of s k o = Some (record { operand = o; kind = k; shape = s })

-- `form` gives the form of the field that an operand names
module _ {O : Type 0} (form : O → Option FieldForm) where
  -- an entry that is a number
  abbrev pub number_use : O → Option (Use O)
  number_use o = use_of shapes.One kinds.Number o

  -- an entry of any kind
  abbrev pub any : O → Option (Use O)
  any o = use_of shapes.One (kind_of (form o)) o

  -- an entry of the same kind as another
  abbrev pub like : O → O → Option (Use O)
  like a o = use_of shapes.One (kind_of (form a)) o

  -- a whole numeric array
  abbrev pub numbers_use : O → Option (Use O)
  numbers_use o = use_of shapes.Whole kinds.Number o

  -- a table or an array of the same kind as another
  abbrev pub searched : O → O → Option (Use O)
  searched a o = use_of shapes.Searched (kind_of (form a)) o

  -- nothing, or a table of any kind
  abbrev pub table_use : Option O → Option (Use O)
  table_use None = None
  table_use (Some o) = use_of shapes.Table (kind_of (form o)) o

  -- the row of each operation
  unfoldable pub row_of : Action O → Row O
  row_of (Compute f half a b r s) = record { factor1 = number_use a; factor2 = number_use b; result = number_use r; marks = Shown s }
  row_of (Divide half a b r s) = record { factor1 = number_use a; factor2 = number_use b; result = number_use r; marks = Shown s }
  row_of (Assign negated half b r s) = record { factor1 = None; factor2 = number_use b; result = number_use r; marks = Shown s }
  row_of (TakeRemainder r s) = record { factor1 = None; factor2 = None; result = number_use r; marks = Shown s }
  row_of (CrossFoot half b r s) = record { factor1 = None; factor2 = numbers_use b; result = number_use r; marks = Shown s }
  row_of (Compare a b s) = record { factor1 = any a; factor2 = like a b; result = None; marks = Wanted s }
  row_of (LookUp a b r s) = record { factor1 = any a; factor2 = searched a b; result = table_use r; marks = Sought s }
  row_of (Move side b r) = record { factor1 = None; factor2 = any b; result = any r; marks = Unmarked }
  row_of (SetIndicators on s) = record { factor1 = None; factor2 = None; result = None; marks = Wanted s }

-- ---- requirements on the columns

-- the operand of a column passes, if there is one
abbrev pub all_used : {O : Type 0} → (Use O → Bool) → Option (Use O) → Bool
all_used test None = true
all_used test (Some u) = test u

-- in all columns
abbrev pub all_of : {O : Type 0} → (Use O → Bool) → Row O → Bool
all_of test r = all_used test r.factor1 && (all_used test r.factor2 && all_used test r.result)

-- there is no index
abbrev pub is_blank_index : {K : Type 0} → Index K → Bool
is_blank_index Blank = true
is_blank_index (Literal n) = false
is_blank_index (Field k) = false

-- whether a result of that shape is stored in its entry
abbrev pub is_stored : Shape → Bool
is_stored shapes.One = true
is_stored s = false

-- as an operand, a table whose entry becomes current is any entry
abbrev pub operand_shape : Shape → Shape
operand_shape shapes.Table = shapes.One
operand_shape s = s

-- a search for both the next one above and the next one below
abbrev pub is_two_sided : Marks → Bool
is_two_sided (Sought s) = is_some s.plus && is_some s.minus
is_two_sided m = false

-- what becomes current is a table
abbrev pub is_table_as : Shape → Option FieldForm → Bool
is_table_as shapes.Table form = is_table_form form
is_table_as s form = true

module _ {K : Type 0} (forms : K → Option FieldForm) where
  -- the entry of an array that a literal names exists, or the field that an index names exists
  abbrev pub has_index : FieldForm → Index K → Bool
  has_index d Blank = true
  has_index d (Literal n) = not (is_array d.class) || (nat_le 1 n && nat_le n d.entries)
  has_index d (Field k) = has_field (forms k)

  -- a field, and an existing index
  abbrev pub has_operand : Option FieldForm → Index K → Bool
  has_operand None index = false
  has_operand (Some d) index = has_index d index

  -- the entry that an operand names exists
  abbrev pub has_entry : Operand K → Bool
  has_entry o = has_operand (forms o.field) o.index

  -- the entry that a column names exists
  abbrev pub is_there : Use (Operand K) → Bool
  is_there u = has_entry u.operand

  -- one entry: only an array has an index, which is a literal or a plain number without decimals
  abbrev pub is_one : FieldForm → Index K → Bool
  is_one d Blank = not (is_array d.class)
  is_one d (Literal n) = is_array d.class
  is_one d (Field k) = is_array d.class && is_index_form (forms k)

  -- the index is as the shape requires
  abbrev pub has_shape : Shape → FieldForm → Index K → Bool
  has_shape shapes.One d index = is_one d index
  has_shape shapes.Whole d index = is_array d.class && is_blank_index index
  has_shape shapes.Searched d index = if is_blank_index index then is_array d.class || is_table d.class else is_one d index
  has_shape shapes.Table d index = is_table d.class && is_blank_index index

  -- the field exists, and the index is as the shape requires
  abbrev pub is_shaped : Option FieldForm → Shape → Index K → Bool
  is_shaped None s index = false
  is_shaped (Some d) s index = has_shape s d index

  -- an operand is a single entry, not a whole array
  abbrev pub is_one_entry : Operand K → Bool
  is_one_entry o = is_shaped (forms o.field) shapes.One o.index

  -- of that kind and that shape
  abbrev pub has_form : Option FieldForm → Use (Operand K) → Bool
  has_form None u = false
  has_form (Some d) u = same_kind d.kind u.kind && has_shape u.shape d u.operand.index

  -- its kind and its shape are those that its column requires
  abbrev pub fits_use : Use (Operand K) → Bool
  fits_use u = has_form (forms u.operand.field) u

  -- its field may be written
  abbrev pub is_writable_use : Use (Operand K) → Bool
  is_writable_use u = may_write (forms u.operand.field)

  -- it is a table, if an entry of it becomes current
  abbrev pub is_current_table : Use (Operand K) → Bool
  is_current_table u = is_table_as u.shape (forms u.operand.field)

  -- it may be written, if something is stored in it
  abbrev pub is_written : Use (Operand K) → Bool
  is_written u = not (is_stored u.shape) || is_writable_use u

  -- its kind is the one that its column requires
  abbrev pub has_kind : Use (Operand K) → Bool
  has_kind u = same_kind (kind_of (forms u.operand.field)) u.kind

  -- it is a valid operand: its field and its index exist, and the index is as its shape requires
  abbrev pub is_valid_operand : Use (Operand K) → Bool
  is_valid_operand u = is_there u && is_shaped (forms u.operand.field) (operand_shape u.shape) u.operand.index

  -- a field or an entry that doesn't exist, or a write that isn't allowed
  unfoldable pub lacks_storage : Row (Operand K) → Bool
  lacks_storage r = not (all_of is_there r && all_used is_written r.result)

  -- an operand whose kind or shape isn't the one that its column requires, or a search that names both HI and LO
  unfoldable pub mixes_kinds : Row (Operand K) → Bool
  mixes_kinds r = not (all_of fits_use r) || is_two_sided r.marks

  -- ---- positions that a search may find

  -- an index field can hold a position
  abbrev pub can_hold : Index K → ℕ → Bool
  can_hold Blank n = true
  can_hold (Literal m) n = true
  can_hold (Field k) n = nat_lt n (10 ^ length_of (forms k))

  -- a position that the index field can hold, and that the table has
  abbrev pub holds_position : Index K → Option K → ℕ → Bool
  holds_position index None n = can_hold index n
  holds_position index (Some table) n = can_hold index n && nat_le n (entries_of (forms table))

  -- the field in a column, if there is one
  abbrev pub field_of : Option (Use (Operand K)) → Option K
  field_of None = None
  field_of (Some u) = Some u.operand.field

  -- the last position is one that the index field and the result's table can take
  abbrev pub holds_all : Option (Use (Operand K)) → Use (Operand K) → Bool
  holds_all table u = holds_position u.operand.index (field_of table) (entries_of (forms u.operand.field))

  -- it is searched
  abbrev pub is_searched : Shape → Bool
  is_searched shapes.Searched = true
  is_searched s = false

  -- any result of a search fits its index field and the result's table
  unfoldable pub holds_positions : Row (Operand K) → Bool
  holds_positions r = all_used (λ u. not (is_searched u.shape) || holds_all r.result u) r.factor2
