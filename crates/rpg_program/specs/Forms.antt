-- Forms of fields.
use Rattle.std.specs.Prelude.{ℕ, zero, suc, ◌*◌, Bool, true, false, ◌&&◌, ◌==◌, List, Option, None, Some, slice_get}
use Rattle.rpg_program.specs.declared.form.Class.{Class}
use Rattle.rpg_program.specs.declared.form.Class.TheVariants as classes
use Rattle.rpg_program.specs.declared.form.FieldForm.{FieldForm}
use Rattle.rpg_program.specs.declared.form.Kind.{Kind}
use Rattle.rpg_program.specs.declared.form.Kind.TheVariants as kinds

-- the form of a field of a program, whose fields are numbered from 1
abbrev pub form_at : List FieldForm → ℕ → Option FieldForm
form_at fields zero = None
form_at fields (suc n) = slice_get fields n

-- ---- terms for kinds and classes

-- two kinds are the same
abbrev pub same_kind : Kind → Kind → Bool
same_kind kinds.Number kinds.Number = true
same_kind kinds.Text kinds.Text = true
same_kind k l = false

-- neither an array nor a table, and neither a constant nor the date
abbrev pub is_plain : Class → Bool
is_plain classes.Plain = true
is_plain c = false

-- an array
abbrev pub is_array : Class → Bool
is_array classes.Array = true
is_array c = false

-- a table
abbrev pub is_table : Class → Bool
is_table classes.Table = true
is_table c = false

-- a constant
abbrev pub is_constant : Class → Bool
is_constant classes.Constant = true
is_constant c = false

-- the date of the job
abbrev pub is_date : Class → Bool
is_date classes.Date = true
is_date c = false

-- constants and the date are never written
abbrev pub is_writable : Class → Bool
is_writable classes.Constant = false
is_writable classes.Date = false
is_writable c = true

-- the bytes that a field of this form takes
abbrev pub size_of : FieldForm → ℕ
size_of form = form.length * form.entries

-- ---- terms for the form that a field may have

-- the field exists
abbrev pub has_field : Option FieldForm → Bool
has_field None = false
has_field (Some d) = true

-- its kind; if there is no field, number
abbrev pub kind_of : Option FieldForm → Kind
kind_of None = kinds.Number
kind_of (Some d) = d.kind

-- its length; if there is no field, 0
abbrev pub length_of : Option FieldForm → ℕ
length_of None = 0
length_of (Some d) = d.length

-- its decimals; if there is no field, 0
abbrev pub decimals_of : Option FieldForm → ℕ
decimals_of None = 0
decimals_of (Some d) = d.decimals

-- its entries; if there is no field, 0
abbrev pub entries_of : Option FieldForm → ℕ
entries_of None = 0
entries_of (Some d) = d.entries

-- the field exists, and it is a table
abbrev pub is_table_form : Option FieldForm → Bool
is_table_form None = false
is_table_form (Some d) = is_table d.class

-- the field exists, and it is plain
abbrev pub is_plain_form : Option FieldForm → Bool
is_plain_form None = false
is_plain_form (Some d) = is_plain d.class

-- the field exists, and it may be written
abbrev pub may_write : Option FieldForm → Bool
may_write None = false
may_write (Some d) = is_writable d.class

-- a plain number without decimals, as an index and PAGE are
abbrev pub is_index_form : Option FieldForm → Bool
is_index_form form = same_kind (kind_of form) kinds.Number && (is_plain_form form && decimals_of form == 0)

-- a constant that is a text, as an edit word is
abbrev pub is_text_constant : Option FieldForm → Bool
is_text_constant None = false
is_text_constant (Some d) = same_kind d.kind kinds.Text && is_constant d.class
