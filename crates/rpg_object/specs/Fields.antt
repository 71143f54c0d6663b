-- The format of fields, 8 bytes each.
use Rattle.std.specs.Prelude.{ℕ, ◌-◌, ◌*◌, List, [], ◌∷◌, Bool, true, false, ◌&&◌, nat_le, if◌then◌else◌, Result, Ok, Err}
use Rattle.rpg_program.specs.Forms.{is_date, size_of}
use Rattle.rpg_program.specs.declared.form.Class.{Class}
use Rattle.rpg_program.specs.declared.form.Class.TheVariants as classes
use Rattle.rpg_program.specs.declared.form.FieldForm.{FieldForm}
use Rattle.rpg_program.specs.declared.form.Kind.{Kind}
use Rattle.rpg_program.specs.declared.form.Kind.TheVariants as kinds
use Rattle.rpg_object_format.specs.declared.fault.Code.{Code}
use Rattle.rpg_object_format.specs.declared.fault.Code.TheVariants.{NotAllowed, PastLimit}
use Rattle.rpg_object_format.specs.Format.{Format, byte, two_bytes, pair, row, times_with}
use Rattle.rpg_object_format.specs.Numbers.{choice, flag_number, number_where, byte_where}
use Rattle.rpg_program.specs.Kept.{length_limit, may_have_entries}
use Rattle.rpg_text.specs.Texts.{is_between}

-- the number of a kind of value
abbrev pub kind_number : Kind → ℕ
kind_number kinds.Number = 1
kind_number kinds.Text = 2

-- the number of a class of fields
abbrev pub class_number : Class → ℕ
class_number classes.Plain = 0
class_number classes.Array = 1
class_number classes.Table = 2
class_number classes.Constant = 3
class_number classes.Date = 4

-- the kind with that number
abbrev pub kind_by_number : ℕ → Result Kind Code
kind_by_number = choice (kinds.Number ∷ kinds.Text ∷ []) kind_number

-- the date is a number
abbrev pub classes_of : Kind → List Class
classes_of kinds.Number = classes.Plain ∷ classes.Array ∷ classes.Table ∷ classes.Constant ∷ classes.Date ∷ []
classes_of kinds.Text = classes.Plain ∷ classes.Array ∷ classes.Table ∷ classes.Constant ∷ []

-- the class with that number, if a field of that kind may have it
abbrev pub class_of : Kind → ℕ → Result Class Code
class_of k = choice (classes_of k) class_number

-- the date has 6 digits
abbrev pub shortest : Class → ℕ
shortest c = if is_date c then 6 else 1

-- the greatest length of a field of that kind and class
abbrev pub longest_field : Kind → Class → ℕ
longest_field k c = if is_date c then 6 else length_limit k

-- the date and texts have no decimals
abbrev pub most_decimals : Kind → Class → ℕ
most_decimals kinds.Number c = if is_date c then 0 else 9
most_decimals kinds.Text c = 0

-- at most this many, and no more than the digits
abbrev pub is_decimals : ℕ → ℕ → ℕ → Bool
is_decimals most digits n = nat_le n most && nat_le n digits

-- only the entries of arrays and tables may be in ascending sequence
abbrev pub sequences_of : Class → List Bool
sequences_of c = if may_have_entries c then false ∷ true ∷ [] else false ∷ []

-- whether entries ascend, if fields of the class have entries
abbrev pub sequence_of : Class → ℕ → Result Bool Code
sequence_of c = choice (sequences_of c) flag_number

-- the most entries of a field of that class
abbrev pub most_entries : Class → ℕ
most_entries c = if may_have_entries c then 9999 else 1

-- the entries, whose bytes must fit in the remaining storage
abbrev pub entries_within : ℕ → ℕ → ℕ → ℕ → Result ℕ Code
entries_within most len storage n =
    if is_between 1 most n then (if nat_le (len * n) storage then Ok n else Err PastLimit) else Err NotAllowed

-- kind, class, length, decimals, sequence, entries, within the storage that the earlier fields leave
unfoldable pub field : ℕ → Format FieldForm
field storage = row
    (λ p. record { kind = p.0; class = p.1.0; length = p.1.1.0; decimals = p.1.1.1.0; is_ascending = p.1.1.1.1.0; entries = p.1.1.1.1.1 })
    (λ f. (f.kind, (f.class, (f.length, (f.decimals, (f.is_ascending, f.entries))))))
    (pair (byte kind_by_number kind_number) (λ k.
    pair (byte (class_of k) class_number) (λ c.
    pair (number_where (is_between (shortest c) (longest_field k c))) (λ len.
    pair (byte_where (is_decimals (most_decimals k c) len)) (λ decimals.
    pair (byte (sequence_of c) flag_number) (λ is_ascending.
    two_bytes (entries_within (most_entries c) len storage) (λ n. n)))))))

-- a field takes the bytes of its entries from the remaining storage
abbrev pub storage_after : ℕ → FieldForm → ℕ
storage_after storage f = storage - size_of f

-- n fields, of 65,535 bytes in all
unfoldable pub fields : ℕ → Format (List FieldForm)
fields n = times_with field storage_after n 65535
