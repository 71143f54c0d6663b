-- What a memory represents.
use Rattle.std.specs.Prelude.{◌≡◌, ℕ, pos, Bool, List, [], ◌∷◌, Option, None, Some, false, is_some, if◌then◌else◌}
use Rattle.std.specs.FinSet as set
use Rattle.std.specs.Ordering.{nat_cmp}
use Rattle.rpg_decimal_words.specs.Fraction.{Fraction, with_decimals}
use Rattle.rpg_decimal.specs.declared.num.Rest.{Rest}
use Rattle.rpg_paper.specs.Form.{Standing}
use Rattle.rpg_program.specs.Entries.{entry_of, position_of}
use Rattle.rpg_program.specs.Forms.{form_at, kind_of}
use Rattle.rpg_program.specs.Put.{Held}
use Rattle.rpg_program.specs.World.{Data, Fields, World, with_data}
use Rattle.rpg_program.specs.declared.form.FieldForm.{FieldForm}
use Rattle.rpg_program.specs.declared.form.Kind.TheVariants as kinds
use Rattle.rpg_program.specs.declared.operation.Entry.{Entry}
use Rattle.rpg_program.specs.declared.operation.Operand.{Operand}
use Rattle.rpg_memory.specs.Fields.{AreForms, IsResolved}
use Rattle.rpg_memory.specs.declared.resolved.Resolved.{Resolved}
use Rattle.rpg_program.specs.Object.{Object}
use Rattle.rpg_memory.specs.Fits.{Fits}
use Rattle.rpg_store.specs.Store.{Values, Currents}

-- a running program: the line placed last, and the world, whose pages are counted from there
pub record Working : Type 0 where
  pub program : Object
  pub last : Option ℕ
  pub world : World nat_cmp

-- the value of a remainder
abbrev pub rest_value : Rest → Fraction
rest_value r = with_decimals r.value r.dec.value

-- L0 (100) and 1P (111) are on, there is no remainder yet, and the form is at line 1 of the first page, which is page 0 if pages are
-- counted from the line placed last
abbrev pub first_world : Fields nat_cmp → World nat_cmp
first_world fields = record {
  «data» = record { fields = fields; on = set.from_list (100 ∷ 111 ∷ []); remainder = with_decimals (pos 0) 0 };
  paper = record { here = record { page = 0; line = 1 }; was_overflow = false; has_turned_on = false };
}

-- a memory at the beginning of a job
abbrev pub first_working : Object → Fields nat_cmp → Working
first_working p fields = record { program = p; last = None; world = first_world fields }

-- ---- terms for what a memory represents

-- what it holds of the paper, with its world
abbrev pub held_of : Working → Held
held_of w = record { last = w.last; world = w.world }

-- the form of a field of the memory's program
abbrev pub forms_in : Working → ℕ → Option FieldForm
forms_in w field = form_at w.program.fields field

-- where the form is
abbrev pub standing_of : Working → Standing
standing_of w = record { last = w.last; begun = w.world.paper.here.page; line = w.world.paper.here.line }

-- the world whose form is on that line of the page from which pages are counted
abbrev pub on_line : ℕ → World nat_cmp → World nat_cmp
on_line line w = record w { paper = record w.paper { here = record { page = 0; line = line } } }

-- a line was placed there: pages are counted from it
abbrev pub with_line_placed : Working → Working
with_line_placed w = record w { last = Some w.world.paper.here.line; world = on_line w.world.paper.here.line w.world }

-- the data replaced by these: program and paper are unchanged
abbrev pub data_put : Data nat_cmp → Working → Working
data_put d w = record w { world = with_data d w.world }

-- the data with these indicators on
abbrev pub with_on : set.FinSet nat_cmp → Data nat_cmp → Data nat_cmp
with_on on d = record d { on = on }

-- one indicator on or off
abbrev pub indicator_turned : ℕ → Bool → Data nat_cmp → Data nat_cmp
indicator_turned n is_on d = with_on (if is_on then set.insert d.on n else set.remove d.on n) d

-- the data with this remainder
abbrev pub with_remainder : Fraction → Data nat_cmp → Data nat_cmp
with_remainder p d = record d { remainder = p }

-- the position that an operand names now, and the entry, if it names one
abbrev pub position_in : Working → Operand ℕ → Option ℕ
position_in w o = position_of (forms_in w) w.world.data.fields o

-- the entry of an operand, if its index is in range
abbrev pub entry_if_in_range : Working → Operand ℕ → Option (Entry ℕ)
entry_if_in_range w o = if is_some (position_in w o) then Some (entry_of (forms_in w) w.world.data.fields o) else None

-- an operand was resolved to an entry of a number field, of a text field, or of a field of the same kind as another operand's
abbrev pub NamesNumber : Working → Resolved → Type 0
NamesNumber w r = IsResolved w.program.fields kinds.Number r

-- the operand is a text
abbrev pub NamesText : Working → Resolved → Type 0
NamesText w r = IsResolved w.program.fields kinds.Text r

-- the second operand has the kind of the first
abbrev pub NamesLike : Working → Resolved → Resolved → Type 0
NamesLike w a r = IsResolved w.program.fields (kind_of (forms_in w a.entry.field)) r

-- ---- what holds of every memory

module _ {S : Type 0} (store_forms : S → List FieldForm) (contents : S → Values) (currents : S → Currents) where
  -- the store has the fields of the program, each with values of its form
  pub record HoldsFields (forms : List FieldForm) (s : S) : Type 0 where
    pub valid : AreForms forms
    pub own : store_forms s ≡ forms
    pub fits : Fits forms (contents s) (currents s)

module _ {S : Type 0} (contents : S → Values) (currents : S → Currents) where
  -- the values and current entries of a store
  abbrev pub stored_fields : S → Fields nat_cmp
  stored_fields s = record { values = contents s; current = currents s }
