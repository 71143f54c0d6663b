-- One input field without a fault.
use Rattle.std.specs.Prelude.{◌≡◌, ℕ, ◌≤◌, List, Option, length}
use Rattle.std.specs.Ordering.{nat_cmp}
use Rattle.std.specs.declared.cmp.Ordering.{Ordering}
use Rattle.rpg_program.specs.Ended.{Ended, Gives, or_halt}
use Rattle.rpg_program.specs.Forms.{form_at, length_of}
use Rattle.rpg_program.specs.Input.{order_of, taken_in, value_read}
use Rattle.rpg_program.specs.Values.{Text}
use Rattle.rpg_program.specs.World.{Data}
use Rattle.rpg_program.specs.declared.form.FieldForm.{FieldForm}
use Rattle.rpg_program.specs.declared.form.Kind.{Kind}
use Rattle.rpg_program.specs.declared.input.InputField.{InputField}
use Rattle.rpg_machine_inputs.specs.FixedInputs.{IsFixedInput}
use Rattle.rpg_machine_inputs.specs.declared.fixed_inputs.FixedInput.{FixedInput}
use Rattle.rpg_memory.specs.Fields.{IsValue}

-- how a text compares with zero
abbrev pub order_of_text : List ℕ → Option Ordering
order_of_text text = order_of (Text text)

-- columns become the value of a field of that kind; a bad digit is halt 4
abbrev pub filled_field : Kind → InputField ℕ → List ℕ → Data nat_cmp → Ended nat_cmp
filled_field k f text d = or_halt (value_read k text) 4 d (λ v. Gives (taken_in f.field f.shows v d))

-- the columns of an input field are within a record of that length
pub record HasColumns (input : InputField ℕ) (len : ℕ) : Type 0 where
  pub low : 1 ≤ input.from
  pub ordered : input.from ≤ input.to
  pub high : input.to ≤ len

-- an input field fills a field of that kind, with this precomputed for it, and with as many columns
pub record CanFill (forms : List FieldForm) (k : Kind) (input : InputField ℕ) (found : FixedInput) (part : List ℕ) : Type 0 where
  pub field : IsValue forms k input.field 1
  pub fixed : IsFixedInput forms input found
  pub long : length part ≡ length_of (form_at forms input.field)
