-- What the machine does besides calculations: the lines of a time, and the columns of a record that are moved to fields.
use Rattle.std.specs.Prelude.{◌≡◌, ℕ, List, [], length, slice_get, Option, None, Some}
use Rattle.std.specs.Option.{option_map_or}
use Rattle.std.specs.Ordering.{nat_cmp}
use Rattle.rpg_program.specs.Effect.{Effect}
use Rattle.rpg_program.specs.Ended.{on_data}
use Rattle.rpg_program.specs.Ends.{End}
use Rattle.rpg_program.specs.Forms.{form_at}
use Rattle.rpg_program.specs.Input.{TypeRow, record_in}
use Rattle.rpg_program.specs.Lines.{detail_output, overflow_output, total_output}
use Rattle.rpg_program.specs.Weights.{detail_weight, overflow_weight, total_weight}
use Rattle.rpg_program.specs.World.{World}
use Rattle.rpg_program.specs.declared.input.InputField.{InputField}
use Rattle.rpg_program.specs.declared.input.InputFile.TheVariants.{Primary}
use Rattle.rpg_machine.specs.Config.{Config, Output, charged}
use Rattle.rpg_machine.specs.declared.time.OutputTime.{OutputTime}
use Rattle.rpg_machine.specs.declared.time.OutputTime.TheVariants as times
use Rattle.rpg_program.specs.Constants.{word_at}
use Rattle.rpg_program.specs.Object.{Object, input_length, lines_of}

-- an effect on the world, with this weight
pub record ByEffect (weight : ℕ) (effect : World nat_cmp → Effect nat_cmp) (c : Config) (e : End) (d : Config) (out : Output) : Type 0 where
  pub ends : e ≡ (effect c.world).ending
  pub leads : d ≡ record (charged weight c) { world = (effect c.world).world }
  pub puts : out ≡ record { lines = (effect c.world).lines; records = (effect c.world).records }

-- the lines of an output; that of detail time settles the overflow indicator, that of a full page marks itself
abbrev pub output_effect : Object → OutputTime → World nat_cmp → Effect nat_cmp
output_effect p times.Detail w = detail_output (form_at p.fields) (word_at p) p.overflow (lines_of p) w
output_effect p times.Total w = total_output (form_at p.fields) (word_at p) p.overflow (lines_of p) w
output_effect p times.Overflow w = overflow_output (form_at p.fields) (word_at p) p.overflow (lines_of p) w

-- all lines of the time, tested or placed
abbrev pub output_weight : Object → OutputTime → ℕ
output_weight p times.Detail = detail_weight (lines_of p)
output_weight p times.Total = total_weight (lines_of p)
output_weight p times.Overflow = overflow_weight (lines_of p)

-- the lines of a time are output
abbrev pub Outputs : Object → OutputTime → Config → End → Config → Output → Type 0
Outputs p time = ByEffect (output_weight p time) (output_effect p time)

-- the input fields of a type
abbrev pub input_fields_of : Option (TypeRow ℕ) → List (InputField ℕ)
input_fields_of None = []
input_fields_of (Some t) = t.inputs

-- those of a row, counted from 0
abbrev pub inputs_at : Object → ℕ → List (InputField ℕ)
inputs_at p row = input_fields_of (slice_get p.types row)

-- the record length of its file
abbrev pub length_at : Object → ℕ → ℕ
length_at p row = input_length p (option_map_or (λ t. t.file) (slice_get p.types row) Primary)

-- the fields of a record of a type get their values, and all of them are charged
abbrev pub FillsFields : Object → ℕ → List ℕ → Config → End → Config → Output → Type 0
FillsFields p row text = ByEffect (length (inputs_at p row)) (on_data (record_in (form_at p.fields) text (inputs_at p row)))
