-- What the fields of a program hold.
use Rattle.std.specs.Prelude.{List, map}
use Rattle.rpg_program.specs.Values.{Value, entries_held}
use Rattle.rpg_program.specs.declared.value.FieldValues.{FieldValues}

-- the values of each field's entries
abbrev pub held_values : List FieldValues → List (List Value)
held_values fields = map entries_held fields
