-- Fields that are joined with others of their level.
use Rattle.std.specs.Prelude.{Bool, false, ◌||◌, is_some}
use Rattle.rpg_sheet_specs.specs.declared.input.InputFieldSpec.{InputFieldSpec}
use Rattle.rpg_sheet_specs.specs.declared.input.InputSpec.{InputSpec}
use Rattle.rpg_sheet_specs.specs.declared.input.InputSpec.TheVariants as input

-- a control field or a match field
abbrev pub is_joined : InputFieldSpec → Bool
is_joined f = is_some f.level || is_some f.match_level

-- an I card with such a field
abbrev pub has_joined_field : InputSpec → Bool
has_joined_field (input.Type t) = false
has_joined_field (input.And codes) = false
has_joined_field (input.Field f) = is_joined f
