-- Where no indicator is named.
use Rattle.std.specs.Prelude.{Bool, ◌&&◌, is_none}
use Rattle.rpg_program.specs.declared.operation.Shows.{Shows}

-- no indicator is named, so there is nothing to show
abbrev pub names_none : Shows → Bool
names_none s = is_none s.plus && (is_none s.minus && is_none s.zero)
