-- What outputs replace.
use Rattle.std.specs.Prelude.{Bool, true, false}
use Rattle.rpg_cli_words.specs.declared.files.FileArgument.{FileArgument}
use Rattle.rpg_cli_words.specs.declared.files.FileArgument.TheVariants as arguments
use Rattle.rpg_cli_words.specs.declared.outputs.Existing.{Existing}
use Rattle.rpg_cli_words.specs.declared.outputs.Existing.TheVariants as places

-- A new object program replaces an object program, the new form of an old deck what it is forced to, and another output what is no program. Where
-- nothing is lost, anything is written.
abbrev pub replaces : FileArgument → Existing → (is_forced : Bool) → Bool
replaces argument places.Nothing is_forced = true
replaces arguments.Fitted existing is_forced = is_forced
replaces arguments.Object places.ObjectProgram is_forced = true
replaces arguments.Object existing is_forced = false
replaces argument places.Other is_forced = true
replaces argument existing is_forced = false
