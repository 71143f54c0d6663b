use Rattle.std.proofs.Common.{◌≡◌, drop}
use Rattle.std.specs.List.{list_any}
use Rattle.rpg_program.specs.Object.{seen}
use Rattle.rpg_verify_rules.specs.TypeRules.{shows_wrongly}
use Rattle.rpg_verify_rules.proofs.types.show_wrongly.Given as goal

abbrev pub invariant-loop-field : goal.invariant-loop-field
invariant-loop-field l = list_any (shows_wrongly (seen l.rows) l.length) (drop l.field-index l.fields) ≡ list_any (shows_wrongly (seen l.rows) l.length) l.fields
