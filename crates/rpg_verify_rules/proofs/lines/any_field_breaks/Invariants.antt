use Rattle.std.proofs.Common.{◌≡◌, drop}
use Rattle.std.specs.List.{list_any}
use Rattle.rpg_program.specs.Object.{seen}
use Rattle.rpg_verify_rules.specs.LineRules.{field_breaks}
use Rattle.rpg_verify_rules.proofs.lines.any_field_breaks.Given as goal

abbrev pub invariant-loop-field : goal.invariant-loop-field
invariant-loop-field l = list_any (field_breaks l.rule (seen l.rows) l.length) (drop l.field-index l.fields) ≡ list_any (field_breaks l.rule (seen l.rows) l.length) l.fields
