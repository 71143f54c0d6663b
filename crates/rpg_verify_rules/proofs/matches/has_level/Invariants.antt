use Rattle.std.proofs.Common.{◌≡◌, drop}
use Rattle.std.specs.List.{list_any}
use Rattle.rpg_verify_rules.specs.TypeRules.{is_of_level}
use Rattle.rpg_verify_rules.proofs.matches.has_level.Given as goal

abbrev pub invariant-loop-field : goal.invariant-loop-field
invariant-loop-field l = list_any (is_of_level l.level) (drop l.field-index l.fields) ≡ list_any (is_of_level l.level) l.fields
