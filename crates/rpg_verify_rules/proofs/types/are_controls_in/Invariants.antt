use Rattle.std.proofs.Common.{◌≡◌, drop}
use Rattle.std.specs.List.{list_all}
use Rattle.rpg_verify_rules.specs.TypeRules.{is_control_in}
use Rattle.rpg_verify_rules.proofs.types.are_controls_in.Given as goal

abbrev pub invariant-loop-field : goal.invariant-loop-field
invariant-loop-field l = list_all (is_control_in l.length) (drop l.field-index l.fields) ≡ list_all (is_control_in l.length) l.fields
