use Rattle.std.proofs.Common.{◌≡◌, drop}
use Rattle.std.specs.List.{list_all}
use Rattle.rpg_program.specs.Object.{seen}
use Rattle.rpg_verify_rules.specs.TypeRules.{is_input_in}
use Rattle.rpg_verify_rules.proofs.types.are_inputs_in.Given as goal

abbrev pub invariant-loop-field : goal.invariant-loop-field
invariant-loop-field l = list_all (is_input_in (seen l.rows) l.length) (drop l.field-index l.fields) ≡ list_all (is_input_in (seen l.rows) l.length) l.fields
