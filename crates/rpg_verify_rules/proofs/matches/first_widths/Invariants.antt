use Rattle.std.proofs.Common.{◌≡◌, map, drop}
use Rattle.rpg_program.specs.Object.{type_row}
use Rattle.rpg_verify_rules.specs.TypeRules.{first_matches}
use Rattle.rpg_verify_rules.proofs.matches.first_widths.Given as goal

abbrev pub invariant-loop-record_type : goal.invariant-loop-record_type
invariant-loop-record_type l = first_matches (map type_row (drop l.record_type-index l.types)) ≡ first_matches (map type_row l.types)
