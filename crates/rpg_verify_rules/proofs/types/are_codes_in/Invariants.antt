use Rattle.std.proofs.Common.{◌≡◌, drop}
use Rattle.std.specs.List.{list_all}
use Rattle.rpg_verify_rules.specs.TypeRules.{is_code_in}
use Rattle.rpg_verify_rules.proofs.types.are_codes_in.Given as goal

abbrev pub invariant-loop-code : goal.invariant-loop-code
invariant-loop-code l = list_all (is_code_in l.length) (drop l.code-index l.codes) ≡ list_all (is_code_in l.length) l.codes
