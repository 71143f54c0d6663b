use Rattle.std.proofs.Common.{◌≡◌, drop}
use Rattle.std.specs.List.{list_any}
use Rattle.rpg_verify_rules.specs.PlaceRules.{is_return}
use Rattle.rpg_verify_rules.proofs.subroutines.has_return.Given as goal

abbrev pub invariant-loop-instruction : goal.invariant-loop-instruction
invariant-loop-instruction l = list_any (is_return) (drop l.instruction-index l.code) ≡ list_any (is_return) l.code
