use Rattle.std.proofs.Common.{◌≡◌, drop}
use Rattle.std.specs.List.{list_all}
use Rattle.rpg_verify_rules.specs.PlaceRules.{is_own}
use Rattle.rpg_verify_rules.proofs.subroutines.are_own.Given as goal

abbrev pub invariant-loop-instruction : goal.invariant-loop-instruction
invariant-loop-instruction l = list_all (is_own l.number) (drop l.instruction-index l.code) ≡ list_all (is_own l.number) l.code
