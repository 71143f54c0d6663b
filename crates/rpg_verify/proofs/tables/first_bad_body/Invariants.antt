use Rattle.std.proofs.Common.{◌≡◌, map, drop}
use Rattle.rpg_program.specs.Object.{subroutine_row}
use Rattle.rpg_verify_rules.specs.Least.{first_true}
use Rattle.rpg_verify_rules.specs.PlaceRules.{bodies_judged}
use Rattle.rpg_verify.proofs.tables.first_bad_body.Given as goal

abbrev pub invariant-loop-subroutine : goal.invariant-loop-subroutine
invariant-loop-subroutine l = record {
  so_far : first_true l.number (bodies_judged l.number (map subroutine_row (drop l.subroutine-index l.subroutines))) ≡ first_true 0 (bodies_judged 0 (map subroutine_row l.subroutines));
  counted : l.number ≡ l.subroutine-index;
}
