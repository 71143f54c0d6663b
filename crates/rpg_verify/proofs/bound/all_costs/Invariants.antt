use Rattle.std.proofs.Common.{◌≡◌, ◌+◌, ◌≤◌, ◌++◌, max}
use Rattle.rpg_program.specs.Object.{seen}
use Rattle.rpg_program.specs.Sections.{instructions_in}
use Rattle.rpg_verify_rules.proofs.Sectioning.{left}
use Rattle.rpg_verify.specs.Bound.{costs, costs_in, most, most_in, once}
use Rattle.rpg_verify.proofs.bound.all_costs.Given as goal

abbrev pub invariant-loop-subroutine : goal.invariant-loop-subroutine
invariant-loop-subroutine l = record {
  put : l.costs.places.items ++ costs_in (seen l.rows) l.first (left l.rows.subroutines.items l.subroutine-index) ≡ costs (seen l.rows);
  greatest : max l.costs.most (most_in (seen l.rows) l.first (left l.rows.subroutines.items l.subroutine-index)) ≡ most (seen l.rows);
  passed : l.costs.once ≡ once (seen l.rows);
  few : l.first + instructions_in (left l.rows.subroutines.items l.subroutine-index) ≤ 8192;
}
