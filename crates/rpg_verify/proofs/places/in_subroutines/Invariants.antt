use Rattle.std.proofs.Common.{◌≡◌, ◌+◌, ◌≤◌, map, drop, slice_get}
use Rattle.rpg_program.specs.Object.{seen, subroutine_row}
use Rattle.rpg_program.specs.Sections.{first_in, instructions_in}
use Rattle.rpg_verify.specs.Placed.{placed_in_subroutines}
use Rattle.rpg_verify.proofs.places.in_subroutines.Given as goal

abbrev pub invariant-loop-subroutine : goal.invariant-loop-subroutine
invariant-loop-subroutine l = record {
  so_far :
      slice_get (placed_in_subroutines (seen l.rows) l.number (map subroutine_row (drop l.subroutine-index l.rows.subroutines.items))) l.rest
      ≡ slice_get (placed_in_subroutines (seen l.rows) 0 (map subroutine_row l.rows.subroutines.items)) l.place;
  few : l.first + instructions_in (map subroutine_row (drop l.subroutine-index l.rows.subroutines.items)) ≤ 8192;
  counted : l.number ≡ l.subroutine-index;
  begins : l.first ≡ first_in l.begin (map subroutine_row l.rows.subroutines.items) l.subroutine-index;
}
