use Rattle.std.proofs.Common.{◌≡◌, ◌-◌, ◌%◌, ◌<◌, ◌≤◌, ◌++◌, true}
use Rattle.rpg_edit_marks.specs.Code.{comma_marks, whole_marks}
use Rattle.rpg_edit.specs.Written.{is_at_whole, Writes}
use Rattle.rpg_edit.proofs.code.put_shown.Given as goal

abbrev pub invariant-loop-left : goal.invariant-loop-left
invariant-loop-left l = record {
  most : l.left ≤ l.digits;
  full : (l.digits - l.left) % 3 ≡ 0;
  writes : Writes (comma_marks l.commas (l.digits - l.left) ++ whole_marks l.commas (l.digits - l.left)) l.fn.pass l.fn.out l.pass l.out;
  whole : is_at_whole l.pass ≡ true;
  some : 0 < l.digits - l.left → 0 < l.left;
  rest : 0 < l.digits - l.left → 0 < l.pass.rest;
}

abbrev pub decreases-loop-left : goal.decreases-loop-left
decreases-loop-left l = l.left
