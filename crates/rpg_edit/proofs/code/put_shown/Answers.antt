use Rattle.std.proofs.Common.{◌≡◌, ◌+◌, ◌-◌, ◌≤◌, ◌++◌, ◌∙◌, arith, eq-zero-or-pos, inl, inr, subst, sym}
use borrow.Author.Tests.{leb-true}
use Rattle.rpg_edit_marks.specs.Code.{comma_marks, whole_marks}
use Rattle.rpg_edit.proofs.Codes.{front_room, group_places, group_room, still_whole, writes_front, writes_group}
use Rattle.rpg_edit.specs.Written.{Writes}
use Rattle.rpg_edit.proofs.code.put_shown.Goals as goal

pub put_group-requires-clause-room : goal.put_group-requires-clause-room
put_group-requires-clause-room c =
    let so_far = c.loop-left.invariant in
    let room = group_room c.args.commas (c.args.digits - c.loop-left.left) c.args.digits so_far.full (omega (arith, c.loop-left-test.true, so_far.most)) in
    record {
      room = omega (arith, room, c.requires.room.room, so_far.writes.start);
      within = omega (arith, so_far.writes.start, so_far.writes.same_length, c.requires.room.within);
    }

pub loop-left-preserved : goal.loop-left-preserved
loop-left-preserved c =
    let commas = c.args.commas in
    let left = c.loop-left.left in
    let so_far = c.loop-left.invariant in
    let group = c.put_group.ensures in
    let more : 1000 ≤ c.loop-left.pass.rest = leb-true _ _ (sym c.has_four.ensures ∙ c.if-has_four.true) in
    let next : (c.args.digits - left) + 3 ≡ c.args.digits - (left - 3) = omega (arith, c.loop-left-test.true, so_far.most) in
    record {
      most = omega (arith, so_far.most);
      full = omega (arith, so_far.full, next);
      writes = subst (λ n. Writes (comma_marks commas n ++ whole_marks commas n) c.args.pass.now c.args.out.now c.put_group.new.self c.put_group.new.out) next
          (writes_group commas (c.args.digits - left) _ _ _ _ _ _ so_far.full so_far.writes group.writes);
      whole = still_whole c.loop-left.pass c.put_group.new.self so_far.whole (omega (arith, group.writes.after, group_places commas)) group.writes.suppression;
      some = λ _. omega (arith, c.loop-left-test.true);
      rest = λ _. omega (arith, group.rest, more);
    }

pub put_first_digits-requires-clause-room : goal.put_first_digits-requires-clause-room
put_first_digits-requires-clause-room c =
    let so_far = c.loop-left.invariant in
    let room = front_room c.args.commas c.loop-left.left (c.args.digits - c.loop-left.left) c.args.digits (omega (arith, so_far.most)) so_far.some in
    record {
      room = omega (arith, room, c.requires.room.room, so_far.writes.start);
      within = omega (arith, so_far.writes.start, so_far.writes.same_length, c.requires.room.within);
    }

pub returns : goal.returns
returns c =
    let commas = c.args.commas in
    let left = c.loop-left.left in
    let written = c.args.digits - left in
    let n = c.put_first_digits.result in
    let so_far = c.loop-left.invariant in
    let first = c.put_first_digits.ensures in
    let all : written + n ≡ c.args.digits - (left - n) = omega (arith, so_far.most, first.shown.most) in
    let none : n ≡ 0 → written ≡ 0 = λ e. elim (eq-zero-or-pos written) [
      | inl z ↦ z
      | inr some ↦ absurd (omega (arith, e, first.some (so_far.some some) (so_far.rest some)))
    ] in
    record {
      most = omega (arith, so_far.most);
      writes = subst (λ k. Writes (whole_marks commas k) c.args.pass.now c.args.out.now c.put_first_digits.new.self c.put_first_digits.new.out) all
          (writes_front commas written n _ _ _ _ _ _ so_far.full first.three none so_far.writes first.shown.writes);
      used = λ more. first.shown.used (omega (arith, more));
    }
