use Rattle.std.proofs.Common.{◌-◌, ap, arith}
use Rattle.rpg_edit.proofs.Codes.{kept_next}
use Rattle.rpg_edit.proofs.Fills.{before_hidden, before_many, before_places, before_start, whole_over, whole_places, writes_before}
use Rattle.rpg_edit.specs.Written.{marks_before}
use Rattle.rpg_edit.proofs.code.put_whole.Goals as goal

pub overflow_sub-pass : goal.overflow_sub-pass
overflow_sub-pass c =
    let shown = c.put_shown-left in
    let digits = c.args.digits in
    omega (arith, c.width_of.ensures, before_start c.args.commas (digits - shown.result) digits c.args.pass.now.start shown.new.pass.start (omega arith) c.requires.room.room shown.ensures.writes.start)

pub put_fill-requires-clause-digits : goal.put_fill-requires-clause-digits
put_fill-requires-clause-digits c =
    let shown = c.put_shown-left in
    let digits = c.args.digits in
    let written = digits - shown.result in
    let many = before_start c.args.commas written digits c.args.pass.now.start shown.new.pass.start (omega arith) c.requires.room.room shown.ensures.writes.start in
    omega (arith, c.width_of.ensures, many, shown.ensures.most, before_many c.args.commas written (digits - written))

pub returns-then-left-gt0 : goal.returns-then-left-gt0
returns-then-left-gt0 c =
    let commas = c.args.commas in
    let digits = c.args.digits in
    let shown = c.put_shown-left in
    let so_far = shown.ensures in
    let written = digits - shown.result in
    let more = digits - written in
    let many = before_start commas written digits c.args.pass.now.start shown.new.pass.start (omega arith) c.requires.room.room so_far.writes.start in
    writes_before commas written digits _ _ _ _ _ _ (omega arith) so_far.writes
    (c.put_fill.ensures (marks_before commas written more) (record {
      count_is = omega (arith, c.width_of.ensures, many);
      digits_are = omega (arith, before_places commas written more, so_far.most);
      each = before_hidden commas written more;
      last = whole_over commas written more c.args.pass.now.after _ _ (omega (arith, kept_next c.args.pass.now c.requires.kept, ap (λ s. s.kept) so_far.writes.suppression))
          (omega (arith, so_far.writes.after, whole_places commas written));
    }))
