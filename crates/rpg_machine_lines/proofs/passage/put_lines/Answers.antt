use Rattle.std.proofs.Common.{◌≡◌, ◌<◌, ◌≤◌, false, None, refl, sym, ap, ◌∙◌, arith, length, get_or, subst}
use Rattle.rpg_program.proofs.Fronts.{grows_not, grows_on}
use Rattle.rpg_program.specs.Ends.{Continues, Halt, end_of}
use Rattle.rpg_program.specs.Halts.{halt_number}
use Rattle.rpg_program.specs.Put.{IsDone}
use Rattle.rpg_program.specs.World.{holds_if_any}
use Rattle.rpg_program.specs.declared.outcome.End.TheVariants as answers
use Rattle.rpg_machine_lines.proofs.AllLines.{all_done, answered, due, one, rest_end, rest_halts, rest_next, right_at, unasked, without_needed}
use Rattle.rpg_machine_lines.proofs.PassLines.{listed_many, listed_of, names_next, next_is, next_listed, number_low}
use Rattle.rpg_machine_lines.proofs.Planned.{plan_at, plans_many}
use Rattle.rpg_machine_lines.specs.Outputs.{line_effect, output_of}
use Rattle.rpg_machine_lines.specs.PassLines.{pass_lines}
use Rattle.rpg_machine_lines.specs.Passages.{needed_at}
use Rattle.rpg_machine_lines.specs.Plans.{IsPlannedLine}
use Rattle.rpg_machine_lines.specs.Right.{HasLineRoom, IsRightLine}
use Rattle.rpg_machine_lines.specs.declared.pass_lines.PassLine.{PassLine}
use Rattle.rpg_program.specs.Object.{Object, line_row}
use Rattle.rpg_memory.specs.Memory.{held_of}
use Rattle.rpg_machine_lines.proofs.passage.put_lines.Goals as goal

-- stands where nothing is listed
abbrev none : PassLine
none = record { number = 0; needed = None; is_enough = false }

pub lines-init : goal.lines-init
lines-init g c = record {
  near = c.requires.near;
  program = refl;
  grows = grows_not (output_of c.args.output.now);
  onward = λ e v o h. h;
}

pub lines-preserved-then-not-may_be_due : goal.lines-preserved-then-not-may_be_due
lines-preserved-then-not-may_be_due g c =
    let p = c.args.memory.now.program in
    let pass = c.args.pass in
    let found = c.args.plan.now.passages in
    let listed = c.lines_at-listed-items.result.now in
    let i = c.lines.listed-index in
    let has = c.requires.plan.passages in
    let known = c.lines_at-listed-items.ensures in
    let next = next_listed p pass found has listed known i none c.lines-test.true in
    let l = next.0 in
    let here = next.1 in
    let is = next_is p pass found has listed known i none c.lines-test.true l here.number in
    let low : i < length (pass_lines p pass) = omega (arith, c.lines-test.true, listed_many p pass found has listed known) in
    let w = held_of c.lines.memory in
    let q = output_of c.lines.output in
    let fails : holds_if_any w.world.data.on (needed_at p.overflow.indicator l.time l.alternatives pass) ≡ false =
    ap (holds_if_any w.world.data.on) (sym here.needed) ∙ ap (λ s. holds_if_any s (get_or listed i none).needed) (sym c.on-on.ensures)
    ∙ sym c.may_be_due.ensures ∙ c.if-not-may_be_due.true in
    record {
      near = c.lines.invariant.near;
      program = c.lines.invariant.program;
      grows = c.lines.invariant.grows;
      onward = λ e u t h.
          c.lines.invariant.onward e u t (rest_next p pass (pass_lines p pass) l i low is w w u q q t answers.Continues e refl (without_needed p pass l w q fails) h);
    }

pub index-line-requires : goal.index-line-requires
index-line-requires g c =
    let p = c.args.memory.now.program in
    let rows = ap (λ (x : Object). x.lines) (sym c.rows-rows.ensures.same) in
    let has = c.requires.plan.passages in
    let known = c.lines_at-listed-items.ensures in
    let low = number_low p c.args.pass c.args.plan.now.passages has c.lines_at-listed-items.result.now known c.lines.listed-index none c.lines-test.true c.rows-rows.result.now.lines.items rows in
    omega (arith, low)

pub lines-preserved-then-not-is_due_then : goal.lines-preserved-then-not-is_due_then
lines-preserved-then-not-is_due_then g c =
    let p = c.args.memory.now.program in
    let pass = c.args.pass in
    let listed = c.lines_at-listed-items.result.now in
    let i = c.lines.listed-index in
    let l = c.index-line.result.now in
    let rows = ap (λ (x : Object). x.lines) (sym c.rows-rows.ensures.same) in
    let has = c.requires.plan.passages in
    let known = c.lines_at-listed-items.ensures in
    let is = names_next p pass c.args.plan.now.passages has listed known i none c.lines-test.true c.rows-rows.result.now.lines.items rows l c.index-line.ensures in
    let low : i < length (pass_lines p pass) = omega (arith, c.lines-test.true, listed_many p pass c.args.plan.now.passages has listed known) in
    let w = held_of c.lines.memory in
    let q = output_of c.lines.output in
    let same = ap (λ (x : Object). x.overflow.indicator) c.rows-rows.ensures.same in
    let asks = answered p pass (get_or listed i none) (line_row l) (listed_of p pass c.args.plan.now.passages has listed known i none c.lines-test.true (line_row l) is)
    c.on-on.result.now w.world.data.on c.rows-rows.result.now.overflow.indicator c.may_be_due.result c.is_due_then.result
    c.on-on.ensures same c.may_be_due.ensures c.if-not-may_be_due.false c.is_due_then.ensures in
    record {
      near = c.lines.invariant.near;
      program = c.lines.invariant.program;
      grows = c.lines.invariant.grows;
      onward = λ e u t h.
          c.lines.invariant.onward e u t (rest_next p pass (pass_lines p pass) (line_row l) i low is w w u q q t answers.Continues e refl
          (unasked p pass (line_row l) w q (sym asks ∙ c.if-not-is_due_then.true)) h);
    }

pub index-found-requires : goal.index-found-requires
index-found-requires g c =
    let p = c.args.memory.now.program in
    let lines = c.rows-rows.result.now.lines.items in
    let rows = ap (λ (x : Object). x.lines) (sym c.rows-rows.ensures.same) in
    let has = c.requires.plan.passages in
    let known = c.lines_at-listed-items.ensures in
    let low = number_low p c.args.pass c.args.plan.now.passages has c.lines_at-listed-items.result.now known c.lines.listed-index none c.lines-test.true lines rows in
    omega (arith, low, plans_many p c.args.plan.now lines c.requires.plan rows)

pub put_due-requires : goal.put_due-requires
put_due-requires g c =
    let p = c.args.memory.now.program in
    let lines = c.rows-rows.result.now.lines.items in
    let listed = c.lines_at-listed-items.result.now in
    let i = c.lines.listed-index in
    let l = c.index-line.result.now in
    let found = c.index-found.result.now in
    let rows = ap (λ (x : Object). x.lines) (sym c.rows-rows.ensures.same) in
    let has = c.requires.plan.passages in
    let known = c.lines_at-listed-items.ensures in
    let low = number_low p c.args.pass c.args.plan.now.passages has listed known i none c.lines-test.true lines rows in
    let here = plan_at p c.args.plan.now lines (get_or listed i none).number l found c.requires.plan rows low c.index-line.ensures c.index-found.ensures in
    let same = c.lines.invariant.program in
    record {
      near = c.lines.invariant.near;
      right = subst (λ (x : Object). IsRightLine x (line_row l)) (sym same)
          (right_at p lines (get_or listed i none).number l c.requires.right rows low c.index-line.ensures);
      room = subst (λ (x : Object). HasLineRoom x c.lines.text) (sym same)
          (record { printer = omega (arith, c.lines.auto.text, c.requires.room.printer); disk = omega (arith, c.lines.auto.text, c.requires.room.disk) });
      planned = subst (λ (x : Object). IsPlannedLine x (line_row l) found) (sym same) here;
    }

pub lines-preserved : goal.lines-preserved
lines-preserved g c =
    let p = c.args.memory.now.program in
    let pass = c.args.pass in
    let listed = c.lines_at-listed-items.result.now in
    let i = c.lines.listed-index in
    let l = c.index-line.result.now in
    let rows = ap (λ (x : Object). x.lines) (sym c.rows-rows.ensures.same) in
    let has = c.requires.plan.passages in
    let known = c.lines_at-listed-items.ensures in
    let is = names_next p pass c.args.plan.now.passages has listed known i none c.lines-test.true c.rows-rows.result.now.lines.items rows l c.index-line.ensures in
    let low : i < length (pass_lines p pass) = omega (arith, c.lines-test.true, listed_many p pass c.args.plan.now.passages has listed known) in
    let w = held_of c.lines.memory in
    let v = held_of c.put_due.new.memory in
    let q = output_of c.lines.output in
    let o = output_of c.put_due.new.output in
    let same = ap (λ (x : Object). x.overflow.indicator) c.rows-rows.ensures.same in
    let asks = answered p pass (get_or listed i none) (line_row l) (listed_of p pass c.args.plan.now.passages has listed known i none c.lines-test.true (line_row l) is)
    c.on-on.result.now w.world.data.on c.rows-rows.result.now.overflow.indicator c.may_be_due.result c.is_due_then.result
    c.on-on.ensures same c.may_be_due.ensures c.if-not-may_be_due.false c.is_due_then.ensures in
    let put = subst (λ (x : Object). IsDone (line_effect x (line_row l)) w q (end_of c.in_ok-put_due.field-0) v o) c.lines.invariant.program c.in_ok-put_due.ensures.done in
    let done : IsDone (one p pass (line_row l)) w q (end_of c.in_ok-put_due.field-0) v o =
    due p pass l w v q o (end_of c.in_ok-put_due.field-0) (sym asks ∙ c.if-not-is_due_then.false) put in
    record {
      near = c.in_ok-put_due.ensures.kept.near;
      program = c.put_due.ensures.kept.program ∙ c.lines.invariant.program;
      grows = grows_on (output_of c.args.output.now) (output_of c.lines.output) (output_of c.put_due.new.output) c.lines.invariant.grows c.put_due.ensures.grows;
      onward = λ e u t h.
          c.lines.invariant.onward e u t (rest_next p pass (pass_lines p pass) (line_row l) i low is w v u q o t c.in_ok-put_due.field-0 e c.in-Continues.is done h);
    }

pub returns-in-Halt-clause-done : goal.returns-in-Halt-clause-done
returns-in-Halt-clause-done g c =
    let p = c.args.memory.now.program in
    let pass = c.args.pass in
    let listed = c.lines_at-listed-items.result.now in
    let i = c.lines.listed-index in
    let l = c.index-line.result.now in
    let rows = ap (λ (x : Object). x.lines) (sym c.rows-rows.ensures.same) in
    let has = c.requires.plan.passages in
    let known = c.lines_at-listed-items.ensures in
    let is = names_next p pass c.args.plan.now.passages has listed known i none c.lines-test.true c.rows-rows.result.now.lines.items rows l c.index-line.ensures in
    let low : i < length (pass_lines p pass) = omega (arith, c.lines-test.true, listed_many p pass c.args.plan.now.passages has listed known) in
    let w = held_of c.lines.memory in
    let v = held_of c.put_due.new.memory in
    let q = output_of c.lines.output in
    let o = output_of c.put_due.new.output in
    let k = c.in-Halt.halt in
    let same = ap (λ (x : Object). x.overflow.indicator) c.rows-rows.ensures.same in
    let asks = answered p pass (get_or listed i none) (line_row l) (listed_of p pass c.args.plan.now.passages has listed known i none c.lines-test.true (line_row l) is)
    c.on-on.result.now w.world.data.on c.rows-rows.result.now.overflow.indicator c.may_be_due.result c.is_due_then.result
    c.on-on.ensures same c.may_be_due.ensures c.if-not-may_be_due.false c.is_due_then.ensures in
    let put = subst (λ (x : Object). IsDone (line_effect x (line_row l)) w q (end_of c.in_ok-put_due.field-0) v o) c.lines.invariant.program c.in_ok-put_due.ensures.done in
    let done : IsDone (one p pass (line_row l)) w q (end_of c.in_ok-put_due.field-0) v o =
    due p pass l w v q o (end_of c.in_ok-put_due.field-0) (sym asks ∙ c.if-not-is_due_then.false) put in
    all_done p pass (held_of c.args.memory.now) v (output_of c.args.output.now) o (Halt (halt_number k))
    (c.lines.invariant.onward (Halt (halt_number k)) v o (rest_halts p pass (pass_lines p pass) (line_row l) i low is w v q o c.in_ok-put_due.field-0 k c.in-Halt.is done))

pub returns-clause-done : goal.returns-clause-done
returns-clause-done g c =
    let p = c.args.memory.now.program in
    let pass = c.args.pass in
    let listed = c.lines_at-listed-items.result.now in
    let has = c.requires.plan.passages in
    let known = c.lines_at-listed-items.ensures in
    let high : length (pass_lines p pass) ≤ c.lines.listed-index = omega (arith, c.lines-test.false, listed_many p pass c.args.plan.now.passages has listed known) in
    let w = held_of c.lines.memory in
    let q = output_of c.lines.output in
    all_done p pass (held_of c.args.memory.now) w (output_of c.args.output.now) q Continues
    (c.lines.invariant.onward Continues w q (rest_end p pass (pass_lines p pass) c.lines.listed-index w q high))

pub returns-in_err-put_due-clause-grows : goal.returns-in_err-put_due-clause-grows
returns-in_err-put_due-clause-grows g c =
    grows_on (output_of c.args.output.now) (output_of c.lines.output) (output_of c.put_due.new.output) c.lines.invariant.grows c.put_due.ensures.grows

pub returns-in-Halt-clause-grows : goal.returns-in-Halt-clause-grows
returns-in-Halt-clause-grows g c =
    grows_on (output_of c.args.output.now) (output_of c.lines.output) (output_of c.put_due.new.output) c.lines.invariant.grows c.put_due.ensures.grows
