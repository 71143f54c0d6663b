use Rattle.std.proofs.Common.{◌≡◌, ◌-◌, ◌<◌, ◌≤◌, length, arith, rules, sym, ◌∙◌}
use Rattle.rpg_files.specs.Counting.{device_of}
use Rattle.rpg_csv_rows.proofs.InputLemmas.{row_found, row_grows, row_more, row_within}
use Rattle.rpg_csv_rows.specs.Inputs.{left_in, remaining_in}
use Rattle.rpg_csv_rows.proofs.input.RowInput.read_row.Goals as goal

pub returns-then-end-clause-row : goal.returns-then-end-clause-row
returns-then-end-clause-row g c =
    let k = 1048579 - c.len-in-loop-self.result in
    let left = left_in c.fill.new.self in
    let got = c.loop-self.row.items in
    let e : k ≡ 1048579 - length got = omega (arith, c.len-in-loop-self.ensures) in
    row_found 1048579 k c.loop-self.is_open (remaining_in g.R.Read.remaining c.args.reader.now c.args.self.now) (remaining_in g.R.Read.remaining c.loop-self.reader c.loop-self.self) (g.R.Read.remaining (device_of c.fill.new.reader)) left (left_in c.append_part.new.self) got c.append_part.new.row.items e
    c.loop-self.invariant.row c.in_ok-fill.ensures.kept (sym c.in_ok-end.ensures.ended ∙ c.if-end.true) c.in_ok-end.ensures.left c.in_ok-end.ensures.appended

pub loop-self-smaller : goal.loop-self-smaller
loop-self-smaller g c =
    let k = 1048579 - c.len-in-loop-self.result in
    let left = left_in c.fill.new.self in
    let got = c.loop-self.row.items in
    let e : k ≡ 1048579 - length got = omega (arith, c.len-in-loop-self.ensures) in
    let few : length got < 1048579 = omega (arith, c.loop-self-test.true, c.len.ensures) in
    let some : 0 < length left = search rules in
    let grows = row_grows 1048579 k c.loop-self.is_open left got c.append_part.new.row.items e few some c.in_ok-end.ensures.appended in
    omega (arith, grows)

pub loop-self-preserved : goal.loop-self-preserved
loop-self-preserved g c =
    let k = 1048579 - c.len-in-loop-self.result in
    let left = left_in c.fill.new.self in
    let got = c.loop-self.row.items in
    let new = c.append_part.new.row.items in
    let e : k ≡ 1048579 - length got = omega (arith, c.len-in-loop-self.ensures) in
    let few : length got ≤ 1048579 = omega (arith, c.loop-self.invariant.within) in
    let long = row_within 1048579 k c.loop-self.is_open left got new e few c.in_ok-end.ensures.appended in
    record {
      within = omega (arith, long);
      row = row_more 1048579 k c.loop-self.is_open c.in_ok-end.end.is_open (remaining_in g.R.Read.remaining c.args.reader.now c.args.self.now) (remaining_in g.R.Read.remaining c.loop-self.reader c.loop-self.self) (g.R.Read.remaining (device_of c.fill.new.reader)) left (left_in c.append_part.new.self) got new e
          c.loop-self.invariant.row c.in_ok-fill.ensures.kept (sym c.in_ok-end.ensures.ended ∙ c.if-end.false) (c.in_ok-end.ensures.open c.if-end.false) c.in_ok-end.ensures.left c.in_ok-end.ensures.appended;
      faults = omega (arith, c.in_ok-fill.ensures.faults, c.loop-self.invariant.faults);
    }
