use Rattle.std.proofs.Common.{◌≡◌, ℕ, ◌+◌, ◌-◌, [], ◌∷◌, ◌++◌, Err, None, Some, drop, false, length, slice_range, take, ap, arith, refl, rules, sym, vec_len, length-drop, length-take, ◌∙◌}
use Rattle.rpg_csv_rows.specs.Cells.{checked_row, content_at, raw_cells, raw_end}
use Rattle.rpg_csv_rows.proofs.CellLemmas.{bad_row, cells_from, contents_more, first_from, found_there, strict_more}
use Rattle.rpg_csv_rows.proofs.cells.split_row.Goals as goal

pub returns-in-Err-clause-fault : goal.returns-in-Err-clause-fault
returns-in-Err-clause-fault c fault e =
    let d = c.args.delimiter in
    let row = c.args.row.now in
    let start = c.loop-start.start in
    let n = raw_end d false (take (length row - start) (drop start row)) in
    let first = first_from d row start n c.loop-start-test.true refl in
    let some = found_there row start n (Some c.in-Err.fault) c.in-Err.ensures.fault in
    let bad = bad_row (raw_cells d false row) (cells_from d row start) (cells_from d row (start + n + 1)) (slice_range row start (start + n)) c.len-cell.result c.in-Err.fault
    (rw c.len-cell.ensures c.loop-start.invariant.strict) first some in
    let same : record { cell = c.len-cell.result + 1; fault = c.in-Err.fault } ≡ fault = cc in
    bad ∙ ap Err same

pub loop-start-preserved : goal.loop-start-preserved
loop-start-preserved c =
    let d = c.args.delimiter in
    let row = c.args.row.now in
    let start = c.loop-start.start in
    let n = c.in-Ok.length in
    let all = raw_cells d false row in
    let cells = cells_from d row start in
    let next = cells_from d row (start + n + 1) in
    let raw = slice_range row start (start + n) in
    let old = c.loop-start.cells.items in
    let new = c.push.new.self.items in
    let first = first_from d row start n c.loop-start-test.true c.in-Ok.ensures.end in
    let more : new ≡ old ++ c.place_of.result ∷ [] = search rules in
    let count : vec_len c.push.new.self ≡ vec_len c.loop-start.cells + 1 = search rules in
    let none = found_there row start n None c.in-Ok.ensures.strict in
    record {
      within = omega (arith, c.in-Ok.ensures.within, length-take (length row - start) (drop start row), length-drop start row);
      few = omega (arith, count, c.loop-start.invariant.few);
      contents = contents_more (content_at row) all old new c.place_of.result raw cells next c.loop-start.invariant.contents first c.place_of.ensures more;
      strict = strict_more all cells next raw (vec_len c.loop-start.cells) c.loop-start.invariant.strict first none ∙ ap (λ (k : ℕ). checked_row k next) (sym count);
    }
