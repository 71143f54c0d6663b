use Rattle.std.proofs.Common.{◌≡◌, ◌+◌, ◌&&◌, Bool, Some, cond, drop, eqb, false, get_or, length, true, ap, arith, ◌∙◌}
use Rattle.std.proofs.lemmas.Bool.{eq-eqb, ne_eqb}
use Rattle.std.proofs.lemmas.List.{drop_more}
use Rattle.rpg_csv_rows.specs.Cells.{plain_fault}
use Rattle.rpg_csv_rows.specs.declared.cells.CellFault.TheVariants.{LoneReturn, StrayMark}
use Rattle.rpg_csv_rows.proofs.CellLemmas.{bad_cell, good_cell}
use Rattle.rpg_csv_rows.proofs.cells.plain_end.Goals as goal

pub returns-then-byte-delimiter-clause-strict : goal.returns-then-byte-delimiter-clause-strict
returns-then-byte-delimiter-clause-strict c = good_cell plain_fault plain_fault c.loop-place.place c.args.text.now c.loop-place.invariant.strict

pub returns-then-byte-eq34-clause-fault : goal.returns-then-byte-eq34-clause-fault
returns-then-byte-eq34-clause-fault c =
    let text = c.args.text.now in
    let n = c.loop-place.place in
    let b = get_or text n 0 in
    let other : (eqb b c.args.delimiter && true) ≡ false = ap (λ (k : Bool). k && true) (ne_eqb b c.args.delimiter c.if-byte-delimiter.false) in
    bad_cell plain_fault plain_fault c.args.delimiter n b false false text (drop (n + 1) text) StrayMark (drop_more text n 0 c.loop-place-test.true) other
    c.loop-place.invariant.end c.loop-place.invariant.strict
    (λ ys. ap (λ (k : Bool). cond k (Some StrayMark) (cond (eqb b 13) (Some LoneReturn) (plain_fault ys))) (eq-eqb b 34 c.if-byte-eq34.true))

pub returns-then-byte-eq13-clause-fault : goal.returns-then-byte-eq13-clause-fault
returns-then-byte-eq13-clause-fault c =
    let text = c.args.text.now in
    let n = c.loop-place.place in
    let b = get_or text n 0 in
    let other : (eqb b c.args.delimiter && true) ≡ false = ap (λ (k : Bool). k && true) (ne_eqb b c.args.delimiter c.if-byte-delimiter.false) in
    bad_cell plain_fault plain_fault c.args.delimiter n b false false text (drop (n + 1) text) LoneReturn (drop_more text n 0 c.loop-place-test.true) other
    c.loop-place.invariant.end c.loop-place.invariant.strict
    (λ ys. ap (λ (k : Bool). cond k (Some StrayMark) (cond (eqb b 13) (Some LoneReturn) (plain_fault ys))) (ne_eqb b 34 c.if-byte-eq34.false)
    ∙ ap (λ (k : Bool). cond k (Some LoneReturn) (plain_fault ys)) (eq-eqb b 13 c.if-byte-eq13.true))

pub returns-clause-strict : goal.returns-clause-strict
returns-clause-strict c =
    let same : length c.args.text.now ≡ c.loop-place.place = omega arith in
    rw same (good_cell plain_fault plain_fault c.loop-place.place c.args.text.now c.loop-place.invariant.strict)
