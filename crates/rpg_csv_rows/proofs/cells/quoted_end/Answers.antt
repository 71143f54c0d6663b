use Rattle.std.proofs.Common.{◌≡◌, ℕ, ◌+◌, ◌&&◌, [], ◌∷◌, Bool, Some, cond, drop, eqb, false, get_or, length, not, take, true, ap, arith, ◌∙◌}
use Rattle.std.proofs.lemmas.Bool.{ne_eqb}
use Rattle.std.proofs.lemmas.List.{drop_more}
use Rattle.rpg_csv_rows.specs.Cells.{quoted_fault, raw_end}
use Rattle.rpg_csv_rows.specs.declared.cells.CellFault.TheVariants.{AfterMark}
use Rattle.rpg_csv_rows.proofs.CellLemmas.{bad_cell, end_within, good_cell}
use Rattle.rpg_csv_rows.proofs.cells.quoted_end.Goals as goal

pub returns-then-byte-delimiter-clause-strict : goal.returns-then-byte-delimiter-clause-strict
returns-then-byte-delimiter-clause-strict c =
    good_cell (quoted_fault false) (quoted_fault c.loop-place.is_closed) c.loop-place.place c.args.text.now c.loop-place.invariant.strict
    ∙ ap (λ (k : Bool). quoted_fault k []) c.if-is_closed.true

pub returns-then-byte-ne34-clause-fault : goal.returns-then-byte-ne34-clause-fault
returns-then-byte-ne34-clause-fault c =
    let text = c.args.text.now in
    let n = c.loop-place.place in
    let b = get_or text n 0 in
    let d = c.args.delimiter in
    let closed = c.loop-place.is_closed in
    let other : (eqb b d && not (not closed)) ≡ false = ap (λ (k : Bool). k && not (not closed)) (ne_eqb b d c.if-byte-delimiter.false) in
    bad_cell (quoted_fault false) (quoted_fault closed) d n b true (not closed) text (drop (n + 1) text) AfterMark (drop_more text n 0 c.loop-place-test.true) other
    c.loop-place.invariant.end c.loop-place.invariant.strict
    (λ ys. ap (λ (k : Bool). quoted_fault k (b ∷ ys)) c.if-is_closed.true
    ∙ ap (λ (k : Bool). cond k (quoted_fault false ys) (Some AfterMark)) (ne_eqb b 34 c.if-byte-ne34.true))

pub returns-then-is_closed-2-clause-strict : goal.returns-then-is_closed-2-clause-strict
returns-then-is_closed-2-clause-strict c =
    let same : length c.args.text.now ≡ c.loop-place.place = omega arith in
    rw same (good_cell (quoted_fault false) (quoted_fault c.loop-place.is_closed) c.loop-place.place c.args.text.now c.loop-place.invariant.strict
    ∙ ap (λ (k : Bool). quoted_fault k []) c.if-is_closed-2.true)

pub returns-else-is_closed-2-clause-fault : goal.returns-else-is_closed-2-clause-fault
returns-else-is_closed-2-clause-fault c =
    let text = c.args.text.now in
    let same : raw_end c.args.delimiter true text ≡ c.loop-place.place =
    omega (arith, c.loop-place.invariant.end, end_within c.args.delimiter true text, c.loop-place-test.false) in
    ap (λ (k : ℕ). quoted_fault false (take k text)) same
    ∙ good_cell (quoted_fault false) (quoted_fault c.loop-place.is_closed) c.loop-place.place text c.loop-place.invariant.strict
    ∙ ap (λ (k : Bool). quoted_fault k []) c.if-is_closed-2.false
