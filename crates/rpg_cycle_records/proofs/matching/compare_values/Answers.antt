use Rattle.std.proofs.Common.{◌+◌, ◌∙◌, ap, arith, drop, sym}
use Rattle.std.specs.Ordering.{ordering_then}
use Rattle.rpg_cycle_records.specs.Matching.{value_cmp}
use Rattle.rpg_cycle_records.proofs.Order.{equal_order, other_order, then-other, value_ends, value_more}
use Rattle.rpg_cycle_records.proofs.matching.compare_values.Goals as goal

pub returns-then-ne : goal.returns-then-ne
returns-then-ne c =
    let a = c.args.a.now in
    let b = c.args.b.now in
    let i = c.loop-place.place in
    let order = c.compare_bytes-order in
    let rest = value_cmp (drop (i + 1) a) (drop (i + 1) b) in
    sym (then-other order.result rest (other_order order.result c.if-ne.ensures))
    ∙ ap (λ o. ordering_then o rest) order.ensures
    ∙ sym (value_more a b i (omega (arith, c.min-place-end.ensures)) (omega (arith, c.min-place-end.ensures))) ∙ c.loop-place.invariant

pub loop-place-preserved : goal.loop-place-preserved
loop-place-preserved c =
    let a = c.args.a.now in
    let b = c.args.b.now in
    let i = c.loop-place.place in
    let order = c.compare_bytes-order in
    let rest = value_cmp (drop (i + 1) a) (drop (i + 1) b) in
    ap (λ o. ordering_then o rest) (sym (equal_order order.result c.if-ne.ensures) ∙ order.ensures)
    ∙ sym (value_more a b i (omega (arith, c.min-place-end.ensures)) (omega (arith, c.min-place-end.ensures))) ∙ c.loop-place.invariant

pub returns : goal.returns
returns c =
    let a = c.args.a.now in
    let b = c.args.b.now in
    let i = c.loop-place.place in
    c.cmp.ensures
    ∙ sym (value_ends a b i (omega (arith, c.min-place-end.ensures)) (omega (arith, c.min-place-end.ensures)) (λ l m. omega (arith, l, m, c.min-place-end.ensures)))
    ∙ c.loop-place.invariant
