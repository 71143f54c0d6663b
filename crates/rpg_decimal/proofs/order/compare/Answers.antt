use Rattle.std.proofs.Common.{◌^◌, pos, ◌*ℤ◌, ap, sym, ◌∙◌}
use Rattle.std.specs.Ordering.{int_cmp}
use Rattle.rpg_decimal.proofs.WholeLemmas.{ten_pos}
use Rattle.rpg_decimal.proofs.SumLemmas.{compared-scaled}
use Rattle.rpg_decimal.proofs.order.compare.Goals as goal

pub returns-then-a-b : goal.returns-then-a-b
returns-then-a-b c =
    let a = c.args.a in
    let b = c.args.b in
    c.cmp.ensures ∙ compared-scaled a.value b.value (10 ^ b.dec) (ten_pos b.dec)
    ∙ ap (λ k. int_cmp (a.value *ℤ pos (10 ^ b.dec)) (b.value *ℤ pos (10 ^ k))) (sym c.if-a-b.true)
