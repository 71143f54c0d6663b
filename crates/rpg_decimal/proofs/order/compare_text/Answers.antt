use Rattle.std.proofs.Common.{◌≡◌, ◌+◌, get_or, nat_cmp, sym, ap, ap₂, ◌∙◌, arith}
use Rattle.std.specs.Ordering.{ordering_then}
use Rattle.rpg_decimal_words.specs.Order.{character_cmp, rank}
use Rattle.rpg_decimal.proofs.OrderLemmas.{compared_from, compared_more, same_character, then-other, other_order, equal_order}
use Rattle.rpg_decimal.proofs.order.compare_text.Goals as goal
use Rattle.rpg_decimal.proofs.order.compare_text.Goals.{then-x-y+else-ne, else-x-y}

pub returns-then-ne : goal.returns-then-ne
returns-then-ne c =
    let a = c.args.a.now in
    let b = c.args.b.now in
    let i = c.loop-place.place in
    let order_is : c.cmp-order.result ≡ character_cmp (get_or a i 32) (get_or b i 32) =
    c.cmp-order.ensures ∙ ap₂ nat_cmp (c.rank.ensures ∙ ap rank c.character_at-x.ensures) (c.rank-then-x-y.ensures ∙ ap rank c.character_at-y.ensures) in
    sym (then-other c.cmp-order.result (compared_from a b (i + 1)) (other_order c.cmp-order.result c.if-ne.ensures))
    ∙ ap (λ o. ordering_then o (compared_from a b (i + 1))) order_is
    ∙ sym (compared_more a b i (omega (arith, c.max-place-end.ensures))) ∙ c.loop-place.invariant

pub loop-place-preserved : goal.loop-place-preserved
loop-place-preserved c =
    let a = c.args.a.now in
    let b = c.args.b.now in
    let i = c.loop-place.place in
    let more = compared_more a b i (omega (arith, c.max-place-end.ensures)) in
    elim c.if-x-y.branch [
      | then-x-y+else-ne w ↦
          let equal = sym (equal_order w.cmp-order.result w.if-ne.ensures) ∙ w.cmp-order.ensures
          ∙ ap₂ nat_cmp (w.rank.ensures ∙ ap rank c.character_at-x.ensures) (w.rank-then-x-y.ensures ∙ ap rank c.character_at-y.ensures) in
          ap (λ o. ordering_then o (compared_from a b (i + 1))) equal ∙ sym more ∙ c.loop-place.invariant
      | else-x-y w ↦
          let equal = same_character (get_or a i 32) (get_or b i 32) (sym c.character_at-x.ensures ∙ w.if-x-y.false ∙ c.character_at-y.ensures) in
          ap (λ o. ordering_then o (compared_from a b (i + 1))) (sym equal) ∙ sym more ∙ c.loop-place.invariant
    ]
