use Rattle.std.proofs.Common.{◌<◌, IfSome, map, take, sym, subst, ◌∙◌}
use Rattle.rpg_record_merging.specs.Order.{IsNext, waiting_of}
use Rattle.rpg_record_merging.proofs.OrderLemmas.{first_next, other_next, still_next, this_next}
use Rattle.rpg_record_merging.proofs.order.next_through.Goals as goal

pub returns-then-not-head-clause-next : goal.returns-then-not-head-clause-next
returns-then-not-head-clause-next c =
    still_next c.args.is_descending c.args.heads.now c.args.place c.index-heads-place.result c.args.next c.requires.within c.index-heads-place.is c.if-not-head.true

pub returns-in_default-clause-next : goal.returns-in_default-clause-next
returns-in_default-clause-next c = λ n.
    first_next c.args.is_descending c.args.heads.now c.args.place c.index-heads-place.result c.requires.within c.index-heads-place.is c.if-not-head.false
    (subst (λ o. IsNext c.args.is_descending (map waiting_of (take c.args.place c.args.heads.now)) o) c.in_default.is n)

pub returns-then-is_before-clause-next : goal.returns-then-is_before-clause-next
returns-then-is_before-clause-next c = λ n.
    this_next c.args.is_descending c.args.heads.now c.args.place c.in-Some.other c.index-heads-place.result c.index-heads-other.result c.requires.within c.index-heads-place.is c.if-not-head.false
    (subst (λ o. IfSome o (λ k. k < c.args.place)) c.in-Some.is c.requires.earlier) c.index-heads-other.is (sym c.is_before.ensures ∙ c.if-is_before.true)
    (subst (λ o. IsNext c.args.is_descending (map waiting_of (take c.args.place c.args.heads.now)) o) c.in-Some.is n)

pub returns-clause-next : goal.returns-clause-next
returns-clause-next c = λ n.
    other_next c.args.is_descending c.args.heads.now c.args.place c.in-Some.other c.index-heads-place.result c.index-heads-other.result c.requires.within c.index-heads-place.is c.if-not-head.false
    (subst (λ o. IfSome o (λ k. k < c.args.place)) c.in-Some.is c.requires.earlier) c.index-heads-other.is (sym c.is_before.ensures ∙ c.if-is_before.false)
    (subst (λ o. IsNext c.args.is_descending (map waiting_of (take c.args.place c.args.heads.now)) o) c.in-Some.is n)
