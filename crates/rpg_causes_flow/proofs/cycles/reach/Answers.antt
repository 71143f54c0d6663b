use Rattle.std.proofs.Common.{◌≡◌, ℕ, zero, suc, ◌+◌, ◌-◌, List, ◌∙◌, length, subst, sym, arith}
use Rattle.rpg_causes_flow.specs.Index.{IsReaching}
use Rattle.rpg_causes_flow.proofs.cycles.reach.Goals as goal
use Rattle.rpg_symbols.specs.Chains.{Calls}

-- where one call more changes nothing, so many more don't
stays : (all : Calls) (first count : ℕ) (words : List ℕ) → ((n : ℕ) → IsReaching n all first count words → IsReaching (n + 1) all first count words) → (more n : ℕ) → IsReaching n all first count words → IsReaching (n + more) all first count words
stays all first count words step zero n is = let same : n ≡ n + 0 = omega arith in subst (λ m. IsReaching m all first count words) same is
stays all first count words step (suc more) n is =
    let same : n + 1 + more ≡ n + suc more = omega arith in
    subst (λ m. IsReaching m all first count words) same (stays all first count words step more (n + 1) (step n is))

pub loop-init : goal.loop-init
loop-init c =
    let start = c.reach_itself.ensures c.args.calls.now in
    subst (λ n. IsReaching 0 c.args.calls.now c.args.first n c.reach_itself.new.words) (sym start.each_has) start

pub loop-preserved : goal.loop-preserved
loop-preserved c =
    let was = c.loop.invariant in
    let same = was.each_has in
    let next = c.reach_further.ensures.reaching c.loop.counter (subst (λ n. IsReaching c.loop.counter c.args.calls.now c.args.first n c.loop.words) (sym same) was) in
    subst (λ words. IsReaching (c.loop.counter + 1) c.args.calls.now c.args.first (length c.reach_itself.new.words) words) (sym c.copy_from_slice.ensures.after)
    (subst (λ n. IsReaching (c.loop.counter + 1) c.args.calls.now c.args.first n c.reach_further.new.next) same next)

pub returns-then-are_same : goal.returns-then-are_same
returns-then-are_same c =
    let calls = c.args.calls.now in
    let first = c.args.first in
    let words = c.loop.words in
    let was = c.loop.invariant in
    let same = was.each_has in
    let kept = c.are_same.ensures c.if-are_same.true in
    let here = subst (λ n. IsReaching c.loop.counter calls first n words) (sym same) was in
    let all : c.loop.counter + (length calls - c.loop.counter) ≡ length calls = omega arith in
    let last = stays calls first (length words) words (λ n is. subst (λ next. IsReaching (n + 1) calls first (length words) next) kept (c.reach_further.ensures.reaching n is)) (length calls - c.loop.counter) c.loop.counter here in
    let there = subst (λ n. IsReaching n calls first (length words) words) all last in
    let start = c.reach_itself.ensures calls in
    subst (λ n. IsReaching (length calls) calls first n words) (same ∙ start.each_has) there
