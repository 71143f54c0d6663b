use Rattle.std.proofs.Common.{rules, ◌≡◌, ◌+◌, ◌∷◌, ◌<◌, length, drop, sym, ap, ◌∙◌, arith, length-drop}
use Rattle.rpg_compile.specs.Tests.{alternatives_in, tests_in}
use Rattle.rpg_compile.proofs.Alternatives.{pushed, split_tests}
use Rattle.rpg_compile.proofs.tests.push_tests.Goals as goal

pub loop-end-preserved : goal.loop-end-preserved
loop-end-preserved c =
    let e = c.in-Some.ensures in
    let front = c.split_at.ensures.front in
    let back = c.split_at.ensures.back in
    let inside = e.1 in
    let n = ap length back ∙ length-drop (c.in-Some.end) c.loop-end.rest.now in
    let i = c.loop-end.invariant in
    let some : 0 < length c.split_at.result.1.now = omega arith in
    let split : alternatives_in c.loop-end.rest.now ≡ tests_in c.split_at.result.0.now ∷ alternatives_in c.split_at.result.1.now = e.2 ∙ ap (λ ks. tests_in ks ∷ alternatives_in (drop c.in-Some.end c.loop-end.rest.now)) (sym front) ∙ ap (λ ks. tests_in c.split_at.result.0.now ∷ alternatives_in ks) (sym back) in
    let counts : length (tests_in c.loop-end.rest.now) ≡ length (tests_in c.split_at.result.0.now) + length (tests_in c.split_at.result.1.now) = split_tests c.loop-end.rest.now c.in-Some.end ∙ ap (λ ks. length (tests_in ks) + length (tests_in (drop c.in-Some.end c.loop-end.rest.now))) (sym front) ∙ ap (λ ks. length (tests_in c.split_at.result.0.now) + length (tests_in ks)) (sym back) in
    let places = i.places in
    record {
      some = some;
      places = omega (arith, c.count_tests-count.ensures);
      so_far = pushed c.loop-end.code c.push_alternative.new.code _ c.loop-end.at c.count_tests-count.result c.args.operation c.args.following c.loop-end.rest.now c.split_at.result.0.now c.split_at.result.1.now i.so_far split some c.count_tests-count.ensures (search rules);
    }
