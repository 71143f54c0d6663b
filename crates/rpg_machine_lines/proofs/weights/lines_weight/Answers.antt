use Rattle.std.proofs.Common.{◌≡◌, ◌+◌, ◌<◌, cond, length, get_or, ap, ◌∙◌, subst, arith}
use Rattle.rpg_program.specs.Weights.{lines_weight}
use Rattle.rpg_machine_lines.proofs.Weighing.{line_left, weight_few, weight_left}
use Rattle.rpg_machine_lines.specs.Weighed.{weighed}
use Rattle.rpg_program.specs.Object.{lines_of, seen}
use Rattle.rpg_machine_lines.proofs.weights.lines_weight.Goals as goal

pub overflow_add-weight : goal.overflow_add-weight
overflow_add-weight c =
    let lines = c.args.rows.now.lines.items in
    let i = c.loop-line.line-index in
    let l = c.line-item.result in
    let same = c.deref-line-items.ensures.value in
    let low : i < length lines = subst (λ xs. i < length xs) same c.loop-line-test.true in
    let is : l ≡ get_or lines i l = subst (λ xs. l ≡ get_or xs i l) same c.line-item.is in
    let p = seen c.args.rows.now in
    let meant = weighed c.args.output in
    let step = line_left p meant lines i l low is in
    let own : c.weight_where-own.result ≡ cond (meant l.time) (1 + length l.fields.items) 0 =
    c.weight_where-own.ensures ∙ ap (λ b. cond b (1 + length l.fields.items) 0) c.is_weighed.ensures in
    let few = weight_few p meant c.requires in
    let whole : c.loop-line.weight + weight_left p meant lines i ≡ lines_weight meant (lines_of p) = c.loop-line.invariant in
    omega (arith, step, own, few, whole)

pub loop-line-preserved : goal.loop-line-preserved
loop-line-preserved c =
    let lines = c.args.rows.now.lines.items in
    let i = c.loop-line.line-index in
    let l = c.line-item.result in
    let same = c.deref-line-items.ensures.value in
    let low : i < length lines = subst (λ xs. i < length xs) same c.loop-line-test.true in
    let is : l ≡ get_or lines i l = subst (λ xs. l ≡ get_or xs i l) same c.line-item.is in
    let p = seen c.args.rows.now in
    let meant = weighed c.args.output in
    let step = line_left p meant lines i l low is in
    let own : c.weight_where-own.result ≡ cond (meant l.time) (1 + length l.fields.items) 0 =
    c.weight_where-own.ensures ∙ ap (λ b. cond b (1 + length l.fields.items) 0) c.is_weighed.ensures in
    let whole : c.loop-line.weight + weight_left p meant lines i ≡ lines_weight meant (lines_of p) = c.loop-line.invariant in
    omega (arith, step, own, whole)

pub returns-clause-few : goal.returns-clause-few
returns-clause-few c =
    let p = seen c.args.rows.now in
    let meant = weighed c.args.output in
    let few = weight_few p meant c.requires in
    let whole : c.loop-line.weight + weight_left p meant c.args.rows.now.lines.items c.loop-line.line-index ≡ lines_weight meant (lines_of p) = c.loop-line.invariant in
    omega (arith, few, whole)
