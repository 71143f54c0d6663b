use Rattle.std.proofs.Common.{◌≡◌, ◌+◌, ◌<◌, not, cond, length, get_or, sym, ap, ◌∙◌, subst, arith}
use Rattle.rpg_program.specs.Weights.{exceptions_weight, is_exception, is_in_cycle, overflow_weight}
use Rattle.rpg_program.specs.Object.{lines_of, seen}
use Rattle.rpg_verify.proofs.Left.{in_cycle, line_left, weight_left}
use Rattle.rpg_verify.proofs.Sizes.{exceptions_few, others_few}
use Rattle.rpg_verify.proofs.weights.line_weights.Goals as goal

pub overflow_add-exceptions : goal.overflow_add-exceptions
overflow_add-exceptions c =
    let lines = c.args.rows.now.lines.items in
    let i = c.loop-line.line-index in
    let l = c.line-item.result in
    let same = c.deref-line-items.ensures.value in
    let low : i < length lines = subst (λ xs. i < length xs) same c.loop-line-test.true in
    let is : l ≡ get_or lines i l = subst (λ xs. l ≡ get_or xs i l) same c.line-item.is in
    let p = seen c.args.rows.now in
    let step = line_left p is_exception lines i l low is in
    let own : c.weight_where-own.result ≡ cond (is_exception l.time) (1 + length l.fields.items) 0 = c.weight_where-own.ensures ∙ ap (λ b. cond b (1 + length l.fields.items) 0) c.is_exception-is_meant.ensures in
    let few = exceptions_few p c.requires in
    let whole : c.loop-line.exceptions + weight_left p is_exception lines i ≡ exceptions_weight (lines_of p) = c.loop-line.invariant.exceptions in
    omega (arith, step, own, few, whole)

pub overflow_add-others : goal.overflow_add-others
overflow_add-others c =
    let lines = c.args.rows.now.lines.items in
    let i = c.loop-line.line-index in
    let l = c.line-item.result in
    let same = c.deref-line-items.ensures.value in
    let low : i < length lines = subst (λ xs. i < length xs) same c.loop-line-test.true in
    let is : l ≡ get_or lines i l = subst (λ xs. l ≡ get_or xs i l) same c.line-item.is in
    let p = seen c.args.rows.now in
    let step = line_left p is_in_cycle lines i l low is in
    let other : c.weight_where-other.result ≡ cond (is_in_cycle l.time) (1 + length l.fields.items) 0 =
    c.weight_where-other.ensures ∙ ap (λ b. cond (not b) (1 + length l.fields.items) 0) c.is_exception-is_meant.ensures ∙ ap (λ b. cond b (1 + length l.fields.items) 0) (sym (in_cycle l.time)) in
    let few = others_few p c.requires in
    let whole : c.loop-line.others + weight_left p is_in_cycle lines i ≡ overflow_weight (lines_of p) = c.loop-line.invariant.others in
    omega (arith, step, other, few, whole)

pub loop-line-preserved : goal.loop-line-preserved
loop-line-preserved c =
    let lines = c.args.rows.now.lines.items in
    let i = c.loop-line.line-index in
    let l = c.line-item.result in
    let same = c.deref-line-items.ensures.value in
    let low : i < length lines = subst (λ xs. i < length xs) same c.loop-line-test.true in
    let is : l ≡ get_or lines i l = subst (λ xs. l ≡ get_or xs i l) same c.line-item.is in
    let p = seen c.args.rows.now in
    let first = line_left p is_exception lines i l low is in
    let own : c.weight_where-own.result ≡ cond (is_exception l.time) (1 + length l.fields.items) 0 = c.weight_where-own.ensures ∙ ap (λ b. cond b (1 + length l.fields.items) 0) c.is_exception-is_meant.ensures in
    let second = line_left p is_in_cycle lines i l low is in
    let other : c.weight_where-other.result ≡ cond (is_in_cycle l.time) (1 + length l.fields.items) 0 =
    c.weight_where-other.ensures ∙ ap (λ b. cond (not b) (1 + length l.fields.items) 0) c.is_exception-is_meant.ensures ∙ ap (λ b. cond b (1 + length l.fields.items) 0) (sym (in_cycle l.time)) in
    let exceptions : c.loop-line.exceptions + weight_left p is_exception lines i ≡ exceptions_weight (lines_of p) = c.loop-line.invariant.exceptions in
    let others : c.loop-line.others + weight_left p is_in_cycle lines i ≡ overflow_weight (lines_of p) = c.loop-line.invariant.others in
    record { exceptions = omega (arith, first, own, exceptions); others = omega (arith, second, other, others) }

pub returns-clause-few_exceptions : goal.returns-clause-few_exceptions
returns-clause-few_exceptions c =
    let p = seen c.args.rows.now in
    let few = exceptions_few p c.requires in
    let whole : c.loop-line.exceptions + weight_left p is_exception c.args.rows.now.lines.items c.loop-line.line-index ≡ exceptions_weight (lines_of p) = c.loop-line.invariant.exceptions in
    omega (arith, few, whole)

pub returns-clause-few_others : goal.returns-clause-few_others
returns-clause-few_others c =
    let p = seen c.args.rows.now in
    let few = others_few p c.requires in
    let whole : c.loop-line.others + weight_left p is_in_cycle c.args.rows.now.lines.items c.loop-line.line-index ≡ overflow_weight (lines_of p) = c.loop-line.invariant.others in
    omega (arith, few, whole)
