use Rattle.std.proofs.Common.{◌≡◌, ◌*◌, ap, ◌∙◌, arith}
use Rattle.rpg_program.specs.Object.{seen}
use Rattle.rpg_verify.proofs.Sizes.{once_few, output_few, paid_by, types_light}
use Rattle.rpg_verify.specs.Bound.{bound, most}
use Rattle.rpg_verify.proofs.bound.bound_of.Goals as goal

pub overflow_add-moved : goal.overflow_add-moved
overflow_add-moved c =
    let p = seen c.args.rows.now in
    let types = types_light p c.requires.program in
    let output = output_few p c.requires.program in
    let t = c.types_weight-types.ensures in
    let o = c.output_weight-output.ensures in
    omega (arith, types, output, t, o)

pub overflow_add-passed : goal.overflow_add-passed
overflow_add-passed c =
    let p = seen c.args.rows.now in
    let types = types_light p c.requires.program in
    let output = output_few p c.requires.program in
    let passed = once_few p c.requires.program in
    let t = c.types_weight-types.ensures in
    let o = c.output_weight-output.ensures in
    let s = c.requires.once in
    omega (arith, types, output, passed, t, o, s)

pub overflow_mul-spent : goal.overflow_mul-spent
overflow_mul-spent c =
    let paid = paid_by (seen c.args.rows.now) c.requires.program c.from-allowance.result c.args.costs.now.most c.from-allowance.ensures c.requires.most in
    omega (arith, paid)

pub overflow_add-bound : goal.overflow_add-bound
overflow_add-bound c =
    let p = seen c.args.rows.now in
    let types = types_light p c.requires.program in
    let output = output_few p c.requires.program in
    let passed = once_few p c.requires.program in
    let t = c.types_weight-types.ensures in
    let o = c.output_weight-output.ensures in
    let s = c.requires.once in
    let paid = paid_by p c.requires.program c.from-allowance.result c.args.costs.now.most c.from-allowance.ensures c.requires.most in
    omega (arith, types, output, passed, t, o, s, paid)

pub returns : goal.returns
unfolding bound
returns c =
    let p = seen c.args.rows.now in
    let t = c.types_weight-types.ensures in
    let o = c.output_weight-output.ensures in
    let s = c.requires.once in
    let paid : c.from-allowance.result * c.args.costs.now.most ≡ p.allowance * most p = ap (λ a. a * c.args.costs.now.most) c.from-allowance.ensures ∙ ap (λ m. p.allowance * m) c.requires.most in
    omega (arith, t, o, s, paid)
