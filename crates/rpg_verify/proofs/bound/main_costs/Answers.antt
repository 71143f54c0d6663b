use Rattle.std.proofs.Common.{◌≡◌, ◌≤◌, length, ap, arith}
use Rattle.rpg_program.specs.Object.{seen}
use Rattle.rpg_verify.proofs.Sizes.{under}
use Rattle.rpg_verify.proofs.bound.main_costs.Goals as goal

pub overflow_add-costs : goal.overflow_add-costs
overflow_add-costs c =
    let p = seen c.args.rows.now in
    let all = c.requires.program.few_instructions in
    let few_detail : length c.deref.result.now ≤ 8192 = (let e : length c.deref.result.now ≡ length p.detail = ap length c.deref.ensures.value in omega (arith, all, e)) in
    let few_total : length c.deref-2.result.now ≤ 8192 = (let e : length c.deref-2.result.now ≡ length p.total = ap length c.deref-2.ensures.value in omega (arith, all, e)) in
    let a = under p c.requires.program 0 c.deref.result.now 8192 few_detail 0 in
    let b = under p c.requires.program c.len.result c.deref-2.result.now 8192 few_total 0 in
    let first = c.in_ok-costs.ensures.once in
    let second = c.in_ok-total.ensures.once in
    let kept = c.append.ensures.once in
    omega (arith, a, b, first, second, kept)
