use Rattle.std.proofs.Common.{◌≡◌, ◌+◌, ◌≤◌, length, drop, sym, ap, ◌∙◌, subst, arith, length-drop}
use Rattle.std.specs.Prelude.{slice_index}
use Rattle.rpg_program.specs.Forms.{form_at}
use Rattle.rpg_program.specs.Weights.{instruction_weight}
use Rattle.rpg_verify.specs.Paths.{costs_from}
use Rattle.rpg_verify.proofs.Sizes.{costs_under}
use Rattle.rpg_verify.proofs.costs.costs_of.Goals as goal

pub cost_at-cost-requires-clause-under : goal.cost_at-cost-requires-clause-under
cost_at-cost-requires-clause-under c k =
    let fields = c.args.rows.now.fields.items in
    let i = c.loop-i.i in
    let w = instruction_weight (form_at fields) c.args.exceptions in
    let few = c.requires.few in
    let long : length (drop i c.args.code.now) ≤ 8192 = simp length-drop (omega arith) in
    let done : c.following.result.now ≡ costs_from w (c.args.first + i) (drop i c.args.code.now) = c.following.ensures ∙ ap (drop i) c.deref.ensures.value ∙ c.loop-i.invariant.done in
    subst (λ xs. slice_index xs k ≤ 1728512000) (sym done) (costs_under fields c.requires.fields c.args.exceptions c.requires.exceptions (c.args.first + i) (drop i c.args.code.now) long k)
