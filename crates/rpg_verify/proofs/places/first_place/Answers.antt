use Rattle.std.proofs.Common.{◌+◌, cond, Some, sym, ap, ◌∙◌, arith}
use Rattle.rpg_program.specs.Object.{seen}
use Rattle.rpg_verify_rules.specs.Least.{first_true}
use Rattle.rpg_verify_rules.specs.Rules.{broken}
use Rattle.rpg_verify.proofs.Walking.{breaks_at, breaks_from, breaks_or_later, place_within, places_are}
use Rattle.rpg_verify.proofs.places.first_place.Goals as goal

pub returns-then-breaks : goal.returns-then-breaks
unfolding broken
returns-then-breaks c =
    let p = seen c.args.rows.now in
    let k = c.loop-placed.place in
    ap (λ b. cond b (Some k) (breaks_from c.args.rule p (k + 1))) (sym c.if-breaks.true ∙ c.breaks.ensures)
    ∙ ap (breaks_or_later c.args.rule p k) c.in-Some.ensures.placed
    ∙ sym (breaks_at c.args.rule p k)
    ∙ c.loop-placed.invariant
    ∙ ap (first_true 0) (sym (places_are c.args.rule p))

pub returns : goal.returns
unfolding broken
returns c =
    let p = seen c.args.rows.now in
    let k = c.loop-placed.place in
    ap (breaks_or_later c.args.rule p k) c.in_default.ensures.placed
    ∙ sym (breaks_at c.args.rule p k)
    ∙ c.loop-placed.invariant
    ∙ ap (first_true 0) (sym (places_are c.args.rule p))

pub overflow_add-place : goal.overflow_add-place
overflow_add-place c =
    let inside = place_within (seen c.args.rows.now) c.loop-placed.place c.in-Some.placed c.in-Some.ensures.placed in
    let all = c.requires.few_instructions in
    omega (arith, inside, all)

pub loop-placed-smaller : goal.loop-placed-smaller
loop-placed-smaller c =
    let inside = place_within (seen c.args.rows.now) c.loop-placed.place c.in-Some.placed c.in-Some.ensures.placed in
    omega (arith, inside)

pub loop-placed-preserved : goal.loop-placed-preserved
loop-placed-preserved c =
    let p = seen c.args.rows.now in
    let k = c.loop-placed.place in
    ap (λ b. cond b (Some k) (breaks_from c.args.rule p (k + 1))) (sym c.if-breaks.false ∙ c.breaks.ensures)
    ∙ ap (breaks_or_later c.args.rule p k) c.in-Some.ensures.placed
    ∙ sym (breaks_at c.args.rule p k)
    ∙ c.loop-placed.invariant
