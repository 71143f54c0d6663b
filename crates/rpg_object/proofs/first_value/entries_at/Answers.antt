use Rattle.std.proofs.Common.{[], ◌∷◌, map}
use Rattle.std.proofs.lemmas.List.{map-append}
use Rattle.std.proofs.lemmas.Result.{err_from_is_err_and}
use Rattle.rpg_program.specs.Values.{held}
use Rattle.rpg_object_format.specs.Format.{keep, times_with}
use Rattle.rpg_object_format.proofs.Loop.{continues, ends, is_done}
use Rattle.rpg_object.specs.FirstValues.{entries_format, value}
use Rattle.rpg_object.proofs.first_value.entries_at.Goals as goal

pub returns-in_err-value : goal.returns-in_err-value
unfolding entries_format times_with
returns-in_err-value c =
    let p = err_from_is_err_and c.from_residual-in_err-value.result c.from_residual-in_err-value.ensures.1 in
    rw (p.1, p.2) (ends c.in_err-value.field-0.0 (λ s b. (value c.args.form.kind c.args.form.length).reading b) keep (map held c.loop.entries.items) c.args.form.entries c.loop.counter tt c.loop.rest.now _ c.loop-test.true c.in_err-value.ensures c.loop.invariant)

pub loop-preserved : goal.loop-preserved
loop-preserved c =
    rw (c.in_ok-push.ensures.items, map-append held c.loop.entries.items (c.in_ok-value.value ∷ [])) (continues (λ s b. (value c.args.form.kind c.args.form.length).reading b) keep (map held c.loop.entries.items) c.args.form.entries c.loop.counter tt c.loop.rest.now (held c.in_ok-value.value) c.in_ok-value.after.now _ c.loop-test.true c.in_ok-value.ensures c.loop.invariant)

pub returns : goal.returns
unfolding entries_format times_with
returns c = is_done (λ s b. (value c.args.form.kind c.args.form.length).reading b) keep (map held c.loop.entries.items) c.args.form.entries c.loop.counter tt c.loop.rest.now _ c.loop-test.false c.loop.invariant
