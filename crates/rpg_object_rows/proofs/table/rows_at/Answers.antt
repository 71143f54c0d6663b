use Rattle.std.proofs.Common.{[], ◌∷◌, map}
use Rattle.std.proofs.lemmas.List.{map-append}
use Rattle.std.proofs.lemmas.Result.{err_from_is_err_and}
use Rattle.rpg_object_format.specs.Format.{keep}
use Rattle.rpg_object_format.proofs.Loop.{continues, ends, is_done}
use Rattle.rpg_object_rows.proofs.table.rows_at.Goals as goal

pub returns-in_err-row : goal.returns-in_err-row
returns-in_err-row g c =
    let p = err_from_is_err_and c.from_residual-in_err-row.result c.from_residual-in_err-row.ensures.1 in
    rw (p.1, p.2) (ends c.in_err-row.field-0.0 (λ s b. g.T.Row.read b) keep (map g.T.Row.seen c.loop.rows.items) c.args.count c.loop.counter tt c.loop.rest.now _ c.loop-test.true c.in_err-row.ensures c.loop.invariant)

pub loop-preserved : goal.loop-preserved
loop-preserved g c =
    rw (c.in_ok-push.ensures.items, map-append g.T.Row.seen c.loop.rows.items (c.in_ok-row.row ∷ [])) (continues (λ s b. g.T.Row.read b) keep (map g.T.Row.seen c.loop.rows.items) c.args.count c.loop.counter tt c.loop.rest.now (g.T.Row.seen c.in_ok-row.row) c.in_ok-row.after.now _ c.loop-test.true c.in_ok-row.ensures c.loop.invariant)

pub returns : goal.returns
returns g c = is_done (λ s b. g.T.Row.read b) keep (map g.T.Row.seen c.loop.rows.items) c.args.count c.loop.counter tt c.loop.rest.now _ c.loop-test.false c.loop.invariant
