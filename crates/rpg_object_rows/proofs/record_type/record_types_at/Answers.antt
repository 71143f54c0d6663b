use Rattle.std.proofs.Common.{[], ◌∷◌, map}
use Rattle.std.proofs.lemmas.List.{map-append}
use Rattle.std.proofs.lemmas.Result.{err_from_is_err_and}
use Rattle.rpg_object_format.specs.Format.{keep, times_with}
use Rattle.rpg_object_format.proofs.Loop.{continues, ends, is_done}
use Rattle.rpg_program.specs.Object.{type_row}
use Rattle.rpg_object_rows.specs.Types.{record_type_format}
use Rattle.rpg_object_rows.proofs.record_type.record_types_at.Goals as goal

pub returns-in_err-record_type : goal.returns-in_err-record_type
unfolding times_with
returns-in_err-record_type c =
    let p = err_from_is_err_and c.from_residual-in_err-record_type.result c.from_residual-in_err-record_type.ensures.1 in
    rw (p.1, p.2) (ends c.in_err-record_type.field-0.0 (λ s b. (record_type_format c.args.version).reading b) keep (map type_row c.loop.types.items) c.args.count c.loop.counter tt c.loop.rest.now _ c.loop-test.true c.in_err-record_type.ensures c.loop.invariant)

pub loop-preserved : goal.loop-preserved
loop-preserved c =
    rw (c.in_ok-push.ensures.items, map-append type_row c.loop.types.items (c.in_ok-record_type.record_type ∷ [])) (continues (λ s b. (record_type_format c.args.version).reading b) keep (map type_row c.loop.types.items) c.args.count c.loop.counter tt c.loop.rest.now (type_row c.in_ok-record_type.record_type) c.in_ok-record_type.after.now _ c.loop-test.true c.in_ok-record_type.ensures c.loop.invariant)

pub returns : goal.returns
unfolding times_with
returns c = is_done (λ s b. (record_type_format c.args.version).reading b) keep (map type_row c.loop.types.items) c.args.count c.loop.counter tt c.loop.rest.now _ c.loop-test.false c.loop.invariant
