use Rattle.std.proofs.Common.{arith}
use Rattle.std.proofs.lemmas.Result.{err_from_is_err_and}
use Rattle.rpg_object_format.specs.Format.{times_with}
use Rattle.rpg_object_format.proofs.Loop.{continues, ends, is_done}
use Rattle.rpg_object.specs.Fields.{field, fields, storage_after}
use Rattle.rpg_object.proofs.FieldLaws.{fields_lengths, fields_law}
use Rattle.rpg_object.proofs.field.fields_at.Goals as goal

pub returns-in_err-field-clause-read : goal.returns-in_err-field-clause-read
unfolding fields times_with
returns-in_err-field-clause-read c =
    let p = err_from_is_err_and c.from_residual-in_err-field.result c.from_residual-in_err-field.ensures.1 in
    rw (p.1, p.2) (ends c.in_err-field.field-0.0 (λ s b. (field s).reading b) storage_after c.loop.fields.items c.args.count c.loop.counter c.loop.storage c.loop.rest.now _ c.loop-test.true c.in_err-field.ensures c.loop.invariant)

pub loop-preserved : goal.loop-preserved
loop-preserved c =
    rw (c.in_ok-push.ensures.items, c.saturating_sub-storage.ensures) (continues (λ s b. (field s).reading b) storage_after c.loop.fields.items c.args.count c.loop.counter c.loop.storage c.loop.rest.now c.in_ok-field.field c.in_ok-field.after.now _ c.loop-test.true c.in_ok-field.ensures c.loop.invariant)

pub returns-clause-read : goal.returns-clause-read
unfolding fields times_with
returns-clause-read c = is_done (λ s b. (field s).reading b) storage_after c.loop.fields.items c.args.count c.loop.counter c.loop.storage c.loop.rest.now _ c.loop-test.false c.loop.invariant

pub returns-clause-lengths : goal.returns-clause-lengths
unfolding fields times_with
returns-clause-lengths c =
    let all = is_done (λ s b. (field s).reading b) storage_after c.loop.fields.items c.args.count c.loop.counter c.loop.storage c.loop.rest.now _ c.loop-test.false c.loop.invariant in
    fields_lengths c.args.count c.loop.fields.items ((fields_law c.args.count).takes c.args.bytes.now c.loop.fields.items c.loop.rest.now (λ i. omega (arith, c.type_inv.bytes i)) all).1
