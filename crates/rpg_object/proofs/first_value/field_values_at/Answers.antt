use Rattle.std.proofs.lemmas.Result.{err_from_is_err_and}
use Rattle.rpg_object_format.specs.Format.{times_with}
use Rattle.rpg_program.specs.Values.{held}
use Rattle.rpg_object.specs.FirstValues.{entries_format, value}
use Rattle.rpg_object.proofs.OneEntry.{one_fails, one_read}
use Rattle.rpg_object.proofs.first_value.field_values_at.Goals as goal

pub returns-in_err-value : goal.returns-in_err-value
unfolding entries_format times_with
returns-in_err-value c =
    let p = err_from_is_err_and c.from_residual.result c.from_residual.ensures.1 in
    rw (p.1, p.2) (one_fails c.in_err-value.field-0.0 (value c.args.form.kind c.args.form.length).reading c.args.form.entries c.args.bytes.now c.if-form-eq1.true c.in_err-value.ensures)

pub returns-then-form-eq1 : goal.returns-then-form-eq1
unfolding entries_format times_with
returns-then-form-eq1 c = one_read (value c.args.form.kind c.args.form.length).reading c.args.form.entries c.args.bytes.now c.in_ok-value.rest.now (held c.in_ok-value.value) c.if-form-eq1.true c.in_ok-value.ensures
