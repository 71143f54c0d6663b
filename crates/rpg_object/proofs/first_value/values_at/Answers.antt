use Rattle.std.proofs.Common.{[], ◌∷◌, length, drop, map, sym, subst, ap, ◌∙◌}
use Rattle.std.proofs.lemmas.List.{map-append}
use Rattle.std.proofs.lemmas.Result.{err_from_is_err_and}
use Rattle.rpg_program.specs.Values.{entries_held}
use Rattle.rpg_object_format.specs.Format.{times_with}
use Rattle.rpg_object_format.specs.Reading.{Fails}
use Rattle.rpg_object_format.proofs.Loop.{continues, ends, is_done}
use Rattle.rpg_object.specs.FirstValues.{values_format, next_entries, later_fields}
use Rattle.rpg_object.proofs.FieldsLeft.{next_entries-drop, later_fields-drop}
use Rattle.rpg_object.proofs.first_value.values_at.Goals as goal

pub returns-in_err-entries : goal.returns-in_err-entries
unfolding values_format times_with
returns-in_err-entries c =
    let p = err_from_is_err_and c.from_residual-in_err-entries.result c.from_residual-in_err-entries.ensures.1 in
    let same = ap (λ f. f.reading c.loop-field.rest.now) (next_entries-drop c.args.fields.now c.loop-field.field-index _ c.loop-field-test.true) in
    rw (p.1, p.2) (ends c.in_err-entries.field-0.0 (λ s b. (next_entries s).reading b) later_fields (map entries_held c.loop-field.values.items) (length c.args.fields.now) c.loop-field.field-index (drop c.loop-field.field-index c.args.fields.now) c.loop-field.rest.now _ c.loop-field-test.true (subst (λ r. Fails c.in_err-entries.field-0.0 r) (sym same) c.in_err-entries.ensures) c.loop-field.invariant)

pub loop-field-preserved : goal.loop-field-preserved
loop-field-preserved c =
    let same = ap (λ f. f.reading c.loop-field.rest.now) (next_entries-drop c.args.fields.now c.loop-field.field-index _ c.loop-field-test.true) in
    let later = later_fields-drop c.args.fields.now c.loop-field.field-index (entries_held c.in_ok-entries.entries) in
    rw (c.in_ok-push.ensures.items, map-append entries_held c.loop-field.values.items (c.in_ok-entries.entries ∷ []), ← later) (continues (λ s b. (next_entries s).reading b) later_fields (map entries_held c.loop-field.values.items) (length c.args.fields.now) c.loop-field.field-index (drop c.loop-field.field-index c.args.fields.now) c.loop-field.rest.now (entries_held c.in_ok-entries.entries) c.in_ok-entries.after.now _ c.loop-field-test.true (same ∙ c.in_ok-entries.ensures) c.loop-field.invariant)

pub returns : goal.returns
unfolding values_format times_with
returns c = is_done (λ s b. (next_entries s).reading b) later_fields (map entries_held c.loop-field.values.items) (length c.args.fields.now) c.loop-field.field-index (drop c.loop-field.field-index c.args.fields.now) c.loop-field.rest.now _ c.loop-field-test.false c.loop-field.invariant
