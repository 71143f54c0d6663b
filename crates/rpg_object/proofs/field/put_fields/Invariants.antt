use Rattle.std.proofs.Common.{◌≡◌, ◌++◌, drop}
use Rattle.rpg_object_format.specs.Format.{keep, spelled_along}
use Rattle.rpg_object.proofs.FieldTexts.{field_text}
use Rattle.rpg_object.proofs.field.put_fields.Given as goal

abbrev pub invariant-loop-form : goal.invariant-loop-form
invariant-loop-form l = l.out.items ++ spelled_along (λ u f. field_text f) keep tt (drop l.form-index l.forms) ≡ l.initial.out.items ++ spelled_along (λ u f. field_text f) keep tt l.forms
