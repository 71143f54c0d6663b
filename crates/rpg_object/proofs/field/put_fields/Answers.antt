use Rattle.std.proofs.Common.{length, arith}
use Rattle.std.proofs.lemmas.Grind.{common_steps}
use Rattle.rpg_object.proofs.FieldTexts.{fields_text}
use Rattle.rpg_object.proofs.field.put_fields.Goals as goal

pub returns : goal.returns
returns c = rw (fields_text (length c.args.forms.now) c.args.forms.now) (grind (arith, common_steps))
