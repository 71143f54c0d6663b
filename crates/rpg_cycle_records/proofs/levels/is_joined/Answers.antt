use Rattle.std.proofs.Common.{sym, ap, ◌∙◌}
use Rattle.std.proofs.lemmas.List.{drop_all}
use Rattle.rpg_cycle_records.specs.Levels.{same_bytes, joined_bytes}
use Rattle.rpg_cycle_records.proofs.Joining.{same_first, other_first, same_none}
use Rattle.rpg_cycle_records.proofs.levels.is_joined.Goals as goal

pub returns-in-None : goal.returns-in-None
returns-in-None c = sym (other_first c.args.fields.now c.loop-field.field-index _ c.args.text.now c.loop-field.rest.now c.args.level c.loop-field-test.true (sym c.in-None.ensures)) ∙ c.loop-field.invariant

pub loop-field-preserved : goal.loop-field-preserved
loop-field-preserved c =
    sym (same_first c.args.fields.now c.loop-field.field-index _ c.args.text.now c.loop-field.rest.now c.in-Some.others.now c.args.level c.loop-field-test.true (sym c.in-Some.ensures)) ∙ c.loop-field.invariant

pub returns : goal.returns
returns c =
    c.is_empty.ensures ∙ sym (same_none c.loop-field.rest.now)
    ∙ ap (λ fs. same_bytes c.loop-field.rest.now (joined_bytes fs c.args.text.now c.args.level)) (sym (drop_all c.loop-field.field-index c.args.fields.now c.loop-field-test.false))
    ∙ c.loop-field.invariant
