use Rattle.std.proofs.Common.{ap, ◌∙◌, length, subst, sym}
use Rattle.rpg_program.specs.Forms.{form_at}
use Rattle.rpg_program.specs.World.{three_hold}
use Rattle.rpg_machine_lines.proofs.Fields.{right}
use Rattle.rpg_machine_lines.proofs.Planned.{sought_laid}
use Rattle.rpg_machine_lines.specs.Drafts.{fields_replaced}
use Rattle.rpg_machine_lines.specs.Entries.{AreFieldEntries, IsFieldEntry}
use Rattle.rpg_machine_lines.specs.Putting.{CanRemember}
use Rattle.rpg_machine_lines.specs.Right.{IsRightField}
use Rattle.rpg_program.specs.Constants.{word_at}
use Rattle.rpg_program.specs.Object.{Object}
use Rattle.rpg_memory.specs.Memory.{Working, forms_in}
use Rattle.rpg_machine_lines.proofs.assembly.with_field.Goals as goal

pub lay_value-requires-clause-right : goal.lay_value-requires-clause-right
lay_value-requires-clause-right g c =
    subst (λ (x : Working). IsRightField (forms_in x) (word_at x.program) (length c.args.text.now) c.args.field.now) (sym c.count_page.ensures)
    (right _ _ _ _ c.requires.right)

pub lay_value-requires-clause-form : goal.lay_value-requires-clause-form
lay_value-requires-clause-form g c =
    let field = c.args.field.now.operand.field in
    c.form_at-form.ensures ∙ ap (λ (x : Object). form_at x.fields field) c.rows.ensures.same
    ∙ ap (λ (x : Working). forms_in x field) (sym c.count_page.ensures)

pub lay_value-requires-clause-entry : goal.lay_value-requires-clause-entry
lay_value-requires-clause-entry g c =
    subst (λ (x : Working). IsFieldEntry x.program.fields c.args.field.now.operand.field c.in-Some.position) (sym c.count_page.ensures) c.in-Some.ensures.entry

pub remember-requires-clause-more : goal.remember-requires-clause-more
remember-requires-clause-more g c =
    subst (λ (x : Working). CanRemember x.program.fields (length c.args.to_blank.now) c.args.to_blank.now) (sym c.count_page.ensures) c.requires.more

pub remember-requires-clause-entry : goal.remember-requires-clause-entry
remember-requires-clause-entry g c =
    subst (λ (x : Working). IsFieldEntry x.program.fields c.args.field.now.operand.field c.in-Some.position) (sym c.count_page.ensures) c.in-Some.ensures.entry

pub returns-in-Some-clause-drafted : goal.returns-in-Some-clause-drafted
returns-in-Some-clause-drafted g c =
    let f = c.args.field.now in
    let holds = sym (c.three_hold.ensures ∙ ap (λ s. three_hold s f.conditions) c.on.ensures) ∙ c.if-not-three_hold.false in
    sought_laid c.args.memory.now c.count_page.new.memory c.args.text.now c.lay_value.new.text c.args.to_blank.now c.remember.new.to_blank f c.in-Some.position
    holds c.requires.right (sym c.position_of.ensures.value ∙ c.in-Some.is) c.count_page.ensures c.lay_value.ensures.text c.remember.ensures.items

pub returns-in-Some-clause-changes : goal.returns-in-Some-clause-changes
returns-in-Some-clause-changes g c =
    let m = c.args.memory.now in
    record {
      rest = c.count_page.ensures ∙ ap (λ (x : Working). fields_replaced x.world.data.fields m) (sym c.count_page.ensures);
      each = subst (λ (x : Working). AreFieldEntries x.program.fields c.remember.new.to_blank) c.count_page.ensures c.remember.ensures.one.each;
      few = c.remember.ensures.one.few;
    }
