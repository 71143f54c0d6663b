use Rattle.rpg_machine_lines.proofs.Fields.{right}
use Rattle.rpg_machine_lines.proofs.Planned.{fixed_form, fixed_laid, fixed_place, fixed_there}
use Rattle.rpg_machine_lines.proofs.assembly.with_fixed_field.Goals as goal

pub lay_fixed_value-requires-clause-right : goal.lay_fixed_value-requires-clause-right
lay_fixed_value-requires-clause-right g c = right _ _ _ _ c.requires.right

pub lay_fixed_value-requires-clause-form : goal.lay_fixed_value-requires-clause-form
lay_fixed_value-requires-clause-form g c =
    let m = c.args.memory.now in
    fixed_form m.program.fields c.args.field.now c.args.fixed.now c.requires.fixed m.world.data.fields

pub lay_fixed_value-requires-clause-entry : goal.lay_fixed_value-requires-clause-entry
lay_fixed_value-requires-clause-entry g c =
    let m = c.args.memory.now in
    let ok = right _ _ _ _ c.requires.right in
    fixed_there m.program.fields c.args.field.now c.args.fixed.now c.requires.fixed m.world.data.fields c.is_kept.ensures.valid c.is_kept.ensures.fits ok.there ok.index

pub lay_fixed_value-requires-clause-place : goal.lay_fixed_value-requires-clause-place
lay_fixed_value-requires-clause-place g c =
    let m = c.args.memory.now in
    fixed_place m.program.fields c.args.field.now c.args.fixed.now c.requires.fixed m.world.data.fields

pub remember-requires-clause-entry : goal.remember-requires-clause-entry
remember-requires-clause-entry g c =
    let m = c.args.memory.now in
    let ok = right _ _ _ _ c.requires.right in
    fixed_there m.program.fields c.args.field.now c.args.fixed.now c.requires.fixed m.world.data.fields c.is_kept.ensures.valid c.is_kept.ensures.fits ok.there ok.index

pub returns-clause-drafted : goal.returns-clause-drafted
returns-clause-drafted g c =
    fixed_laid c.args.memory.now c.args.text.now c.lay_fixed_value.new.text c.args.to_blank.now c.remember.new.to_blank c.args.field.now c.args.fixed.now
    c.requires.fixed c.requires.holds c.requires.right c.lay_fixed_value.ensures.text c.remember.ensures.items
