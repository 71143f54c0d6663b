use Rattle.std.proofs.Common.{◌∙◌, sym, length}
use Rattle.rpg_program.specs.declared.form.Kind.TheVariants as kinds
use Rattle.rpg_machine_inputs.proofs.Filling.{field_filled, fits_field, long_there, value_there}
use Rattle.rpg_machine_inputs.proofs.inputs.fill_one.Goals as goal

pub columns_of-part-requires-clause-columns : goal.columns_of-part-requires-clause-columns
columns_of-part-requires-clause-columns g c =
    let fits = fits_field c.args.memory.now.program.fields (length c.args.text.now) c.args.input.now c.requires.right in
    record { low = fits.low; ordered = fits.ordered; high = fits.high }

pub fill_number-requires : goal.fill_number-requires
fill_number-requires g c =
    let forms = c.args.memory.now.program.fields in
    let fits = fits_field forms (length c.args.text.now) c.args.input.now c.requires.right in
    record {
      field = value_there forms (length c.args.text.now) c.args.input.now kinds.Number c.is_kept.ensures.valid fits (sym c.in-Number.is ∙ c.requires.fixed.kind);
      fixed = c.requires.fixed;
      long = long_there forms (length c.args.text.now) _ c.args.input.now fits c.columns_of-part.ensures.length;
    }

pub fill_text-requires-clause-fill : goal.fill_text-requires-clause-fill
fill_text-requires-clause-fill g c =
    let forms = c.args.memory.now.program.fields in
    let fits = fits_field forms (length c.args.text.now) c.args.input.now c.requires.right in
    record {
      field = value_there forms (length c.args.text.now) c.args.input.now kinds.Text c.is_kept.ensures.valid fits (sym c.in-Text.is ∙ c.requires.fixed.kind);
      fixed = c.requires.fixed;
      long = long_there forms (length c.args.text.now) _ c.args.input.now fits c.columns_of-part.ensures.length;
    }

pub returns-in-Number : goal.returns-in-Number
returns-in-Number g c = record {
  leaves = c.fill_number.ensures.leaves
      ∙ field_filled c.args.memory.now.program.fields c.args.text.now c.columns_of-part.result.now c.args.input.now kinds.Number c.args.memory.now.world.data c.requires.right
      (sym c.in-Number.is ∙ c.requires.fixed.kind) c.columns_of-part.ensures.value;
  right = c.fill_number.ensures.right;
  rest = c.fill_number.ensures.rest;
}

pub returns-in-Text : goal.returns-in-Text
returns-in-Text g c = record {
  leaves = c.fill_text.ensures.leaves
      ∙ field_filled c.args.memory.now.program.fields c.args.text.now c.columns_of-part.result.now c.args.input.now kinds.Text c.args.memory.now.world.data c.requires.right
      (sym c.in-Text.is ∙ c.requires.fixed.kind) c.columns_of-part.ensures.value;
  right = c.fill_text.ensures.right;
  rest = c.fill_text.ensures.rest;
}
