use Rattle.std.proofs.Common.{ℕ, List, ◌∙◌, Some, ap, refl, sym}
use Rattle.rpg_sheet_specs.specs.declared.data.DataSpec.TheVariants as data_spec
use Rattle.rpg_sheet.proofs.sheet.data.Goals as goal

pub returns-then-ends_source : goal.returns-then-ends_source
returns-then-ends_source c = rw (sym c.ends_source.ensures ∙ c.if-ends_source.true) refl

pub returns-then-begins_data : goal.returns-then-begins_data
returns-then-begins_data c = rw (sym c.ends_source.ensures ∙ c.if-ends_source.false, sym c.begins_data.ensures ∙ c.if-begins_data.true) refl

pub returns : goal.returns
returns c = rw (sym c.ends_source.ensures ∙ c.if-ends_source.false, sym c.begins_data.ensures ∙ c.if-begins_data.false, c.if-not-data_begun.false) (ap (λ (columns : List ℕ). Some (data_spec.Card columns)) (c.new.ensures ∙ c.as_slice.ensures.value))

pub returns-then-not-data_begun : goal.returns-then-not-data_begun
returns-then-not-data_begun c = rw (sym c.ends_source.ensures ∙ c.if-ends_source.false, sym c.begins_data.ensures ∙ c.if-begins_data.false, c.if-not-data_begun.true) refl
