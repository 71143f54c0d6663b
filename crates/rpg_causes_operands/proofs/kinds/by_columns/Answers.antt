use Rattle.std.proofs.Common.{◌∙◌, ap}
use Rattle.std.specs.Option.{option_map_or}
use Rattle.std.specs.Prelude.{false}
use Rattle.rpg_causes_operands.proofs.Tests.{in_other_order}
use Rattle.rpg_causes_operands.specs.Operands.{are_wrong, held_factor}
use Rattle.rpg_causes_operands.specs.declared.kinds.Held.{Held}
use Rattle.rpg_faults_operands.specs.Kinds.{has_wrong_class, wrong_result}
use Rattle.rpg_faults_operands.specs.Operands.{factor_form, field_content, result_form}
use Rattle.rpg_sheet_specs.specs.declared.column_range.ColumnRange.TheVariants as range
use Rattle.rpg_causes_operands.proofs.kinds.by_columns.Goals as goal

pub returns-clause-rule : goal.returns-clause-rule
returns-clause-rule c =
    let cards = c.args.source.now in
    let k = c.args.calculation.now in
    let t = c.args.columns in
    let f = factor_form cards t.factor_1 k.factor_1 in
    let g = factor_form cards t.factor_2 k.factor_2 in
    let r = result_form cards t.result_field k.result_field in
    c.of_operands.ensures.rule
    ∙ ap (λ (h : Held). are_wrong t.kinds h c.held_factor-second.result c.held_result-third.result) c.held_factor-first.ensures
    ∙ ap (λ (h : Held). are_wrong t.kinds (held_factor cards range.FirstFactor t.factor_1 k.factor_1) h c.held_result-third.result) c.held_factor-second.ensures
    ∙ ap (λ (h : Held). are_wrong t.kinds (held_factor cards range.FirstFactor t.factor_1 k.factor_1) (held_factor cards range.SecondFactor t.factor_2 k.factor_2) h) c.held_result-third.ensures
    ∙ in_other_order t.kinds (has_wrong_class (field_content t.factor_1) f) (has_wrong_class (field_content t.factor_2) g) (has_wrong_class (field_content t.result_field) r)
    (option_map_or (λ x. wrong_result x g r) (field_content t.result_field) false) f g r
