use Rattle.std.proofs.Common.{sym, ◌∙◌}
use Rattle.std.proofs.lemmas.Bool.{OnTrue_from}
use Rattle.rpg_faults_operands.proofs.ValidLemmas.{not_true, with_operation}
use Rattle.rpg_faults_operands.proofs.valid.is_valid_calculation.Goals as goal

pub returns-in-Some-valid_result : goal.returns-in-Some-valid_result
returns-in-Some-valid_result c =
    OnTrue_from _ _
    (λ right. with_operation c.args.source.now c.args.calculation.now c.in-Some.operation c.columns-columns.result c.in-Some-valid_factor.factor_1 c.in-Some-valid_factor-2.factor_2 c.in-Some-valid_result.result_field
    c.in-Some.is c.columns-columns.ensures c.in-Some-valid_factor.ensures c.in-Some-valid_factor-2.ensures c.in-Some-valid_result.ensures (sym c.are_wrong.ensures ∙ not_true c.are_wrong.result right))
