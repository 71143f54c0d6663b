use Rattle.std.proofs.Common.{Option, subst}
use Rattle.std.proofs.lemmas.Bool.{OnTrue_at, OnTrue_from}
use Rattle.std.specs.Prelude.{IfSome}
use Rattle.rpg_faults_operands.specs.Valid.{IsValidCalculation}
use Rattle.rpg_sheet_specs.specs.declared.calculation.CalculationSpec.{CalculationSpec}
use Rattle.rpg_faults_operands.proofs.valid.is_valid_ending.Goals as goal

pub returns-in-None : goal.returns-in-None
returns-in-None c = subst (λ (o : Option CalculationSpec). IfSome o (IsValidCalculation c.args.source.now)) c.in-None.ensures tt

pub returns-in-Some : goal.returns-in-Some
returns-in-Some c =
    OnTrue_from c.is_valid_calculation.result _
    (λ t. subst (λ (o : Option CalculationSpec). IfSome o (IsValidCalculation c.args.source.now)) c.in-Some.ensures (OnTrue_at t c.is_valid_calculation.ensures))
