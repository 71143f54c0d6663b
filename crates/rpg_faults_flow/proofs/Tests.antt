-- Tests in another order.
use Rattle.std.proofs.Common.{◌≡◌, List, Bool, true, false, ◌||◌, Option, refl}
use Rattle.std.specs.Prelude.{◌&&◌, is_none, is_some}
use Rattle.rpg_cards.specs.Calculations.{CalculationGroup, continues}
use Rattle.rpg_cards.specs.declared.spec_card.SpecCard.{SpecCard}
use Rattle.rpg_faults_flow.specs.ColumnCauses.{has_bad_columns}
use Rattle.rpg_faults_flow.specs.Columns.{bad_by_end, bad_calculation, bad_conditions}
use Rattle.rpg_sheet_specs.specs.declared.calculation.CalculationSpec.{CalculationSpec}

last_first : (a b c : Bool) → (a || (b || c)) ≡ (c || (a || b))
last_first true b true = refl
last_first true b false = refl
last_first false true true = refl
last_first false true false = refl
last_first false false true = refl
last_first false false false = refl

-- a length, the end of the group and the conditions: the same as the conditions, a length and the end
pub bad_is : (group : Option CalculationGroup) (k : CalculationSpec) (after : List SpecCard) → has_bad_columns group k after ≡ bad_calculation group k after
bad_is group k after = last_first (is_some k.length && is_none k.result_field) (bad_by_end (continues after) k) (bad_conditions group k after)
