-- The cause of a fault: the rule of its code, with what breaks it.
use Rattle.std.specs.Prelude.{List, ◌∷◌, ◌++◌, Option, option_and_then}
use Rattle.std.specs.Option.{option_map, option_or}
use Rattle.rpg_cards.specs.Cards.{output_record_on}
use Rattle.rpg_cards.specs.declared.spec_card.SpecCard.{SpecCard}
use Rattle.rpg_faults_operands.specs.Mismatches.{editing_cause}
use Rattle.rpg_faults_limits.specs.FileCauses.{file_cause, moved_disk}
use Rattle.rpg_faults_places.specs.Joins.{join_cause}
use Rattle.rpg_faults_places.specs.Outside.{outside}
use Rattle.rpg_faults.specs.declared.cause.Cause.{Cause}
use Rattle.rpg_faults.specs.declared.cause.Cause.TheVariants as cause
use Rattle.rpg_faults_data.specs.Causes.{data_cause}
use Rattle.rpg_faults_flow.specs.ColumnCauses.{card_column_cause}
use Rattle.rpg_causes_flow.specs.Labels.{apart, nowhere_cause, recursion, twice}
use Rattle.rpg_causes_flow.specs.Order.{order_cause}
use Rattle.rpg_faults_flow.specs.RoundingCauses.{rounding_cause}
use Rattle.rpg_causes_flow.specs.Strays.{stray_cause}
use Rattle.rpg_causes_operands.specs.Fields.{field_cause}
use Rattle.rpg_causes_operands.specs.Indexes.{index_cause}
use Rattle.rpg_causes_operands.specs.Indicators as indicators
use Rattle.rpg_causes_operands.specs.Names.{redefined, undefined_name}
use Rattle.rpg_causes_operands.specs.Operands.{operand_cause}
use Rattle.rpg_causes_operands.specs.Sizes.{size_cause}
use Rattle.rpg_faults_limits.specs.Causes.{limit_cause}
use Rattle.rpg_faults.specs.declared.code.FaultCode.{FaultCode}
use Rattle.rpg_faults.specs.declared.code.FaultCode.TheVariants.{F1, F2, F3, F4, F5, F6, F7, F8, F9, F10, F11, F12, F13, F14, F15, F16, F17, F18}

-- F9: of a calculation, of what is searched and output fields, or of a line
abbrev pub missing_cause : List SpecCard → SpecCard → List SpecCard → Option Cause
missing_cause before c after =
    option_or (option_map cause.Column (card_column_cause before c after))
    (option_or (option_map cause.Field (field_cause (before ++ c ∷ after) c after))
    (option_map cause.Movement (option_and_then (moved_disk (before ++ c ∷ after) before) (output_record_on c.spec))))

-- F12: of a calculation card, or of an I or O card
abbrev pub misordered : List SpecCard → SpecCard → List SpecCard → Option Cause
misordered before c after = option_or (option_map cause.Order (order_cause before c after)) (option_map cause.Stray (stray_cause before c))

-- F16: of the card's own columns, or of control fields and match fields
abbrev pub misplaced_cause : List SpecCard → SpecCard → List SpecCard → Option Cause
misplaced_cause before c after = option_or (option_map cause.Outside (outside (before ++ c ∷ after) before c)) (option_map cause.Join (join_cause before c after))

-- ---- each code

-- why a card breaks the rule of a code
unfoldable pub cause_of : FaultCode → List SpecCard → SpecCard → List SpecCard → Option Cause
cause_of F1 before c after = option_map cause.UndefinedName (undefined_name (before ++ c ∷ after) c after)
cause_of F2 before c after = option_map cause.RedefinedName (redefined (before ++ c ∷ after) before c)
cause_of F3 before c after = option_map cause.Size (size_cause c)
cause_of F4 before c after = option_map cause.Operand (operand_cause (before ++ c ∷ after) c after)
cause_of F5 before c after = option_map cause.Index (index_cause (before ++ c ∷ after) c after)
cause_of F6 before c after = option_map cause.Limit (limit_cause (before ++ c ∷ after) before c after)
cause_of F7 before c after = option_map cause.File (file_cause (before ++ c ∷ after) before c)
cause_of F8 before c after = option_map cause.Indicator (indicators.card_indicator_cause (before ++ c ∷ after) c.spec)
cause_of F9 before c after = missing_cause before c after
cause_of F10 before c after = option_map cause.Nowhere (nowhere_cause (before ++ c ∷ after) c after)
cause_of F11 before c after = option_map cause.Twice (twice before c after)
cause_of F12 before c after = misordered before c after
cause_of F13 before c after = option_map cause.Apart (apart (before ++ c ∷ after) before c after)
cause_of F14 before c after = option_map cause.Recursion (recursion (before ++ c ∷ after) before c after)
cause_of F15 before c after = option_map cause.Rounding (rounding_cause before c after)
cause_of F16 before c after = misplaced_cause before c after
cause_of F17 before c after = option_map cause.Editing (editing_cause (before ++ c ∷ after) c)
cause_of F18 before c after = option_map cause.Data (data_cause (before ++ c ∷ after) before c)
