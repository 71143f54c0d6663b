-- The columns of a card that a cause is about; none for the card as a whole.
use Rattle.std.specs.Prelude.{List, ◌∷◌, ◌++◌, Option, Some}
use Rattle.std.specs.Option.{option_and_then, option_map}
use Rattle.rpg_cards.specs.Calculations.{card_ending}
use Rattle.rpg_cards.specs.Cards.{calculation_on, extension_on, output_field_on}
use Rattle.rpg_cards.specs.declared.spec_card.SpecCard.{SpecCard}
use Rattle.rpg_causes_flow.specs.Order.{order_range}
use Rattle.rpg_causes_flow.specs.Strays.{stray_range}
use Rattle.rpg_causes_operands.specs.Fields.{field_range}
use Rattle.rpg_causes_operands.specs.Names.{redefined_range}
use Rattle.rpg_causes_operands.specs.Operands.{operand_range}
use Rattle.rpg_faults.specs.Causes.{cause_of}
use Rattle.rpg_faults.specs.declared.cause.Cause.{Cause}
use Rattle.rpg_faults.specs.declared.cause.Cause.TheVariants as cause
use Rattle.rpg_faults.specs.declared.code.FaultCode.{FaultCode}
use Rattle.rpg_faults_flow.specs.Marks.{column_range}
use Rattle.rpg_faults_flow.specs.RoundingCauses.{rounding_range}
use Rattle.rpg_faults_limits.specs.Causes.{limit_range}
use Rattle.rpg_faults_limits.specs.FileCauses.{file_range, movement_range}
use Rattle.rpg_faults_operands.specs.Marks.{editing_columns, unknown_name, wrong_index}
use Rattle.rpg_faults_places.specs.Joins.{join_range}
use Rattle.rpg_faults_places.specs.Outside.{place_range}
use Rattle.rpg_sheet_specs.specs.Ranges.{columns_of}
use Rattle.rpg_sheet_specs.specs.declared.column.ColumnFault.{ColumnFault}
use Rattle.rpg_sheet_specs.specs.declared.column_range.ColumnRange.{ColumnRange}
use Rattle.rpg_sheet_specs.specs.declared.column_range.ColumnRange.TheVariants as range

-- F18: the entries per card, which require data
abbrev pub data_range : SpecCard → Option ColumnRange
data_range c = option_map (λ e. range.EntriesPerCard) (extension_on c.spec)

-- those of a cause on its card, given the cards after it
abbrev pub cause_range : List SpecCard → SpecCard → List SpecCard → Cause → Option ColumnRange
cause_range cards c after (cause.UndefinedName name) = Some (unknown_name cards c after)
cause_range cards c after (cause.RedefinedName r) = redefined_range c r
cause_range cards c after (cause.Size s) = Some s.at
cause_range cards c after (cause.Operand o) = Some (operand_range (output_field_on c.spec) o)
cause_range cards c after (cause.Index i) = Some (wrong_index cards c after)
cause_range cards c after (cause.Limit l) = limit_range l
cause_range cards c after (cause.File f) = Some (file_range f)
cause_range cards c after (cause.Indicator i) = Some i.at
cause_range cards c after (cause.Column k) = option_map (λ j. column_range j k) (calculation_on c.spec)
cause_range cards c after (cause.Field f) = Some (field_range (card_ending c after) f)
cause_range cards c after (cause.Movement f) = movement_range c
cause_range cards c after (cause.Nowhere n) = Some range.SecondFactor
cause_range cards c after (cause.Twice t) = Some t.at
cause_range cards c after (cause.Order o) = order_range c
cause_range cards c after (cause.Stray s) = stray_range s
cause_range cards c after (cause.Apart t) = Some range.SecondFactor
cause_range cards c after (cause.Recursion t) = Some range.SecondFactor
cause_range cards c after (cause.Rounding r) = Some (rounding_range r)
cause_range cards c after (cause.Outside p) = Some (place_range p)
cause_range cards c after (cause.Join j) = join_range j
cause_range cards c after (cause.Editing e) = editing_columns c
cause_range cards c after (cause.Data d) = data_range c

-- the columns that a fault's code points at, as numbers
abbrev pub fault_columns : FaultCode → List SpecCard → SpecCard → List SpecCard → Option ColumnFault
fault_columns code before c after = option_map columns_of (option_and_then (cause_range (before ++ c ∷ after) c after) (cause_of code before c after))
