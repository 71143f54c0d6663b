-- What operations have on their cards: one line an operation, the only list of the operations.
use Rattle.std.specs.Prelude.{Bool, true, false}
use Rattle.rpg_sheet_specs.specs.declared.operations.Column.{Column}
use Rattle.rpg_sheet_specs.specs.declared.operations.Column.TheVariants.{Blank, May, Must}
use Rattle.rpg_sheet_specs.specs.declared.operations.Content.TheVariants.{Value, WholeArray, Searched, Table, Label, Subroutine}
use Rattle.rpg_sheet_specs.specs.declared.operations.Kinds.{Kinds}
use Rattle.rpg_sheet_specs.specs.declared.operations.Kinds.TheVariants as kinds
use Rattle.rpg_sheet_specs.specs.declared.operations.OperationColumns.{OperationColumns}
use Rattle.rpg_sheet_specs.specs.declared.operations.Shown.{Shown}
use Rattle.rpg_sheet_specs.specs.declared.operations.Shown.TheVariants as shown
use Rattle.rpg_sheet_specs.specs.declared.calculation.Operation.{Operation}
use Rattle.rpg_sheet_specs.specs.declared.calculation.Operation.TheVariants as op

-- a line of the table of operations
abbrev pub column_row : Column → Column → Column → Bool → Shown → Kinds → Bool → OperationColumns
column_row f g r h i k d = record { factor_1 = f; factor_2 = g; result_field = r; may_half_adjust = h; indicators = i; kinds = k; may_depend = d }

-- factor 1, factor 2, result field, half adjust, resulting indicators, what the operands hold, and whether there may be conditions
abbrev pub card_columns : Operation → OperationColumns
card_columns op.Add = column_row (May Value) (Must Value) (Must Value) true shown.Any kinds.Numbers true
card_columns op.Subtract = column_row (May Value) (Must Value) (Must Value) true shown.Any kinds.Numbers true
card_columns op.Multiply = column_row (May Value) (Must Value) (Must Value) true shown.Any kinds.Numbers true
card_columns op.Divide = column_row (May Value) (Must Value) (Must Value) true shown.Any kinds.Numbers true
card_columns op.ZeroAdd = column_row Blank (Must Value) (Must Value) true shown.Any kinds.Numbers true
card_columns op.ZeroSubtract = column_row Blank (Must Value) (Must Value) true shown.Any kinds.Numbers true
card_columns op.MoveRemainder = column_row Blank Blank (Must Value) false shown.Any kinds.Numbers true
card_columns op.CrossFoot = column_row Blank (Must WholeArray) (Must Value) true shown.Any kinds.Numbers true
card_columns op.Move = column_row Blank (Must Value) (Must Value) false shown.Unused kinds.Any true
card_columns op.MoveLeft = column_row Blank (Must Value) (Must Value) false shown.Unused kinds.Any true
card_columns op.Compare = column_row (Must Value) (Must Value) Blank false shown.Some kinds.Alike true
card_columns op.LookUp = column_row (Must Value) (Must Searched) (May Table) false shown.Search kinds.Alike true
card_columns op.SetOn = column_row Blank Blank Blank false shown.Some kinds.Any true
card_columns op.SetOff = column_row Blank Blank Blank false shown.Some kinds.Any true
card_columns op.GoTo = column_row Blank (Must Label) Blank false shown.Unused kinds.Any true
card_columns op.Call = column_row Blank (Must Subroutine) Blank false shown.Unused kinds.Any true
card_columns op.Label = column_row (Must Label) Blank Blank false shown.Unused kinds.Any false
card_columns op.BeginSubroutine = column_row (Must Subroutine) Blank Blank false shown.Unused kinds.Any false
card_columns op.EndSubroutine = column_row (May Label) Blank Blank false shown.Unused kinds.Any false
card_columns op.Except = column_row Blank Blank Blank false shown.Unused kinds.Any true
