-- Values that are put where they are wanted, instead of being returned.
use Rattle.std.specs.Prelude.{Result}
use Rattle.rpg_sheet_specs.specs.declared.column.ColumnFault.{ColumnFault}
use Rattle.rpg_sheet_specs.specs.Columns.{mapped}

-- the value that is there after a reading without a fault, or the fault
abbrev pub put : {X : Type 0} → X → Result (Unit {0}) ColumnFault → Result X ColumnFault
put x result = mapped (λ u. x) result
