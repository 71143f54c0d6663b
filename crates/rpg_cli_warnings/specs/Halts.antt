-- W7: halt indicators that SETON turns on.
use Rattle.std.specs.Prelude.{ℕ, Bool, true, false, ◌&&◌, nat_le, Option, None, Some, if◌then◌else◌}
use Rattle.std.specs.Option.{option_and_then}
use Rattle.rpg_cards.specs.Cards.{calculation_on}
use Rattle.rpg_cards.specs.declared.spec_card.SpecCard.{SpecCard}
use Rattle.rpg_sheet_specs.specs.declared.calculation.CalculationSpec.{CalculationSpec}
use Rattle.rpg_sheet_specs.specs.declared.calculation.Operation.{Operation}
use Rattle.rpg_sheet_specs.specs.declared.calculation.Operation.TheVariants as operation
use Rattle.rpg_sheet_specs.specs.declared.column.ColumnFault.{ColumnFault}
use Rattle.rpg_sheet_specs.specs.declared.indicator.Three.{Three}
use Rattle.rpg_warnings_lines.specs.declared.warning.Warning.{Warning}
use Rattle.rpg_warnings_lines.specs.declared.warning.WarningKind.TheVariants as kind

-- the operation is SETON
abbrev pub is_set_on : Option Operation → Bool
is_set_on (Some operation.SetOn) = true
is_set_on o = false

-- H1 to H9
abbrev pub is_halt : ℕ → Bool
is_halt n = nat_le 120 n && nat_le n 128

-- the columns of the first resulting indicator
abbrev pub plus_columns : ColumnFault
plus_columns = record { column = 54; last = 55 }

-- the columns of the second
abbrev pub minus_columns : ColumnFault
minus_columns = record { column = 56; last = 57 }

-- the columns of the third
abbrev pub zero_columns : ColumnFault
zero_columns = record { column = 58; last = 59 }

-- the warning about an indicator in these columns of a card
abbrev pub halt_at : SpecCard → ColumnFault → ℕ → Warning
halt_at c columns n = record { card = c.number; columns = columns; kind = kind.SetsHalt n }

-- the warning if these columns have a halt indicator
abbrev pub halt_in : SpecCard → ColumnFault → Option ℕ → Option Warning
halt_in c columns None = None
halt_in c columns (Some n) = if is_halt n then Some (halt_at c columns n) else None

-- the first of two warnings
abbrev pub first_warning : Option Warning → Option Warning → Option Warning
first_warning None b = b
first_warning (Some a) b = Some a

-- the first halt indicator of three
abbrev pub first_halt : SpecCard → Three (Option ℕ) → Option Warning
first_halt c t = first_warning (halt_in c plus_columns t.first) (first_warning (halt_in c minus_columns t.second) (halt_in c zero_columns t.third))

-- the warning about a calculation, which is SETON of a halt indicator
abbrev pub halt_by : SpecCard → CalculationSpec → Option Warning
halt_by c k = if is_set_on k.operation then first_halt c k.resulting_indicators else None

-- SETON of H1 to H9: the job ends in the next phase 2 of the cycle
unfoldable pub halt_on : SpecCard → Option Warning
halt_on c = option_and_then (halt_by c) (calculation_on c.spec)
