-- Columns of a card by the first of them and how many they are.
use Rattle.std.specs.Prelude.{ℕ, ◌+◌, ◌-◌, List, Option}
use Rattle.rpg_sheet_specs.specs.declared.indicator.ConditionSpec.{ConditionSpec}
use Rattle.rpg_sheet_specs.specs.declared.indicator.Three.{Three}
use Rattle.rpg_sheet_specs.specs.Columns.{Columns, cols, at}
use Rattle.rpg_sheet_specs.specs.Tables.{conditions, three_indicators}

-- the text in the columns from the first on
abbrev pub cols_from : ℕ → ℕ → List ℕ → List ℕ
cols_from first width card = cols first (first + (width - 1)) card

-- a table's line for the columns from the first on
abbrev pub line_from : {X : Type 0} → ℕ → ℕ → (List ℕ → Option X) → Columns X
line_from first width rule = at first (first + (width - 1)) rule

-- three conditions, in sequence
abbrev pub conditions_from : ℕ → Columns (Three (Option ConditionSpec))
conditions_from first = conditions first (first + 2) (first + 3) (first + 3 + 2) (first + 6) (first + 6 + 2)

-- three indicators, in sequence
abbrev pub indicators_from : ℕ → Columns (Three (Option ℕ))
indicators_from first = three_indicators first (first + 1) (first + 2) (first + 2 + 1) (first + 4) (first + 4 + 1)
