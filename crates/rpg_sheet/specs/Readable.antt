-- Whether the columns of a card are valid.
use Rattle.std.specs.Prelude.{ℕ, List, Bool, Option, is_err}
use Rattle.std.specs.Result.{result_err}
use Rattle.rpg_sheet_specs.specs.declared.column.ColumnFault.{ColumnFault}
use Rattle.rpg_sheet_specs.specs.declared.form_type.FormType.{FormType}
use Rattle.rpg_sheet_specs.specs.Specs.{card_on}

-- some columns of a card on this sheet have a bad value
abbrev pub has_bad_column : FormType → List ℕ → Bool
has_bad_column sheet card = is_err ((card_on sheet).reading card)

-- the columns of the least bad value
abbrev pub bad_value_columns : FormType → List ℕ → Option ColumnFault
bad_value_columns sheet card = result_err ((card_on sheet).reading card)
