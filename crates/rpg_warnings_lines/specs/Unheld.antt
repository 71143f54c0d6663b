-- W8 and W9: which lines no condition keeps back.
use Rattle.std.specs.Prelude.{List, Option, None, Some, if◌then◌else◌}
use Rattle.std.specs.Option.{option_and_then, option_map}
use Rattle.rpg_cards.specs.Cards.{output_record_on}
use Rattle.rpg_cards.specs.declared.spec_card.SpecCard.{SpecCard}
use Rattle.rpg_sheet_specs.specs.declared.column.ColumnFault.{ColumnFault}
use Rattle.rpg_sheet_specs.specs.declared.output.LineTime.{LineTime}
use Rattle.rpg_sheet_specs.specs.declared.output.LineTime.TheVariants as time
use Rattle.rpg_sheet_specs.specs.declared.output.OutputRecord.{OutputRecord}
use Rattle.rpg_warnings_lines.specs.Alternatives.{line_passes}
use Rattle.rpg_warnings_lines.specs.declared.alternatives.ConditionTest.TheVariants as tests
use Rattle.rpg_warnings_lines.specs.declared.warning.Warning.{Warning}
use Rattle.rpg_warnings_lines.specs.declared.warning.WarningKind.{WarningKind}
use Rattle.rpg_warnings_lines.specs.declared.warning.WarningKind.TheVariants as kind

-- a heading or detail line that is written before the first record, though it isn't for the first page
abbrev pub before_records : OutputRecord → List SpecCard → Option WarningKind
before_records r cs = if line_passes tests.Open r cs then Some kind.BeforeRecords else None

-- a total line that is written at each total time
abbrev pub each_total : OutputRecord → List SpecCard → Option WarningKind
each_total r cs = if line_passes tests.Always r cs then Some kind.EachTotal else None

-- by the time of the line
abbrev pub unheld_at : LineTime → OutputRecord → List SpecCard → Option WarningKind
unheld_at time.Heading r cs = before_records r cs
unheld_at time.Detail r cs = before_records r cs
unheld_at time.Total r cs = each_total r cs
unheld_at time.Exception r cs = None

-- what is wrong with the line, if nothing keeps it back
abbrev pub unheld : OutputRecord → List SpecCard → Option WarningKind
unheld r cs = unheld_at r.time r cs

-- the columns of a line's conditions
abbrev pub condition_columns : ColumnFault
condition_columns = record { column = 23; last = 31 }

-- the warning on a line's card
abbrev pub unheld_warning : SpecCard → WarningKind → Warning
unheld_warning c k = record { card = c.number; columns = condition_columns; kind = k }

-- the warning about a card, given those after it
abbrev pub unheld_on : SpecCard → List SpecCard → Option Warning
unheld_on c cs = option_map (unheld_warning c) (option_and_then (λ r. unheld r cs) (output_record_on c.spec))
