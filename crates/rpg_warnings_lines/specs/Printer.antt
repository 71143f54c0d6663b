-- W12: which printer lacks an overflow indicator.
use Rattle.std.specs.Prelude.{ℕ, List, [], ◌∷◌, Bool, true, false, not, ◌&&◌, ◌||◌, nat_eq, Option, None, Some, is_none, is_some, if◌then◌else◌}
use Rattle.std.specs.Cmp.Lexicographic.{pointwise}
use Rattle.std.specs.Option.{option_and_then, option_map_or}
use Rattle.rpg_cards.specs.Cards.{file_on, output_record_on}
use Rattle.rpg_cards.specs.declared.spec_card.SpecCard.{SpecCard}
use Rattle.rpg_sheet_specs.specs.declared.column.ColumnFault.{ColumnFault}
use Rattle.rpg_sheet_specs.specs.declared.file.Device.{Device}
use Rattle.rpg_sheet_specs.specs.declared.file.Device.TheVariants as device
use Rattle.rpg_sheet_specs.specs.declared.file.FileRole.{FileRole}
use Rattle.rpg_sheet_specs.specs.declared.file.FileRole.TheVariants as role
use Rattle.rpg_sheet_specs.specs.declared.file.FileSpec.{FileSpec}
use Rattle.rpg_sheet_specs.specs.declared.output.LineTime.{LineTime}
use Rattle.rpg_sheet_specs.specs.declared.output.LineTime.TheVariants as time
use Rattle.rpg_sheet_specs.specs.declared.output.OutputRecord.{OutputRecord}
use Rattle.rpg_warnings_lines.specs.Alternatives.{line_names_first_page, line_passes}
use Rattle.rpg_warnings_lines.specs.declared.alternatives.ConditionTest.TheVariants as tests
use Rattle.rpg_warnings_lines.specs.declared.printer.LineTest.{LineTest}
use Rattle.rpg_warnings_lines.specs.declared.printer.LineTest.TheVariants as line
use Rattle.rpg_warnings_lines.specs.declared.warning.Warning.{Warning}
use Rattle.rpg_warnings_lines.specs.declared.warning.WarningKind.TheVariants as kind

-- a line of type H or D
abbrev pub is_heading : LineTime → Bool
is_heading time.Heading = true
is_heading time.Detail = true
is_heading time.Total = false
is_heading time.Exception = false

-- a heading of the first page; a line that is repeated; one that is repeated and skips before
abbrev pub line_is : LineTest → OutputRecord → List SpecCard → Bool
line_is line.Heads r cs = is_heading r.time && line_names_first_page r cs
line_is line.Repeats r cs = line_passes tests.Repeated r cs
line_is line.Skips r cs = line_passes tests.Repeated r cs && is_some r.movement.skip_before

-- the line goes to that file; without a name it goes where the one before does
abbrev pub goes_to : List ℕ → OutputRecord → Bool → Bool
goes_to file r before = option_map_or (λ name. pointwise nat_eq name file) r.file before

-- one of the file's lines passes
abbrev pub any_line : LineTest → List ℕ → Bool → List SpecCard → Bool
any_line test file before [] = false
any_line test file before (c ∷ cs) =
    option_map_or (λ r. (goes_to file r before && line_is test r cs) || any_line test file (goes_to file r before) cs) (output_record_on c.spec) (any_line test file before cs)

-- the file goes to the printer
abbrev pub is_printer_of : FileRole → Device → Bool
is_printer_of role.Output device.Printer = true
is_printer_of r d = false

-- likewise, by its card
abbrev pub is_printer : FileSpec → Bool
is_printer f = is_printer_of f.role f.device

-- a printer whose first page alone has a heading: other lines are repeated, and none of them skips to a new form
abbrev pub lacks_overflow : List SpecCard → FileSpec → Bool
lacks_overflow cards f =
    is_printer f && is_none f.overflow && any_line line.Heads f.name false cards && any_line line.Repeats f.name false cards && not (any_line line.Skips f.name false cards)

-- the columns of an overflow indicator
abbrev pub overflow_columns : ColumnFault
overflow_columns = record { column = 33; last = 34 }

-- the warning about a printer at a card
abbrev pub overflow_at : SpecCard → Warning
overflow_at c = record { card = c.number; columns = overflow_columns; kind = kind.NoOverflow }

-- the warning about a card's file
abbrev pub overflow_by : List SpecCard → SpecCard → FileSpec → Option Warning
overflow_by cards c f = if lacks_overflow cards f then Some (overflow_at c) else None

-- the warning on a card, if its printer lacks an overflow indicator
unfoldable pub overflow_on : List SpecCard → SpecCard → Option Warning
overflow_on cards c = option_and_then (overflow_by cards c) (file_on c.spec)
