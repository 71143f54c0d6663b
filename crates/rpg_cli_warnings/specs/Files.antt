-- W14: which input file ends the job without the other. W15: which printer has an L card, or L in 39, alone.
use Rattle.std.specs.Prelude.{ℕ, List, Bool, true, false, not, ◌&&◌, Option, None, Some, find, is_some, if◌then◌else◌}
use Rattle.std.specs.List.{list_any}
use Rattle.std.specs.Option.{option_and_then, option_map, option_map_or, option_or}
use Rattle.rpg_cards.specs.Cards.{file_on, form_on}
use Rattle.rpg_cards.specs.Levels.{has_match_field}
use Rattle.rpg_cards.specs.declared.spec_card.SpecCard.{SpecCard}
use Rattle.rpg_sheet_specs.specs.declared.column.ColumnFault.{ColumnFault}
use Rattle.rpg_sheet_specs.specs.declared.file.FileRole.{FileRole}
use Rattle.rpg_sheet_specs.specs.declared.file.FileRole.TheVariants as role
use Rattle.rpg_sheet_specs.specs.declared.file.FileSpec.{FileSpec}
use Rattle.rpg_warnings_lines.specs.Printer.{is_printer}
use Rattle.rpg_warnings_lines.specs.declared.warning.Warning.{Warning}
use Rattle.rpg_warnings_lines.specs.declared.warning.WarningKind.{WarningKind}
use Rattle.rpg_warnings_lines.specs.declared.warning.WarningKind.TheVariants as kind

-- a primary and a secondary file
abbrev pub are_inputs : FileRole → FileRole → Bool
are_inputs role.Primary role.Secondary = true
are_inputs role.Secondary role.Primary = true
are_inputs a b = false

-- the card of the other input file, which has no E
abbrev pub is_other : FileSpec → SpecCard → Bool
is_other f c = option_map_or (λ g. are_inputs f.role g.role && not g.ends_job) (file_on c.spec) false

-- with match fields the records of greater match values are left out; without them the primary file ends the job before the secondary one is read
abbrev pub loss : Bool → FileRole → ℕ → Option WarningKind
loss true r card = Some (kind.LeftOut card)
loss false role.Primary card = Some (kind.NeverRead card)
loss false role.Secondary card = None
loss false role.Output card = None

-- the file has E, and the other input file hasn't
abbrev pub ending_kind : List SpecCard → FileSpec → Option WarningKind
ending_kind cards f = if f.ends_job then option_and_then (λ c. loss (has_match_field cards) f.role c.number) (find (is_other f) cards) else None

-- an L card
abbrev pub is_form : SpecCard → Bool
is_form c = is_some (form_on c.spec)

-- the source has an L card, which is the printer's if it has no fault
abbrev pub has_form : List SpecCard → Bool
has_form cards = list_any is_form cards

-- by whether 39 has L, and whether there is an L card
abbrev pub unlike : Bool → Bool → Option WarningKind
unlike true false = Some kind.NoForm
unlike false true = Some kind.UnmarkedForm
unlike a b = None

-- of a printer
abbrev pub form_kind : List SpecCard → FileSpec → Option WarningKind
form_kind cards f = if is_printer f then unlike f.has_form (has_form cards) else None

-- a warning of that kind in columns of a card
abbrev pub at : SpecCard → ColumnFault → Option WarningKind → Option Warning
at c columns k = option_map (λ x. record { card = c.number; columns = columns; kind = x }) k

-- the columns of the end of file and of the extension code
abbrev pub end_column : ColumnFault
end_column = record { column = 17; last = 17 }

abbrev pub extension_column : ColumnFault
extension_column = record { column = 39; last = 39 }

-- the warning about a card's file
abbrev pub file_warning_by : List SpecCard → SpecCard → FileSpec → Option Warning
file_warning_by cards c f = option_or (at c end_column (ending_kind cards f)) (at c extension_column (form_kind cards f))

-- the warning on a card, if its file ends the job, or if its form is described in one place only
unfoldable pub file_warning : List SpecCard → SpecCard → Option Warning
file_warning cards c = option_and_then (file_warning_by cards c) (file_on c.spec)
