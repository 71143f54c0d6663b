-- All cards of a source that can't be read.
use Rattle.std.specs.Prelude.{ℕ, ◌+◌, List, [], ◌∷◌, ◌++◌, length, nat_lt, if◌then◌else◌}
use Rattle.std.specs.Option.{option_map, option_to_list}
use Rattle.rpg_sheet.specs.declared.sheet.SheetCode.{SheetCode}
use Rattle.rpg_sheet.specs.declared.sheet.SheetFault.{SheetFault}
use Rattle.rpg_sheet.specs.declared.sheet.SheetFault.TheVariants.{At}
use Rattle.rpg_sheet.specs.declared.unreadable.UnreadableCard.{UnreadableCard}
use Rattle.rpg_sheet.specs.Sheet.{sheet_fault_columns, has_begun_data, line_code}
use Rattle.rpg_sheet_specs.specs.Cards.{card_of}

-- a card that can't be read, with its lowest code
abbrev pub unreadable_by : List (List ℕ) → List ℕ → SheetCode → UnreadableCard
unreadable_by earlier line code = record { card = length earlier + 1; code = code; columns = sheet_fault_columns (has_begun_data earlier) (card_of line) code }

-- a line after others, if it has a fault: with its lowest code
abbrev pub unreadable_at : List (List ℕ) → List ℕ → List UnreadableCard
unreadable_at earlier line = option_to_list (option_map (unreadable_by earlier line) (line_code earlier line))

-- of lines that follow others; nothing is checked after card 2,001
abbrev pub unreadable_after : List (List ℕ) → List (List ℕ) → List UnreadableCard
unreadable_after earlier [] = []
unreadable_after earlier (line ∷ more) = if nat_lt 2000 (length earlier) then [] else unreadable_at earlier line ++ unreadable_after (earlier ++ line ∷ []) more

-- all cards that can't be read
abbrev pub unreadable_cards : List (List ℕ) → List UnreadableCard
unreadable_cards all = unreadable_after [] all

-- as it is reported for its source
abbrev pub reported_fault : UnreadableCard → SheetFault
reported_fault u = At u.card u.code u.columns
