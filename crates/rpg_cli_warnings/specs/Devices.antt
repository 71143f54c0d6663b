-- W13: which device looks like the printer and isn't.
use Rattle.std.specs.Prelude.{ℕ, ◌-◌, List, [], ◌∷◌, Bool, true, false, ◌&&◌, length, nat_eq, nat_le, take, drop, codes, Option, None, Some, if◌then◌else◌}
use Rattle.std.specs.Cmp.Lexicographic.{pointwise}
use Rattle.std.specs.Option.{option_and_then}
use Rattle.rpg_cards.specs.Cards.{file_on}
use Rattle.rpg_cards.specs.declared.spec_card.SpecCard.{SpecCard}
use Rattle.rpg_sheet_specs.specs.declared.column.ColumnFault.{ColumnFault}
use Rattle.rpg_sheet_specs.specs.declared.file.Device.{Device}
use Rattle.rpg_sheet_specs.specs.declared.file.Device.TheVariants as device
use Rattle.rpg_sheet_specs.specs.declared.file.FileRole.{FileRole}
use Rattle.rpg_sheet_specs.specs.declared.file.FileRole.TheVariants as role
use Rattle.rpg_sheet_specs.specs.declared.file.FileSpec.{FileSpec}
use Rattle.rpg_warnings_lines.specs.declared.warning.Warning.{Warning}
use Rattle.rpg_warnings_lines.specs.declared.warning.WarningKind.TheVariants as kind

-- a line by its number, counted from 1; there is nothing past the last
abbrev pub line_of : ℕ → List (List ℕ) → List ℕ
line_of n [] = []
line_of n (l ∷ ls) = if nat_le n 1 then l else line_of (n - 1) ls

-- the line has columns 40 to 44, and they are PRINT
abbrev pub begins_with_print : List ℕ → Bool
begins_with_print l = nat_le 44 (length l) && pointwise nat_eq (take 5 (drop 39 l)) (codes "PRINT")

-- a file that is written to the disk file
abbrev pub is_disk_of : FileRole → Device → Bool
is_disk_of role.Output device.Disk = true
is_disk_of r d = false

-- likewise, by its card
abbrev pub is_disk : FileSpec → Bool
is_disk f = is_disk_of f.role f.device

-- the columns of a device
abbrev pub device_columns : ColumnFault
device_columns = record { column = 40; last = 46 }

-- the warning about a device at a card
abbrev pub device_at : SpecCard → Warning
device_at c = record { card = c.number; columns = device_columns; kind = kind.NotPrinter }

-- the warning about a card's file, given the lines of the source
abbrev pub device_by : List (List ℕ) → SpecCard → FileSpec → Option Warning
device_by source c f = if is_disk f && begins_with_print (line_of c.number source) then Some (device_at c) else None

-- the warning on a card, if its device looks like the printer and isn't
unfoldable pub device_on : List (List ℕ) → SpecCard → Option Warning
device_on source c = option_and_then (device_by source c) (file_on c.spec)
