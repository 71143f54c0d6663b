-- What F and L cards mean: the primary and the secondary input, the printer with its form, and the disk file. Numbers are the columns of an
-- F card, or of an L card.
use Rattle.std.specs.Prelude.{ℕ, List, Bool, true, false, not, ◌&&◌, nat_eq, Option, None, Some, find, if◌then◌else◌}
use Rattle.std.specs.Cmp.Lexicographic.{pointwise}
use Rattle.std.specs.List.{filter_map}
use Rattle.std.specs.Option.{option_and_then, option_map_or}
use Rattle.rpg_cards.specs.Cards.{file_on, form_on}
use Rattle.rpg_cards.specs.declared.spec_card.SpecCard.{SpecCard}
use Rattle.rpg_program.specs.declared.input.InputFile.{InputFile}
use Rattle.rpg_program.specs.declared.input.InputFile.TheVariants.{Primary, Secondary}
use Rattle.rpg_program.specs.declared.rows.Overflow.{Overflow}
use Rattle.rpg_sheet_specs.specs.declared.file.Device.{Device}
use Rattle.rpg_sheet_specs.specs.declared.file.Device.TheVariants as device
use Rattle.rpg_sheet_specs.specs.declared.file.FileRole.{FileRole}
use Rattle.rpg_sheet_specs.specs.declared.file.FileRole.TheVariants as role
use Rattle.rpg_sheet_specs.specs.declared.file.FileSpec.{FileSpec}
use Rattle.rpg_sheet_specs.specs.declared.form.FormSpec.{FormSpec}

-- ---- which file it is: 15, 16 and the device in 40-46

-- the role of the primary file
abbrev pub is_primary_by : FileRole → Bool
is_primary_by role.Primary = true
is_primary_by role.Secondary = false
is_primary_by role.Output = false

-- the role of the secondary file
abbrev pub is_secondary_by : FileRole → Bool
is_secondary_by role.Primary = false
is_secondary_by role.Secondary = true
is_secondary_by role.Output = false

-- an output file on the device PRINTER
abbrev pub is_printer_by : FileRole → Device → Bool
is_printer_by role.Output device.Printer = true
is_printer_by role.Output device.Disk = false
is_printer_by role.Primary d = false
is_printer_by role.Secondary d = false

-- an output file on any other device
abbrev pub is_disk_by : FileRole → Device → Bool
is_disk_by role.Output device.Printer = false
is_disk_by role.Output device.Disk = true
is_disk_by role.Primary d = false
is_disk_by role.Secondary d = false

-- the primary file
abbrev pub is_primary : FileSpec → Bool
is_primary f = is_primary_by f.role

-- the secondary file
abbrev pub is_secondary : FileSpec → Bool
is_secondary f = is_secondary_by f.role

-- an output file on the printer
abbrev pub is_printer : FileSpec → Bool
is_printer f = is_printer_by f.role f.device

-- an output file on a disk
abbrev pub is_disk : FileSpec → Bool
is_disk f = is_disk_by f.role f.device

-- ---- the files of a source

-- the first F card that passes the test
abbrev pub the_file : (FileSpec → Bool) → List SpecCard → Option FileSpec
the_file test cards = find test (filter_map (λ c. file_on c.spec) cards)

-- the F card with that name in 7-14
abbrev pub the_file_named : Option (List ℕ) → List SpecCard → Option FileSpec
the_file_named name cards = option_and_then (λ n. the_file (λ f. pointwise nat_eq n f.name) cards) name

-- the record length, 24-27; 0 if there is no such file
abbrev pub file_record_length : Option FileSpec → ℕ
file_record_length file = option_map_or (λ f. f.record_length) file 0

-- the overflow indicator: 33-34 of the printer's card
abbrev pub overflow_indicator : List SpecCard → Option ℕ
overflow_indicator cards = option_and_then (λ f. f.overflow) (the_file is_printer cards)

-- ---- the form

-- the first L card with the printer's name in 7-14
abbrev pub the_form : List SpecCard → Option FormSpec
the_form cards = option_and_then (λ f. find (λ l. pointwise nat_eq f.name l.file) (filter_map (λ c. form_on c.spec) cards)) (the_file is_printer cards)

-- the lines of a page: 15-17 of that card; 66 if there is none
abbrev pub page_lines : List SpecCard → ℕ
page_lines cards = option_map_or (λ l. l.lines) (the_form cards) 66

-- the overflow line: 20-22 of that card; 60 if there is none
abbrev pub overflow_line : List SpecCard → ℕ
overflow_line cards = option_map_or (λ l. l.overflow_line) (the_form cards) 60

-- the page, and the indicator that a full one turns on
abbrev pub meant_overflow : List SpecCard → Overflow
meant_overflow cards = record { indicator = overflow_indicator cards; page = record { lines = page_lines cards; overflow_line = overflow_line cards } }

-- ---- the end of the job

-- of two files this one has E in 17, and the other has none
abbrev pub ends_alone : Option FileSpec → Option FileSpec → Bool
ends_alone (Some f) (Some other) = f.ends_job && not other.ends_job
ends_alone f other = false

-- the file that ends the job alone: the one of two input files with E in 17, if the other has none
abbrev pub meant_ends : List SpecCard → Option InputFile
meant_ends cards =
    if ends_alone (the_file is_primary cards) (the_file is_secondary cards)
    then Some Primary
    else if ends_alone (the_file is_secondary cards) (the_file is_primary cards) then Some Secondary else None
