-- The files of a source, found by use or by name.
use Rattle.std.specs.Prelude.{ℕ, List, Bool, true, false, not, nat_eq, Option, None, Some, find}
use Rattle.std.specs.Cmp.Lexicographic.{pointwise}
use Rattle.std.specs.List.{filter_map}
use Rattle.std.specs.Option.{option_and_then, option_map_or}
use Rattle.rpg_cards.specs.Cards.{file_on, form_on}
use Rattle.rpg_cards.specs.declared.files.FileUse.{FileUse}
use Rattle.rpg_cards.specs.declared.files.FileUse.TheVariants.{Primary, Secondary, Printer, Disk}
use Rattle.rpg_cards.specs.declared.spec_card.SpecCard.{SpecCard}
use Rattle.rpg_paper.specs.Paper.{standard_page}
use Rattle.rpg_paper.specs.declared.form.Page.{Page}
use Rattle.rpg_program.specs.declared.input.InputFile.{InputFile}
use Rattle.rpg_program.specs.declared.input.InputFile.TheVariants as inputs
use Rattle.rpg_sheet_specs.specs.declared.file.Device.{Device}
use Rattle.rpg_sheet_specs.specs.declared.file.Device.TheVariants as device
use Rattle.rpg_sheet_specs.specs.declared.file.FileRole.{FileRole}
use Rattle.rpg_sheet_specs.specs.declared.file.FileRole.TheVariants as role
use Rattle.rpg_sheet_specs.specs.declared.file.FileSpec.{FileSpec}
use Rattle.rpg_sheet_specs.specs.declared.form.FormSpec.{FormSpec}

-- ---- the use of a file

-- a file's use by its role and its device
abbrev pub use_by : FileRole → Device → FileUse
use_by role.Primary d = Primary
use_by role.Secondary d = Secondary
use_by role.Output device.Printer = Printer
use_by role.Output device.Disk = Disk

-- the use of the file on an F card
abbrev pub file_use : FileSpec → FileUse
file_use f = use_by f.role f.device

-- two uses are the same
abbrev pub same_use : FileUse → FileUse → Bool
same_use Primary Primary = true
same_use Secondary Secondary = true
same_use Printer Printer = true
same_use Disk Disk = true
same_use u v = false

-- a file that is read
abbrev pub is_input : FileUse → Bool
is_input Printer = false
is_input Disk = false
is_input _ = true

-- a file that is written
abbrev pub is_output : FileUse → Bool
is_output u = not (is_input u)

-- ---- the files

-- the files of a source, in the order of their F cards
abbrev pub files : List SpecCard → List FileSpec
files cards = filter_map (λ c. file_on c.spec) cards

-- the first file with a use
abbrev pub file_for : FileUse → List SpecCard → Option FileSpec
file_for u cards = find (λ f. same_use u (file_use f)) (files cards)

-- the first file with that name
abbrev pub file_named : List ℕ → List SpecCard → Option FileSpec
file_named name cards = find (λ f. pointwise nat_eq name f.name) (files cards)

-- the file with the name, if there is a name
abbrev pub file_by : Option (List ℕ) → List SpecCard → Option FileSpec
file_by name cards = option_and_then (λ n. file_named n cards) name

-- the input file that ends the job alone, by whether the primary and the secondary one have E
abbrev pub ends_alone : Bool → Bool → Option InputFile
ends_alone true false = Some inputs.Primary
ends_alone false true = Some inputs.Secondary
ends_alone _ _ = None

-- the one of two input files with E, if the other has none
abbrev pub ending_file : List SpecCard → Option InputFile
ending_file cards = option_and_then (λ p. option_and_then (λ s. ends_alone p.ends_job s.ends_job) (file_for Secondary cards)) (file_for Primary cards)

-- ---- the form

-- the first L card with that name
abbrev pub form_named : List ℕ → List SpecCard → Option FormSpec
form_named name cards = find (λ f. pointwise nat_eq name f.file) (filter_map (λ c. form_on c.spec) cards)

-- that of the printer
abbrev pub printer_form : List SpecCard → Option FormSpec
printer_form cards = option_and_then (λ f. form_named f.name cards) (file_for Printer cards)

-- the page of an L card
abbrev pub page_on : FormSpec → Page
page_on f = record { lines = f.lines; overflow_line = f.overflow_line }

-- the page of the printer's L card, or the standard one
abbrev pub page_of : List SpecCard → Page
page_of cards = option_map_or page_on (printer_form cards) standard_page
