-- F7: files that are unknown, described twice or of the wrong use. F9 of lines: spaces and skips for the disk file.
use Rattle.std.specs.Prelude.{ℕ, List, Bool, not, ◌&&◌, ◌||◌, Option, None, Some, is_none, is_some, false, true, find, nat_lt}
use Rattle.std.specs.Option.{option_map_or, option_or}
use Rattle.rpg_cards.specs.Cards.{file_on, form_on, output_record_on, type_on}
use Rattle.rpg_cards.specs.Files.{file_by, file_for, file_named, file_use, is_input, is_output, same_use}
use Rattle.rpg_cards.specs.Groups.{input_role, open_file, open_group, output_role}
use Rattle.rpg_cards.specs.declared.files.FileUse.{FileUse}
use Rattle.rpg_cards.specs.declared.files.FileUse.TheVariants.{Primary, Printer, Disk}
use Rattle.rpg_cards.specs.declared.spec_card.SpecCard.{SpecCard}
use Rattle.rpg_sheet_specs.specs.declared.file.FileSpec.{FileSpec}
use Rattle.rpg_sheet_specs.specs.declared.form.FormSpec.{FormSpec}
use Rattle.rpg_sheet_specs.specs.declared.output.Movement.{Movement}
use Rattle.rpg_sheet_specs.specs.declared.output.OutputRecord.{OutputRecord}
use Rattle.rpg_text.specs.Texts.{is_between}

-- ---- F7

-- the longest record or line
abbrev pub longest_in_file : FileUse → ℕ
longest_in_file Printer = 132
longest_in_file _ = 9999

-- one file of each use; no two with the same name
abbrev pub bad_file : List SpecCard → FileSpec → Bool
bad_file before f =
    is_some (file_named f.name before)
    || is_some (file_for (file_use f) before)
    || not (is_between 1 (longest_in_file (file_use f)) f.record_length)

-- no file of this use has the name
abbrev pub lacks_named : List SpecCard → (FileUse → Bool) → List ℕ → Bool
lacks_named cards is_fit name = option_map_or (λ f. not (is_fit (file_use f))) (file_named name cards) true

-- A card names a file of this use. Only after another card of its kind may it omit the name.
abbrev pub lacks_file : List SpecCard → (FileUse → Bool) → Bool → Option (List ℕ) → Bool
lacks_file cards is_fit is_following None = not is_following
lacks_file cards is_fit is_following (Some name) = lacks_named cards is_fit name

-- the first L card
abbrev pub first_form : List SpecCard → Option SpecCard
first_form cards = find (λ c. is_some (form_on c.spec)) cards

-- an L card names the printer, is the only one, and has its overflow line on the page
abbrev pub bad_form : List SpecCard → List SpecCard → FormSpec → Bool
bad_form cards before f = lacks_named cards (same_use Printer) f.file || (is_some (first_form before) || nat_lt f.lines f.overflow_line)

-- F7 of a card: its file or its form is wrong, or it names no file of its use
abbrev pub breaks_files : List SpecCard → List SpecCard → SpecCard → Bool
breaks_files cards before c =
    option_map_or (bad_file before) (file_on c.spec) false
    || option_map_or (λ t. lacks_file cards is_input (is_some (open_group input_role before)) t.file) (type_on c.spec) false
    || option_map_or (λ r. lacks_file cards is_output (is_some (open_group output_role before)) r.file) (output_record_on c.spec) false
    || option_map_or (bad_form cards before) (form_on c.spec) false

-- the source as a whole
abbrev pub lacks_input : List SpecCard → Bool
lacks_input cards = is_none (file_for Primary cards)

-- ---- F9

-- a line spaces or skips
abbrev pub moves : Movement → Bool
moves m = is_some m.space_before || is_some m.space_after || is_some m.skip_before || is_some m.skip_after

-- the disk file
abbrev pub is_disk_file : FileSpec → Bool
is_disk_file f = same_use Disk (file_use f)

-- a line of the disk file has neither spaces nor skips
abbrev pub moves_disk_by : List SpecCard → List SpecCard → OutputRecord → Bool
moves_disk_by cards before r = moves r.movement && option_map_or is_disk_file (file_by (option_or r.file (open_file output_role before)) cards) false

-- F9 of a card: a line of the disk file spaces or skips
abbrev pub moves_disk : List SpecCard → List SpecCard → SpecCard → Bool
moves_disk cards before c = option_map_or (moves_disk_by cards before) (output_record_on c.spec) false
