-- The program that the cards of a source compile to, with numbers instead of their names.
use Rattle.std.specs.Prelude.{ℕ, Bool, not, ◌&&◌, ◌||◌, ◌==◌, List, map, Option, is_some, if◌then◌else◌}
use Rattle.std.specs.Option.{option_and_then}
use Rattle.rpg_cards.specs.Calculations.{calculations}
use Rattle.rpg_cards.specs.Keys.{Key}
use Rattle.rpg_cards.specs.Sections.{Sections, sections_of}
use Rattle.rpg_cards.specs.Files.{ending_file, file_for, page_of}
use Rattle.rpg_cards.specs.Levels.{has_match_field}
use Rattle.rpg_cards.specs.declared.files.FileUse.TheVariants as uses
use Rattle.rpg_cards.specs.declared.spec_card.SpecCard.{SpecCard}
use Rattle.rpg_compile_program.specs.Levels.{subroutine_level}
use Rattle.rpg_compile_program.specs.Whole.{IsCodeOf, detail_code, subroutine_rows, total_code}
use Rattle.rpg_paper.specs.Paper.{standard_page}
use Rattle.rpg_paper.specs.declared.form.Page.{Page}
use Rattle.rpg_program.specs.Input.{TypeRow}
use Rattle.rpg_program.specs.Lines.{Line}
use Rattle.rpg_program.specs.Object.{LineRow, Object}
use Rattle.rpg_program.specs.declared.input.InputFile.{InputFile}
use Rattle.rpg_program.specs.declared.rows.Version.{Version}
use Rattle.rpg_program.specs.declared.rows.Version.TheVariants as versions
use Rattle.rpg_program.specs.Naming.{renamed_line, renamed_type}
use Rattle.rpg_compile_program.specs.Data.{values_of}
use Rattle.rpg_compile_program.specs.Lines.{lines_on, record_length_of}
use Rattle.rpg_compile_program.specs.Table.{forms, key_number, key_word, table_of}
use Rattle.rpg_compile_program.specs.Types.{types_on}

-- the number of each key
abbrev pub key_numbers : List SpecCard → Key → ℕ
key_numbers cards = key_number (table_of cards)

-- the characters of each text constant, by its key
abbrev pub key_words : List SpecCard → Key → List ℕ
key_words cards = key_word (table_of cards)

-- the record types of a source, by the numbers of their fields
abbrev pub types_of : List SpecCard → List (TypeRow ℕ)
types_of cards = map (renamed_type (key_numbers cards)) (types_on cards)

-- a line's row has no length: the file has it
abbrev pub row_of_line : Line ℕ → LineRow
row_of_line l = record { file = l.file; time = l.time; spacing = l.spacing; alternatives = l.alternatives; fields = l.fields }

-- the row of a line, by the numbers of its fields
abbrev pub numbered_line : List SpecCard → Line Key → LineRow
numbered_line cards l = row_of_line (renamed_line (key_numbers cards) l)

-- the lines of a source, by the numbers of their fields
abbrev pub line_rows : List SpecCard → List LineRow
line_rows cards = map (numbered_line cards) (lines_on cards)

-- the calculations of a source: detail, total and subroutines
abbrev pub sections : List SpecCard → Sections Key
sections cards = sections_of (calculations cards)

-- the program has the code of the calculations of a source
abbrev pub HasCodeOf : List SpecCard → Object → Type 0
HasCodeOf cards p = IsCodeOf (key_numbers cards) (subroutine_level (sections cards).subroutines) (sections cards) p

-- the page of a program that names none
abbrev pub is_standard : Page → Bool
is_standard page = page.lines == standard_page.lines && page.overflow_line == standard_page.overflow_line

-- only version 3 has this page and this ending file
abbrev pub needs_page : Page → Option InputFile → Bool
needs_page page ends = not (is_standard page) || is_some ends

-- else version 2 has a secondary file or match fields
abbrev pub version_with : Bool → Bool → Bool → Version
version_with needs_page has_secondary has_match_field =
    if needs_page then versions.Three else if has_secondary || has_match_field then versions.Two else versions.One

-- the version of a source's object program
abbrev pub version_for : List SpecCard → Version
version_for cards = version_with (needs_page (page_of cards) (ending_file cards)) (is_some (file_for uses.Secondary cards)) (has_match_field cards)

-- the object program of a source, with that allowance
unfoldable pub program_of : List SpecCard → ℕ → Object
program_of cards allowance = record {
  version = version_for cards;
  allowance = allowance;
  record_length = record_length_of (file_for uses.Primary cards);
  secondary_length = record_length_of (file_for uses.Secondary cards);
  printer_length = record_length_of (file_for uses.Printer cards);
  disk_length = record_length_of (file_for uses.Disk cards);
  overflow = record { indicator = option_and_then (λ f. f.overflow) (file_for uses.Printer cards); page = page_of cards };
  ends = ending_file cards;
  fields = forms (table_of cards);
  values = values_of cards;
  types = types_of cards;
  lines = line_rows cards;
  detail = detail_code (key_numbers cards) (sections cards);
  total = total_code (key_numbers cards) (sections cards);
  subroutines = subroutine_rows (key_numbers cards) (subroutine_level (sections cards).subroutines) (sections cards);
}
