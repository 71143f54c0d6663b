-- The program of cards that keep its limits keeps all that the object format requires.
use Rattle.std.proofs.Common.{◌≡◌, ℕ, suc, ◌+◌, ◌<◌, ◌≤◌, List, [], ◌∷◌, length, Option, refl, ap, arith}
use Rattle.std.proofs.lemmas.List.{length-map}
use Rattle.std.specs.Option.{option_and_then}
use Rattle.std.specs.Prelude.{All}
use Rattle.rpg_cards.specs.Keys.{Key, Name}
use Rattle.rpg_cards.specs.Sections.{Subroutine}
use Rattle.rpg_cards.specs.Files.{ending_file, file_for, page_of}
use Rattle.rpg_cards.specs.declared.files.FileUse.TheVariants as uses
use Rattle.rpg_cards.specs.declared.spec_card.SpecCard.{SpecCard}
use Rattle.rpg_compile_program.specs.Code.{sizes, subroutines_code}
use Rattle.rpg_compile_program.specs.Levels.{subroutine_level}
use Rattle.rpg_compile_program.specs.Whole.{called_number, detail_code, subroutine_rows, total_code}
use Rattle.rpg_program.specs.Input.{TypeRow}
use Rattle.rpg_program.specs.Values.{Value}
use Rattle.rpg_program.specs.declared.input.InputFile.{InputFile}
use Rattle.rpg_program.specs.declared.input.InputFile.TheVariants.{Primary}
use Rattle.rpg_program.specs.declared.form.FieldForm.{FieldForm}
use Rattle.rpg_program.specs.declared.operation.Instruction.{Instruction}
use Rattle.rpg_compile.specs.Marked.{IsMarked, IsMarkedRow}
use Rattle.rpg_program.specs.Kept.{AreValuesOf, IsLineRow, IsProgram, IsTypeRow}
use Rattle.rpg_program.specs.Object.{LineRow, Object, SubroutineRow}
use Rattle.rpg_program.specs.declared.rows.Overflow.{Overflow}
use Rattle.rpg_program.specs.declared.rows.Version.{Version}
use Rattle.rpg_program.specs.declared.section.Section.TheVariants as section
use Rattle.rpg_compile.specs.Limits.{KeepsLimits}
use Rattle.rpg_verify_rules.specs.Accepted.{IsAccepted}
use Rattle.rpg_compile_program.specs.Data.{values_of}
use Rattle.rpg_compile_program.specs.Lines.{lines_on, record_length_of}
use Rattle.rpg_compile_program.specs.Program.{key_numbers, line_rows, numbered_line, program_of, sections, types_of, version_for}
use Rattle.rpg_compile_program.specs.Table.{forms, table_of}
use Rattle.rpg_compile_program.specs.Types.{types_on}
use Rattle.rpg_program.specs.Naming.{renamed_type}
use Rattle.rpg_compile.proofs.Instructions as instructions
use Rattle.rpg_compile.proofs.Versions.{plain, standard}

-- as many rows as subroutines
rows_length : (number : Key → ℕ) (callee_of : Option Name → ℕ) (level : ℕ → ℕ) (own first : ℕ) (ss : List (Subroutine Key)) → length (subroutines_code number callee_of level own first ss) ≡ length ss
unfolding subroutines_code
rows_length number callee_of level own first [] = refl
rows_length number callee_of level own first (s ∷ ss) = ap suc (rows_length number callee_of level (suc own) (first + sizes s.body) ss)

abbrev details : List SpecCard → List (Instruction ℕ)
details cards = detail_code (key_numbers cards) (sections cards)

abbrev totals : List SpecCard → List (Instruction ℕ)
totals cards = total_code (key_numbers cards) (sections cards)

abbrev bodies : List SpecCard → List SubroutineRow
bodies cards = subroutine_rows (key_numbers cards) (subroutine_level (sections cards).subroutines) (sections cards)

pub is_program : (cards : List SpecCard) (allowance : ℕ) → 0 < allowance → allowance ≤ 65535 → KeepsLimits cards → AreValuesOf (forms (table_of cards)) (values_of cards) → IsAccepted (program_of cards allowance)
    → All IsTypeRow (types_of cards) → All IsLineRow (line_rows cards) → All IsMarked (details cards) → All IsMarked (totals cards) → All IsMarkedRow (bodies cards) → IsProgram (program_of cards allowance)
unfolding program_of
is_program cards allowance low high limits values accepted types lines detail total subroutines =
    let p = program_of cards allowance in
    let s = sections cards in
    let number_of_types = length-map (types_on cards) (renamed_type (key_numbers cards)) in
    let number_of_lines = length-map (lines_on cards) (numbered_line cards) in
    let number_of_rows = rows_length (key_numbers cards) (called_number s) (subroutine_level s.subroutines) 0 (sizes s.detail + sizes s.total) s.subroutines in
    record {
      lowest_allowance = omega arith;
      highest_allowance = high;
      shortest_record = limits.shortest_record;
      longest_record = limits.longest_record;
      longest_secondary = limits.longest_secondary_record;
      widest_line = limits.widest_line;
      longest_disk_record = limits.longest_disk_record;
      overflow = limits.overflow;
      page = limits.page;
      ends = limits.ends;
      few_fields = limits.few_fields;
      fields = limits.fields;
      storage = limits.storage;
      values = values;
      few_types = omega (arith, limits.few_types);
      types = types;
      few_lines = omega (arith, limits.few_lines);
      lines = lines;
      detail = instructions.section_rows p accepted limits.few_fields limits.fields section.Detail detail;
      total = instructions.section_rows p accepted limits.few_fields limits.fields section.Total total;
      few_subroutines = omega (arith, limits.few_subroutines);
      subroutines = instructions.subroutine_rows p accepted limits.few_fields limits.fields subroutines;
      few_instructions = limits.few_instructions allowance;
      plain = λ first. plain cards first allowance;
      standard = λ old. standard cards old allowance;
    }

-- an object with these parts is the program
pub made_of : (cards : List SpecCard) (version : Version) (allowance record_length secondary_length printer_length disk_length : ℕ) (overflow : Overflow) (ends : Option InputFile) (fs : List FieldForm) (vs : List (List Value)) (ts : List (TypeRow ℕ)) (ls : List LineRow)
    (detail total : List (Instruction ℕ)) (ss : List SubroutineRow)
    → version ≡ version_for cards → record_length ≡ record_length_of (file_for uses.Primary cards) → secondary_length ≡ record_length_of (file_for uses.Secondary cards) → printer_length ≡ record_length_of (file_for uses.Printer cards) → disk_length ≡ record_length_of (file_for uses.Disk cards)
    → overflow ≡ record { indicator = option_and_then (λ f. f.overflow) (file_for uses.Printer cards); page = page_of cards } → ends ≡ ending_file cards
    → fs ≡ forms (table_of cards) → vs ≡ values_of cards → ts ≡ types_of cards → ls ≡ line_rows cards
    → detail ≡ details cards → total ≡ totals cards → ss ≡ bodies cards
    → ◌≡◌ {A = Object} (record { version = version; allowance = allowance; record_length = record_length; secondary_length = secondary_length; printer_length = printer_length; disk_length = disk_length; overflow = overflow; ends = ends; fields = fs; values = vs; types = ts; lines = ls; detail = detail; total = total; subroutines = ss }) (program_of cards allowance)
unfolding program_of
made_of cards v allowance r s p d o ends fs vs ts ls detail total ss q a t b c e n f g h i j k l = cc
