-- The limits of the object format, for the program that cards compile to.
use Rattle.std.specs.Prelude.{◌≡◌, ℕ, ◌+◌, ◌≤◌, List, All, None, length}
use Rattle.std.specs.Option.{ForSome, option_and_then}
use Rattle.rpg_cards.specs.Calculations.{calculations}
use Rattle.rpg_cards.specs.Plain.{ArePlain}
use Rattle.rpg_cards.specs.Sections.{sections_of}
use Rattle.rpg_cards.specs.Constants.{constants}
use Rattle.rpg_cards.specs.Files.{ending_file, file_for, page_of}
use Rattle.rpg_cards.specs.declared.files.FileUse.TheVariants as uses
use Rattle.rpg_cards.specs.declared.spec_card.SpecCard.{SpecCard}
use Rattle.rpg_compile_layouts.specs.Rows.{rows_of}
use Rattle.rpg_compile_layouts.specs.Within.{IsLineWithin, IsTypeWithin}
use Rattle.rpg_paper.specs.Paper.{IsPage}
use Rattle.rpg_program.specs.Kept.{AreValuesOf, IsFieldRow, IsOverflowIndicator, storage_of}
use Rattle.rpg_faults_flow.specs.Kept.{KeepsRule}
use Rattle.rpg_faults_limits.specs.Names.{bad_size}
use Rattle.rpg_verify_rules.specs.Accepted.{IsAccepted}
use Rattle.rpg_compile_program.specs.Data.{values_of}
use Rattle.rpg_program.specs.Sections.{places_of}
use Rattle.rpg_symbols.specs.Fields as symbols
use Rattle.rpg_compile_program.specs.Lines.{lines_on, record_length_of}
use Rattle.rpg_compile_program.specs.Program.{program_of, sections}
use Rattle.rpg_compile_program.specs.Table.{defined_fields, forms, table_of}
use Rattle.rpg_compile_program.specs.Types.{types_on}

-- everything that the format requires, except for first values
pub record KeepsLimits (cards : List SpecCard) : Type 0 where
  -- ---- files
  pub shortest_record : 1 ≤ record_length_of (file_for uses.Primary cards)
  pub longest_record : record_length_of (file_for uses.Primary cards) ≤ 9999
  pub longest_secondary_record : record_length_of (file_for uses.Secondary cards) ≤ 9999
  pub widest_line : record_length_of (file_for uses.Printer cards) ≤ 132
  pub longest_disk_record : record_length_of (file_for uses.Disk cards) ≤ 9999
  pub overflow : ForSome (option_and_then (λ f. f.overflow) (file_for uses.Printer cards)) IsOverflowIndicator
  pub page : IsPage (page_of cards)
  pub ends : record_length_of (file_for uses.Secondary cards) ≡ 0 → ending_file cards ≡ None
  -- ---- fields
  pub names : length (defined_fields cards) + length (constants cards) ≤ 4000
  pub few_fields : length (forms (table_of cards)) ≤ 4000
  pub fields : All IsFieldRow (forms (table_of cards))
  pub name_storage : symbols.storage (defined_fields cards) ≤ 65535
  pub storage : storage_of (forms (table_of cards)) ≤ 65535
  -- ---- record types, and lines by the numbers of their fields
  pub few_types : length (types_on cards) ≤ 200
  pub types : All IsTypeWithin (types_on cards)
  pub few_lines : length (lines_on cards) ≤ 1000
  pub lines : All IsLineWithin (rows_of (table_of cards) cards)
  -- ---- calculations
  pub plain : ArePlain (sections_of (calculations cards))
  pub few_subroutines : length (sections cards).subroutines ≤ 100
  pub few_instructions : (allowance : ℕ) → places_of (program_of cards allowance) ≤ 8192

-- what cards without a fault keep, so that their program can be made
pub record HasProgram (cards : List SpecCard) (allowance : ℕ) : Type 0 where
  pub limits : KeepsLimits cards
  pub sizes : KeepsRule (λ before c after. bad_size c) cards
  pub values : AreValuesOf (forms (table_of cards)) (values_of cards)
  pub accepted : IsAccepted (program_of cards allowance)
