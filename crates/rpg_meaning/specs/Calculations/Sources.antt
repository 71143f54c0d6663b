-- What the cards of a source mean, by names.
use Rattle.std.specs.Prelude.{ℕ, List}
use Rattle.rpg_cards.specs.declared.spec_card.SpecCard.{SpecCard}
use Rattle.rpg_compile_program.specs.Program.{program_of}
use Rattle.rpg_faults_flow.specs.Columns.{bad_calculation_columns}
use Rattle.rpg_faults_flow.specs.Kept.{KeepsRule}
use Rattle.rpg_meaning.specs.Calculations.Meaning.{Source}
use Rattle.rpg_meaning.specs.Sheets.Calculations.{meant_calculations}
use Rattle.rpg_meaning.specs.Sheets.Files.{meant_overflow}
use Rattle.rpg_meaning.specs.Sheets.Forms.{meant_forms, meant_words}
use Rattle.rpg_meaning.specs.Sheets.Lines.{meant_lines}
use Rattle.rpg_meaning.specs.Sheets.Sections.{meant_sections}
use Rattle.rpg_program.specs.Kept.{IsProgram}
use Rattle.rpg_verify_rules.specs.Accepted.{IsAccepted}

-- the program of a source is accepted, and no calculation card lacks what it must have
pub record IsAcceptedSource (cards : List SpecCard) (allowance : ℕ) : Type 0 where
  pub program : IsProgram (program_of cards allowance)
  pub accepted : IsAccepted (program_of cards allowance)
  pub filled : KeepsRule bad_calculation_columns cards

-- what the cards of a source mean for calculations
abbrev pub source_of : List SpecCard → Source
source_of cards = record {
  sections = meant_sections (meant_calculations cards);
  forms = meant_forms cards;
  words = meant_words cards;
  overflow = meant_overflow cards;
  lines = meant_lines cards;
}
