-- The program of a source is a translation of what its cards mean.
use Rattle.std.proofs.Common.{◌≡◌, ℕ, List, refl, ap, subst, ◌∙◌}
use Rattle.std.specs.Option.{option_and_then}
use Rattle.rpg_cards.specs.Files.{file_for, page_of}
use Rattle.rpg_cards.specs.Keys.{key_cmp}
use Rattle.rpg_cards.specs.Sections.{sections_of}
use Rattle.rpg_cards.specs.declared.files.FileUse.TheVariants as uses
use Rattle.rpg_cards.specs.declared.spec_card.SpecCard.{SpecCard}
use Rattle.rpg_compile_program.proofs.Lines.{lines_same}
use Rattle.rpg_compile_program.proofs.Numbers.{numbers_rename}
use Rattle.rpg_compile_program.proofs.Words.{words_same}
use Rattle.rpg_compile_program.specs.Levels.{subroutine_level}
use Rattle.rpg_compile_program.specs.Lines.{lines_on}
use Rattle.rpg_compile_program.specs.Program.{key_numbers, program_of, sections}
use Rattle.rpg_compile_program.specs.Table.{key_form, key_word, table_of}
use Rattle.rpg_program.specs.Naming.{Agree}
use Rattle.rpg_program.specs.World.{World}
use Rattle.rpg_faults_flow.specs.Columns.{bad_calculation_columns}
use Rattle.rpg_faults_flow.specs.Kept.{KeepsRule}
use Rattle.rpg_meaning.specs.Sheets.Calculations.{meant_calculations}
use Rattle.rpg_meaning.specs.Sheets.Forms.{meant_forms}
use Rattle.rpg_meaning.proofs.Calculations.Filled.{filled_in}
use Rattle.rpg_meaning.proofs.Calculations.Keys.{named_world}
use Rattle.rpg_meaning.proofs.Calculations.MeantCalculations.{calculations_are_meant}
use Rattle.rpg_meaning.proofs.Calculations.MeantFiles.{page_is_meant, printer_is_meant}
use Rattle.rpg_meaning.proofs.Calculations.MeantForms.{form_same, word_same}
use Rattle.rpg_meaning.proofs.Calculations.MeantLines.{lines_are_meant}
use Rattle.rpg_meaning.proofs.Calculations.MeantSections.{sections_are_meant}
use Rattle.rpg_meaning.specs.Calculations.Meaning.{Source}
use Rattle.rpg_meaning.specs.Calculations.Sources.{source_of}
use Rattle.rpg_meaning.specs.Calculations.Translation.{IsTranslation}
use Rattle.std.specs.Ordering.{nat_cmp}

-- what the compiler takes from the cards
compiled_source : List SpecCard → Source
compiled_source cards = record {
  sections = sections cards;
  forms = key_form (table_of cards);
  words = key_word (table_of cards);
  overflow = record { indicator = option_and_then (λ f. f.overflow) (file_for uses.Printer cards); page = page_of cards };
  lines = lines_on cards;
}

-- is what they mean
source_same : (cards : List SpecCard) → compiled_source cards ≡ source_of cards
unfolding compiled_source
source_same cards = λ i. record {
  sections = (ap sections_of (calculations_are_meant cards) ∙ sections_are_meant (meant_calculations cards)) i;
  forms = λ k. form_same cards k i;
  words = λ k. word_same cards k i;
  overflow = record { indicator = option_and_then (λ f. f.overflow) (printer_is_meant cards i); page = page_is_meant cards i };
  lines = lines_are_meant cards i;
}

taken : (cards : List SpecCard) (allowance : ℕ) → KeepsRule bad_calculation_columns cards → IsTranslation (program_of cards allowance) (compiled_source cards) (key_numbers cards)
unfolding program_of compiled_source
taken cards allowance kept = record {
  level = subroutine_level (sections cards).subroutines;
  names = numbers_rename (table_of cards);
  words = words_same cards allowance;
  overflow = refl;
  lines = lines_same cards allowance;
  code = record { detail = refl; total = refl; subroutines = refl };
  filled = filled_in cards kept;
}

pub translates : (cards : List SpecCard) (allowance : ℕ) → KeepsRule bad_calculation_columns cards → IsTranslation (program_of cards allowance) (source_of cards) (key_numbers cards)
translates cards allowance kept = subst (λ source. IsTranslation (program_of cards allowance) source (key_numbers cards)) (source_same cards) (taken cards allowance kept)

pub same_forms : (cards : List SpecCard) → key_form (table_of cards) ≡ meant_forms cards
same_forms cards = λ i k. form_same cards k i

-- whatever fields hold, there are values by name that agree
pub meant_world : (cards : List SpecCard) (w : World nat_cmp) → (v : World key_cmp) × Agree (source_of cards).forms (key_numbers cards) v w
meant_world cards w = subst (λ forms. (v : World key_cmp) × Agree forms (key_numbers cards) v w) (same_forms cards) (named_world (table_of cards) w)
