-- The rule of each code, for a card and for a source as a whole.
use Rattle.std.specs.Prelude.{Bool, false, ◌||◌, List, ◌∷◌, ◌++◌}
use Rattle.rpg_cards.specs.declared.spec_card.SpecCard.{SpecCard}
use Rattle.rpg_faults.specs.declared.code.FaultCode.{FaultCode}
use Rattle.rpg_faults.specs.declared.code.FaultCode.TheVariants.{F1, F2, F3, F4, F5, F6, F7, F8, F9, F10, F11, F12, F13, F14, F15, F16, F17, F18}
use Rattle.rpg_faults_flow.specs.Columns as calculations
use Rattle.rpg_faults_flow.specs.Flow.{calls_itself, leaves_its_section, lacks_target, repeats_name}
use Rattle.rpg_faults_flow.specs.Kept.{Rule}
use Rattle.rpg_faults_flow.specs.Order.{breaks_order}
use Rattle.rpg_faults_flow.specs.Rounding.{bad_rounding}
use Rattle.rpg_faults_limits.specs.Files.{breaks_files, lacks_input, moves_disk}
use Rattle.rpg_faults_operands.specs.Indicators.{bad_indicator}
use Rattle.rpg_faults_limits.specs.Limits.{passes_limit}
use Rattle.rpg_faults_limits.specs.Names.{bad_size, redefines}
use Rattle.rpg_faults_flow.specs.Strays.{is_stray}
use Rattle.rpg_faults_operands.specs.Columns as operands
use Rattle.rpg_faults_operands.specs.Editing.{bad_editing}
use Rattle.rpg_faults_operands.specs.Indexes.{bad_index}
use Rattle.rpg_faults_operands.specs.Kinds.{wrong_operand}
use Rattle.rpg_faults_operands.specs.Names.{lacks_name}
use Rattle.rpg_faults_data.specs.Data.{breaks_data}
use Rattle.rpg_faults_places.specs.Places.{misplaces}

-- what a card breaks, given the cards before it and those after it
unfoldable pub rule : FaultCode → Rule
rule F1 before c after = lacks_name (before ++ c ∷ after) c after
rule F2 before c after = redefines before c
rule F3 before c after = bad_size c
rule F4 before c after = wrong_operand (before ++ c ∷ after) c after
rule F5 before c after = bad_index (before ++ c ∷ after) c after
rule F6 before c after = passes_limit (before ++ c ∷ after) before c after
rule F7 before c after = breaks_files (before ++ c ∷ after) before c
rule F8 before c after = bad_indicator (before ++ c ∷ after) c
rule F9 before c after = calculations.bad_calculation_columns before c after || (operands.bad_operand_columns (before ++ c ∷ after) c after || moves_disk (before ++ c ∷ after) before c)
rule F10 before c after = lacks_target (before ++ c ∷ after) before c after
rule F11 before c after = repeats_name before c after
rule F12 before c after = breaks_order before c after || is_stray before c
rule F13 before c after = leaves_its_section (before ++ c ∷ after) before c after
rule F14 before c after = calls_itself (before ++ c ∷ after) before c after
rule F15 before c after = bad_rounding before c after
rule F16 before c after = misplaces (before ++ c ∷ after) before c after
rule F17 before c after = bad_editing (before ++ c ∷ after) c
rule F18 before c after = breaks_data (before ++ c ∷ after) before c

-- what the source as a whole breaks
unfoldable pub source_rule : FaultCode → List SpecCard → Bool
source_rule F7 cards = lacks_input cards
source_rule _ cards = false
