-- The rules of cards: a source in which no card breaks any of them.
use Rattle.std.specs.Prelude.{◌≡◌, List, false}
use Rattle.rpg_cards.specs.declared.spec_card.SpecCard.{SpecCard}
use Rattle.rpg_faults_flow.specs.Columns as calculations
use Rattle.rpg_faults_flow.specs.Flow.{calls_itself, leaves_its_section, lacks_target}
use Rattle.rpg_faults_flow.specs.Kept.{KeepsRule}
use Rattle.rpg_faults_flow.specs.Order.{breaks_order}
use Rattle.rpg_faults_limits.specs.Files.{breaks_files, lacks_input, moves_disk}
use Rattle.rpg_faults_operands.specs.Indicators.{bad_indicator}
use Rattle.rpg_faults_limits.specs.Limits.{passes_limit}
use Rattle.rpg_faults_limits.specs.Names.{bad_size, redefines}
use Rattle.rpg_faults_flow.specs.Strays.{is_stray}
use Rattle.rpg_faults_operands.specs.Columns as operands
use Rattle.rpg_faults_operands.specs.Editing.{bad_editing}
use Rattle.rpg_faults_operands.specs.Indexes.{bad_index}
use Rattle.rpg_faults_operands.specs.Kinds.{wrong_operand}
use Rattle.rpg_faults_operands.specs.Names.{lacks_name}
use Rattle.rpg_faults_data.specs.Data.{breaks_data}
use Rattle.rpg_faults_places.specs.Places.{misplaces}

-- a program needs nothing of F11 and F15
pub record KeepsCardRules (cards : List SpecCard) : Type 0 where
  pub f1 : KeepsRule (λ before c after. lacks_name cards c after) cards
  pub f2 : KeepsRule (λ before c after. redefines before c) cards
  pub f3 : KeepsRule (λ before c after. bad_size c) cards
  pub f4 : KeepsRule (λ before c after. wrong_operand cards c after) cards
  pub f5 : KeepsRule (λ before c after. bad_index cards c after) cards
  pub f6 : KeepsRule (passes_limit cards) cards
  pub f7 : KeepsRule (λ before c after. breaks_files cards before c) cards
  pub f7_source : lacks_input cards ≡ false
  pub f8 : KeepsRule (λ before c after. bad_indicator cards c) cards
  -- of C cards, of what they search and of output fields, of lines
  pub f9 : KeepsRule calculations.bad_calculation_columns cards
  pub f9_operands : KeepsRule (λ before c after. operands.bad_operand_columns cards c after) cards
  pub f9_lines : KeepsRule (λ before c after. moves_disk cards before c) cards
  pub f10 : KeepsRule (lacks_target cards) cards
  -- of C cards, of I and O cards
  pub f12 : KeepsRule breaks_order cards
  pub f12_lines : KeepsRule (λ before c after. is_stray before c) cards
  pub f13 : KeepsRule (leaves_its_section cards) cards
  pub f14 : KeepsRule (calls_itself cards) cards
  pub f16 : KeepsRule (misplaces cards) cards
  pub f17 : KeepsRule (λ before c after. bad_editing cards c) cards
  pub f18 : KeepsRule (λ before c after. breaks_data cards before c) cards
