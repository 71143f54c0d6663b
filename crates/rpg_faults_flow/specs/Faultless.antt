-- A source in which no card breaks a rule on calculations.
use Rattle.std.specs.Prelude.{◌≤◌, List, length}
use Rattle.rpg_cards.specs.Calculations.{calculations}
use Rattle.rpg_cards.specs.Sections.{sections_of}
use Rattle.rpg_cards.specs.declared.spec_card.SpecCard.{SpecCard}
use Rattle.rpg_faults_flow.specs.Columns.{bad_calculation_columns}
use Rattle.rpg_faults_flow.specs.Flow.{calls_itself, leaves_its_section, lacks_target}
use Rattle.rpg_faults_flow.specs.Kept.{KeepsRule}
use Rattle.rpg_faults_flow.specs.Order.{breaks_order}

-- no calculation has bad columns, is out of order, or goes nowhere or to another section, and no subroutine calls itself, directly or through others
pub record KeepsFlow (source : List SpecCard) : Type 0 where
  pub columns : KeepsRule bad_calculation_columns source
  pub order : KeepsRule breaks_order source
  pub targets : KeepsRule (lacks_target source) source
  pub apart : KeepsRule (leaves_its_section source) source
  pub calls : KeepsRule (calls_itself source) source

-- the source has at most 100 subroutines
abbrev pub HasFewSubroutines : List SpecCard → Type 0
HasFewSubroutines source = length (sections_of (calculations source)).subroutines ≤ 100
