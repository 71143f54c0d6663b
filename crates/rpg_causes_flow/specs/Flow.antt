-- What the cards before a card have come to, and what a card means after them.
use Rattle.std.specs.Prelude.{◌≡◌, ℕ, ◌+◌, ◌-◌, List, length, Bool, true, false, Option, None, if◌then◌else◌}
use Rattle.std.specs.Option.{option_map_or}
use Rattle.rpg_cards.specs.Calculations.{calculations_before, open_calculation_group}
use Rattle.rpg_cards.specs.Labels.{begun_count, is_begsr}
use Rattle.rpg_cards.specs.Names.{definitions}
use Rattle.rpg_cards.specs.Statements.{statement_of}
use Rattle.rpg_cards.specs.declared.labels.Section.{Section}
use Rattle.rpg_cards.specs.declared.labels.Section.TheVariants.{Detail, Outside, Subroutine, Total}
use Rattle.rpg_cards.specs.declared.spec_card.SpecCard.{SpecCard}
use Rattle.rpg_causes_flow.specs.ByCard.{calculation_level, level_of_group}
use Rattle.rpg_causes_flow.specs.Order.{first_above, last_bracket, opens}
use Rattle.rpg_causes_flow.specs.declared.brackets.Bracket.{Bracket}
use Rattle.rpg_causes_flow.specs.declared.flow.Flow.{Flow}
use Rattle.rpg_sheet_specs.specs.declared.calculation.CalculationSpec.{CalculationSpec}
use Rattle.rpg_sheet_specs.specs.declared.calculation.ControlLevel.{ControlLevel}
use Rattle.rpg_sheet_specs.specs.declared.calculation.ControlLevel.TheVariants as control

-- the cards before, and those from the card on
pub record IsFlow (before rest : List SpecCard) (f : Flow) : Type 0 where
  pub group : f.group ≡ level_of_group (open_calculation_group before)
  pub total : f.total ≡ first_above 0 before
  pub subroutine : f.subroutine ≡ first_above 1 before
  pub bracket : f.bracket ≡ last_bracket None before rest
  pub begun : f.begun ≡ begun_count (calculations_before before rest)
  pub definitions : f.definitions ≡ length (definitions before)

-- how many subroutines have begun after a BEGSR or ENDSR, if there is one
abbrev pub begun_after : ℕ → Option Bracket → ℕ
begun_after n b = option_map_or (λ (x : Bracket). if x.is_end then n else n + 1) b n

-- the section of an SR card: its own subroutine at BEGSR, otherwise the open one
abbrev pub subroutine_at : Flow → Bool → Section
subroutine_at f true = Subroutine f.begun
subroutine_at f false = if opens f.bracket then Subroutine (f.begun - 1) else Outside

-- of a calculation with these columns 7 and 8
abbrev pub section_in : Flow → ControlLevel → CalculationSpec → Section
section_in f control.Detail k = Detail
section_in f (control.Total i) k = Total
section_in f control.Subroutine k = subroutine_at f (is_begsr (statement_of k))
section_in f _ k = Outside

-- of the calculation that ends on a card
abbrev pub section_at : Flow → CalculationSpec → Section
section_at f k = section_in f (calculation_level f.group k) k
