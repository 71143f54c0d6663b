-- Whether the operation of an open group allows conditions.
use Rattle.std.specs.Prelude.{◌≡◌, List, ◌∷◌, Bool, Option, Some, unwrap_or, if◌then◌else◌}
use Rattle.std.specs.Option.{option_map}
use Rattle.rpg_cards.specs.Calculations.{CalculationGroup, group_end, last_card, open_calculation_group}
use Rattle.rpg_cards.specs.Cards.{calculation_on}
use Rattle.rpg_cards.specs.Groups.{joins}
use Rattle.rpg_cards.specs.declared.spec_card.SpecCard.{SpecCard}
use Rattle.rpg_faults_flow.specs.Columns.{may_depend}
use Rattle.rpg_faults_flow.specs.declared.columns.OpenGroup.{OpenGroup}
use Rattle.rpg_sheet_specs.specs.declared.calculation.CalculationSpec.{CalculationSpec}

-- that of a group, given the cards that follow its last one so far
abbrev pub open_may_depend : Option CalculationGroup → List SpecCard → Option Bool
open_may_depend group rest = option_map (λ g. may_depend (group_end (last_card g) rest)) group

-- that of the group that a card joins or opens, given that of the open group
abbrev pub may_depend_in : Option Bool → CalculationSpec → List SpecCard → Bool
may_depend_in known k after = if joins k.control_level then unwrap_or known (may_depend (group_end k after)) else may_depend (group_end k after)

-- the same, if it is a C card
abbrev pub may_depend_with : Option Bool → SpecCard → List SpecCard → Option Bool
may_depend_with known c after = option_map (λ k. may_depend_in known k after) (calculation_on c.spec)

-- the group that the cards before leave open
abbrev pub IsOpenGroup : List SpecCard → List SpecCard → OpenGroup → Type 0
IsOpenGroup before rest o = o.may_depend ≡ open_may_depend (open_calculation_group before) rest

-- the group that is open before a card with these columns
pub record IsGroupBefore (before : List SpecCard) (k : CalculationSpec) (after : List SpecCard) (o : OpenGroup) : Type 0 where
  pub card : SpecCard
  pub here : calculation_on card.spec ≡ Some k
  pub group : IsOpenGroup before (card ∷ after) o
