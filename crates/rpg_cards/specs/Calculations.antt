-- The calculations of cards: a C card with the AN and OR cards right after it is one calculation, which ends on the last of them.
use Rattle.std.specs.Prelude.{ℕ, ◌==◌, ◌++◌, Bool, true, false, List, [], ◌∷◌, Option, None, Some, unwrap_or, map, slice_get, if◌then◌else◌}
use Rattle.std.specs.List.{filter_map, last_or}
use Rattle.std.specs.Option.{option_map, option_map_or, option_to_list}
use Rattle.rpg_cards.specs.Statements.{Calculation, statement_of}
use Rattle.rpg_cards.specs.Keys.{Key}
use Rattle.rpg_cards.specs.Cards.{calculation_on}
use Rattle.rpg_cards.specs.Groups.{joins}
use Rattle.rpg_cards.specs.declared.spec_card.SpecCard.{SpecCard}
use Rattle.rpg_program.specs.Control.{has_conditions}
use Rattle.rpg_program.specs.declared.condition.Condition.{Condition}
use Rattle.rpg_program.specs.declared.condition.Conditions.{Conditions}
use Rattle.rpg_sheet_specs.specs.declared.calculation.CalculationSpec.{CalculationSpec}
use Rattle.rpg_sheet_specs.specs.declared.calculation.ControlLevel.{ControlLevel}
use Rattle.rpg_sheet_specs.specs.declared.calculation.ControlLevel.TheVariants as control
use Rattle.rpg_sheet_specs.specs.declared.indicator.ConditionSpec as sheet
use Rattle.rpg_sheet_specs.specs.declared.indicator.Three.{Three}
use Rattle.rpg_sheet_specs.specs.declared.spec.Spec.{Spec}

-- ---- when it is done

-- the level indicator that it waits for, L1 to L9 or LR
abbrev pub awaited_level : ControlLevel → Option ℕ
awaited_level (control.Total n) = if n == 100 then None else Some n
awaited_level _ = None

-- a condition on a card as one of a program's rows
abbrev pub condition_of : sheet.ConditionSpec → Condition
condition_of c = record { indicator = c.indicator; is_negated = c.negated }

-- those that are filled, in the order of the columns, from the first place on
abbrev pub standing : Three (Option sheet.ConditionSpec) → List Condition
standing t = map condition_of (filter_map (λ c. c) (t.first ∷ t.second ∷ t.third ∷ []))

-- at most three conditions, in the three places of a row
abbrev pub in_places : List Condition → Conditions
in_places cs = record { first = slice_get cs 0; second = slice_get cs 1; third = slice_get cs 2 }

-- the conditions of a card, without the blanks between them
abbrev pub conditions_on : CalculationSpec → Conditions
conditions_on k = in_places (standing k.conditions)

-- the card has a condition
abbrev pub depends : CalculationSpec → Bool
depends k = has_conditions (conditions_on k)

-- a card without conditions has no test
abbrev pub tests_on : CalculationSpec → List Conditions
tests_on k = if depends k then conditions_on k ∷ [] else []

-- an OR card
abbrev pub is_or : ControlLevel → Bool
is_or control.Or = true
is_or _ = false

-- an AN card continues the alternative, an OR card begins one
abbrev pub alternatives : List Conditions → List CalculationSpec → List (List Conditions)
alternatives so_far [] = so_far ∷ []
alternatives so_far (k ∷ ks) = if is_or k.control_level then so_far ∷ alternatives (tests_on k) ks else alternatives (so_far ++ tests_on k) ks

-- ---- groups of cards

-- a C card with the AN and OR cards that continue it
pub record CalculationGroup : Type 0 where
  pub first : CalculationSpec
  pub followers : List CalculationSpec  -- its AN and OR cards

-- the card with the operation: the last one
abbrev pub last_card : CalculationGroup → CalculationSpec
last_card g = unwrap_or (last_or None g.followers) g.first

-- what a group of cards calculates, and when
abbrev pub calculation_of : CalculationGroup → Calculation Key
calculation_of g = record {
  control = g.first.control_level;
  level = awaited_level g.first.control_level;
  alternatives = alternatives (tests_on g.first) g.followers;
  statement = statement_of (last_card g);
}

-- a group of one card
abbrev pub alone : CalculationSpec → CalculationGroup
alone k = record { first = k; followers = [] }

-- the group with one card more
abbrev pub joined_group : CalculationGroup → CalculationSpec → CalculationGroup
joined_group g k = record { first = g.first; followers = g.followers ++ k ∷ [] }

-- an AN or OR card without a C card right before it begins a group, as other cards do
abbrev pub group_with : Option CalculationGroup → CalculationSpec → CalculationGroup
group_with None k = alone k
group_with (Some g) k = if joins k.control_level then joined_group g k else alone k

-- ---- from the front: the group that the previous card belongs to

-- the group that is open after a card, given the one before it: none if the card isn't a C card
abbrev pub open_with : Option CalculationGroup → Spec → Option CalculationGroup
open_with o s = option_map (group_with o) (calculation_on s)

-- the group that is open after some cards, given the one before them
abbrev pub open_after : Option CalculationGroup → List SpecCard → Option CalculationGroup
open_after o [] = o
open_after o (c ∷ cs) = open_after (open_with o c.spec) cs

-- the group that the next card may continue: that of the previous card, if it is a C card
abbrev pub open_calculation_group : List SpecCard → Option CalculationGroup
open_calculation_group before = open_after None before

-- the next card is an AN or OR card
abbrev pub continues : List SpecCard → Bool
continues [] = false
continues (c ∷ cs) = option_map_or (λ k. joins k.control_level) (calculation_on c.spec) false

-- the group whose last card this is
abbrev pub group_at : Option CalculationGroup → SpecCard → List SpecCard → Option CalculationGroup
group_at o c after = if continues after then None else open_with o c.spec

-- the calculations that end on the first cards, given those after them
abbrev pub calculations_from : Option CalculationGroup → List SpecCard → List SpecCard → List (Calculation Key)
calculations_from o [] after = []
calculations_from o (c ∷ cs) after = option_to_list (option_map calculation_of (group_at o c (cs ++ after))) ++ calculations_from (open_with o c.spec) cs after

-- the calculations that end on some cards, given those after them
abbrev pub calculations_before : List SpecCard → List SpecCard → List (Calculation Key)
calculations_before before after = calculations_from None before after

-- the calculations of a source, in the order of their cards
abbrev pub calculations : List SpecCard → List (Calculation Key)
calculations cards = calculations_before cards []

-- ---- what ends on a card

-- the group that ends on a card, given the cards before and after it
abbrev pub group_ending : List SpecCard → SpecCard → List SpecCard → Option CalculationGroup
group_ending before c after = group_at (open_calculation_group before) c after

-- the calculation that ends on a card, given the cards before and after it
abbrev pub calculation_ending : List SpecCard → SpecCard → List SpecCard → Option (Calculation Key)
calculation_ending before c after = option_map calculation_of (group_ending before c after)

-- the card with the operation
abbrev pub card_ending : SpecCard → List SpecCard → Option CalculationSpec
card_ending c after = if continues after then None else calculation_on c.spec

-- ---- a group with the AN and OR cards after it

-- the group with the AN and OR cards right after it
abbrev pub completed : CalculationGroup → List SpecCard → CalculationGroup
completed g [] = g
completed g (c ∷ cs) = option_map_or (λ k. if joins k.control_level then completed (joined_group g k) cs else g) (calculation_on c.spec) g

-- the last card of the group of a card
abbrev pub group_end : CalculationSpec → List SpecCard → CalculationSpec
group_end k after = last_card (completed (alone k) after)
