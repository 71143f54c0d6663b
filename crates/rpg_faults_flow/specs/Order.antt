-- F12 of calculation cards: sections out of order, unpaired BEGSR and ENDSR, cards without the card that they continue.
use Rattle.std.specs.Prelude.{ℕ, nat_lt, List, [], ◌∷◌, Bool, true, false, not, ◌&&◌, ◌||◌, Some, is_none}
use Rattle.std.specs.List.{list_any}
use Rattle.std.specs.Option.{option_map_or}
use Rattle.rpg_cards.specs.Calculations.{CalculationGroup, alone, calculation_of, calculations_before, calculations_from, completed, group_ending, last_card, open_calculation_group}
use Rattle.rpg_cards.specs.Statements.{Calculation, Statement, statement_of}
use Rattle.rpg_cards.specs.Keys.{Key}
use Rattle.rpg_cards.specs.Labels.{begins_subroutine, brackets, ends, is_begsr, is_endsr, is_inside_subroutine}
use Rattle.rpg_cards.specs.Sections.{is_subroutine}
use Rattle.rpg_cards.specs.Cards.{calculation_on, calculation_specs_in}
use Rattle.rpg_cards.specs.Groups.{joins}
use Rattle.rpg_cards.specs.declared.spec_card.SpecCard.{SpecCard}
use Rattle.rpg_sheet_specs.specs.declared.calculation.CalculationSpec.{CalculationSpec}
use Rattle.rpg_sheet_specs.specs.declared.calculation.ControlLevel.{ControlLevel}
use Rattle.rpg_sheet_specs.specs.declared.calculation.ControlLevel.TheVariants as control

-- the order of the sections
abbrev pub section_rank : ControlLevel → ℕ
section_rank (control.Total i) = 1
section_rank control.Subroutine = 2
section_rank _ = 0

-- a section that comes before that of an earlier card
abbrev pub is_early : List SpecCard → CalculationSpec → Bool
is_early before k = list_any (λ (j : CalculationSpec). nat_lt (section_rank k.control_level) (section_rank j.control_level)) (calculation_specs_in before)

-- BEGSR or ENDSR
abbrev pub is_bracket : Statement Key → Bool
is_bracket d = is_begsr d || is_endsr d

-- a group with SR in columns 7 and 8 outside all subroutines, whose operation is neither BEGSR nor ENDSR
abbrev pub is_outside_subroutine : List (Calculation Key) → CalculationGroup → Bool
is_outside_subroutine before g = is_subroutine g.first.control_level && (not (is_bracket (statement_of (last_card g))) && not (is_inside_subroutine before))

-- on the first card of a group
abbrev pub misplaces_group : List SpecCard → SpecCard → CalculationSpec → List SpecCard → Bool
misplaces_group before c k after = is_early before k || is_outside_subroutine (calculations_before before (c ∷ after)) (completed (alone k) after)

-- an AN or OR card without a C card right before it; any other card begins a group
abbrev pub breaks_group : Bool → List SpecCard → SpecCard → CalculationSpec → List SpecCard → Bool
breaks_group true before c k after = is_none (open_calculation_group before)
breaks_group false before c k after = misplaces_group before c k after

-- the next BEGSR or ENDSR is an ENDSR
abbrev pub is_closed : List (Calculation Key) → Bool
is_closed [] = false
is_closed (g ∷ gs) = ends g

-- BEGSR or ENDSR outside SR groups, ENDSR without BEGSR, or BEGSR without ENDSR
abbrev pub unpaired : List (Calculation Key) → Calculation Key → List (Calculation Key) → Bool
unpaired before g following =
    (is_bracket g.statement && not (is_subroutine g.control))
    || ((ends g && not (is_inside_subroutine before)) || (begins_subroutine g && not (is_closed (brackets following))))

-- the group that ends on the card has an unpaired BEGSR or ENDSR
abbrev pub breaks_calculation : List SpecCard → SpecCard → List SpecCard → CalculationGroup → Bool
breaks_calculation before c after g = unpaired (calculations_before before (c ∷ after)) (calculation_of g) (calculations_from (Some g) after [])

-- F12 of C cards
abbrev pub breaks_order : List SpecCard → SpecCard → List SpecCard → Bool
breaks_order before c after =
    option_map_or (λ k. breaks_group (joins k.control_level) before c k after) (calculation_on c.spec) false
    || option_map_or (breaks_calculation before c after) (group_ending before c after) false
