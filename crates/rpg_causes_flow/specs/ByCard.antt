-- Groups, BEGSR and ENDSR of a card, given the group that the card right before it belongs to.
use Rattle.std.specs.Prelude.{List, Bool, false, not, ◌&&◌, ◌||◌, Option, None, Some, if◌then◌else◌}
use Rattle.std.specs.Option.{option_and_then, option_map, option_map_or}
use Rattle.rpg_cards.specs.Calculations.{CalculationGroup, calculations, card_ending}
use Rattle.rpg_cards.specs.Statements.{Calculation, statement_of}
use Rattle.rpg_cards.specs.Keys.{Key}
use Rattle.rpg_cards.specs.Labels.{begins_subroutine, ends, is_endsr, labels, target_name}
use Rattle.rpg_cards.specs.declared.labels.Label.{Label}
use Rattle.rpg_cards.specs.Sections.{is_subroutine}
use Rattle.rpg_cards.specs.Cards.{calculation_on}
use Rattle.rpg_cards.specs.Groups.{joins}
use Rattle.rpg_cards.specs.declared.spec_card.SpecCard.{SpecCard}
use Rattle.rpg_faults_flow.specs.Flow.{is_given_as}
use Rattle.rpg_faults_flow.specs.Order.{is_bracket}
use Rattle.rpg_sheet_specs.specs.declared.calculation.CalculationSpec.{CalculationSpec}
use Rattle.rpg_sheet_specs.specs.declared.calculation.ControlLevel.{ControlLevel}

-- ---- the group that a card belongs to

-- columns 7 and 8 of a group's first card
abbrev pub level_of_group : Option CalculationGroup → Option ControlLevel
level_of_group o = option_map (λ g. g.first.control_level) o

-- columns 7 and 8 of the first card of the group that the card belongs to
abbrev pub calculation_level : Option ControlLevel → CalculationSpec → ControlLevel
calculation_level None k = k.control_level
calculation_level (Some level) k = if joins k.control_level then level else k.control_level

-- with one more card
abbrev pub level_with : Option ControlLevel → SpecCard → Option ControlLevel
level_with group c = option_map (calculation_level group) (calculation_on c.spec)

-- ---- BEGSR and ENDSR of SR cards

-- whether it is an ENDSR, or otherwise a BEGSR
abbrev pub bracket_of : Calculation Key → Option Bool
bracket_of g = if begins_subroutine g || ends g then Some (ends g) else None

-- whether a BEGSR or ENDSR of an SR group is ENDSR; none for any other card
abbrev pub bracket_in : ControlLevel → CalculationSpec → Option Bool
bracket_in level k = if is_subroutine level && is_bracket (statement_of k) then Some (is_endsr (statement_of k)) else None

-- likewise for the card with the operation, if a group ends on the card
abbrev pub bracket_at : Option ControlLevel → SpecCard → List SpecCard → Option Bool
bracket_at group c after = option_and_then (λ k. bracket_in (calculation_level group k) k) (card_ending c after)

-- ---- F10

-- all labels and subroutines of a source
abbrev pub labels_in : List SpecCard → List Label
labels_in cards = labels (calculations cards)

-- F10 of a calculation: its GOTO or EXSR names an undefined label or subroutine
abbrev pub calculation_lacks_label : List SpecCard → CalculationSpec → Bool
calculation_lacks_label cards k = option_map_or (λ n. not (is_given_as (labels_in cards) n)) (target_name (statement_of k)) false
