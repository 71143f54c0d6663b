-- F12 of calculation cards: which card is out of order, which BEGSR or ENDSR is unpaired, and the other card.
use Rattle.std.specs.Prelude.{ℕ, nat_lt, List, [], ◌∷◌, ◌++◌, Bool, true, false, not, ◌&&◌, Option, None, Some, is_some, option_and_then, if◌then◌else◌}
use Rattle.std.specs.Option.{option_map, option_map_or, option_or}
use Rattle.rpg_cards.specs.Calculations.{card_ending, group_end, open_calculation_group}
use Rattle.rpg_cards.specs.Cards.{calculation_on}
use Rattle.rpg_cards.specs.Statements.{statement_of}
use Rattle.rpg_cards.specs.Groups.{joins}
use Rattle.rpg_cards.specs.Labels.{defined_name, is_begsr, is_endsr}
use Rattle.rpg_cards.specs.Sections.{is_subroutine}
use Rattle.rpg_cards.specs.declared.labels.Named.{Named}
use Rattle.rpg_cards.specs.declared.spec_card.SpecCard.{SpecCard}
use Rattle.rpg_causes_flow.specs.declared.brackets.Bracket.{Bracket}
use Rattle.rpg_causes_flow.specs.declared.flow.Later.{Later}
use Rattle.rpg_causes_flow.specs.declared.order.OrderCause.{OrderCause}
use Rattle.rpg_causes_flow.specs.declared.order.OrderCause.TheVariants.{Early, NoBegsr, NoEndsr, Outside, OutsideSection, Unjoined}
use Rattle.rpg_causes_flow.specs.ByCard.{bracket_at, calculation_level, level_with}
use Rattle.rpg_faults_flow.specs.Order.{is_bracket, section_rank}
use Rattle.rpg_causes_flow.specs.ByCard.{level_of_group}
use Rattle.rpg_sheet_specs.specs.declared.calculation.CalculationSpec.{CalculationSpec}
use Rattle.rpg_sheet_specs.specs.declared.column_range.ColumnRange.{ColumnRange}
use Rattle.rpg_sheet_specs.specs.declared.column_range.ColumnRange.TheVariants as range
use Rattle.rpg_sheet_specs.specs.declared.calculation.ControlLevel.{ControlLevel}

-- ---- BEGSR and ENDSR of SR groups, by the cards on which their groups end

-- the one that ends on a card, after a group of that section
abbrev pub bracket_on : Option ControlLevel → SpecCard → List SpecCard → Option Bracket
bracket_on group c after = option_map (λ is_end. record { card = c.number; is_end = is_end }) (bracket_at group c after)

-- the last one among the front cards
abbrev pub last_bracket : Option ControlLevel → List SpecCard → List SpecCard → Option Bracket
last_bracket group [] after = None
last_bracket group (c ∷ cs) after = option_or (last_bracket (level_with group c) cs after) (bracket_on group c (cs ++ after))

-- the first one among these cards
abbrev pub next_bracket : Option ControlLevel → List SpecCard → Option Bracket
next_bracket group [] = None
next_bracket group (c ∷ cs) = option_or (bracket_on group c cs) (next_bracket (level_with group c) cs)

-- a BEGSR: a subroutine is open after it
abbrev pub opens : Option Bracket → Bool
opens b = option_map_or (λ (x : Bracket). not x.is_end) b false

-- an ENDSR: the subroutine before it is closed
abbrev pub closes : Option Bracket → Bool
closes b = option_map_or (λ (x : Bracket). x.is_end) b false

-- the card that it ends on
abbrev pub bracket_card : Option Bracket → Option ℕ
bracket_card b = option_map (λ (x : Bracket). x.card) b

-- ---- on the first card of a group

-- the card is of a section with a higher rank
abbrev pub if_above : ℕ → SpecCard → CalculationSpec → Option Later
if_above r c j = if nat_lt r (section_rank j.control_level) then Some (record { level = j.control_level; card = c.number }) else None

-- the first of the cards that is
abbrev pub first_above : ℕ → List SpecCard → Option Later
first_above r [] = None
first_above r (c ∷ cs) = option_or (option_and_then (if_above r c) (calculation_on c.spec)) (first_above r cs)

-- the first of the cards that is of a later section
abbrev pub first_later : ControlLevel → List SpecCard → Option OrderCause
first_later own cards = option_map (λ (l : Later). Early own l.level l.card) (first_above (section_rank own) cards)

-- SR in no subroutine, with the last BEGSR or ENDSR before
abbrev pub if_outside : CalculationSpec → List SpecCard → Option Bracket → Option OrderCause
if_outside k after last =
    if is_subroutine k.control_level && (not (is_bracket (statement_of (group_end k after))) && not (opens last)) then Some (Outside (bracket_card last)) else None

-- an AN or OR card that has no calculation right before it
abbrev pub unless_open : List SpecCard → Option OrderCause
unless_open before = if is_some (open_calculation_group before) then None else Some Unjoined

-- such a card, or the first card of a group that is in the wrong place
abbrev pub of_group : Bool → List SpecCard → SpecCard → CalculationSpec → List SpecCard → Option OrderCause
of_group true before c k after = unless_open before
of_group false before c k after = option_or (first_later k.control_level before) (if_outside k after (last_bracket None before (c ∷ after)))

-- on a card
abbrev pub first_card : List SpecCard → SpecCard → List SpecCard → CalculationSpec → Option OrderCause
first_card before c after k = of_group (joins k.control_level) before c k after

-- ---- on the last card of a group, which has the operation

-- BEGSR or ENDSR in another section
abbrev pub if_elsewhere : CalculationSpec → Option OrderCause
if_elsewhere k = if is_bracket (statement_of k) then Some (OutsideSection (is_endsr (statement_of k))) else None

-- ENDSR without BEGSR, with the last BEGSR or ENDSR before
abbrev pub if_unbegun : CalculationSpec → Option Bracket → Option OrderCause
if_unbegun k last = if is_endsr (statement_of k) && not (opens last) then Some (NoBegsr (bracket_card last)) else None

-- the name that a BEGSR defines
abbrev pub begun_name : CalculationSpec → Option (List ℕ)
begun_name k = option_map (λ (n : Named). n.name) (defined_name (statement_of k))

-- BEGSR without ENDSR, with the next BEGSR or ENDSR
abbrev pub if_unended : CalculationSpec → Option Bracket → Option OrderCause
if_unended k next = if is_begsr (statement_of k) && not (closes next) then Some (NoEndsr (begun_name k) (bracket_card next)) else None

-- of a group of that section
abbrev pub of_section : ControlLevel → List SpecCard → SpecCard → List SpecCard → CalculationSpec → Option OrderCause
of_section level before c after k =
    if is_subroutine level then option_or (if_unbegun k (last_bracket None before (c ∷ after))) (if_unended k (next_bracket (Some level) after))
    else if_elsewhere k

-- of the group that ends on the card
abbrev pub of_end : List SpecCard → SpecCard → List SpecCard → CalculationSpec → Option OrderCause
of_end before c after k = of_section (calculation_level (level_of_group (open_calculation_group before)) k) before c after k

-- ---- F12 of C cards

-- why a C card is out of order
abbrev pub order_cause : List SpecCard → SpecCard → List SpecCard → Option OrderCause
order_cause before c after =
    option_or (option_and_then (first_card before c after) (calculation_on c.spec))
    (option_and_then (of_end before c after) (card_ending c after))

-- the columns of a calculation that is out of order: BEGSR or ENDSR, otherwise those of the section or of AN and OR
abbrev pub bracket_range : CalculationSpec → ColumnRange
bracket_range k = if is_bracket (statement_of k) then range.Operation else range.ControlLevel

-- those of a card, if it is a C card
abbrev pub order_range : SpecCard → Option ColumnRange
order_range c = option_map bracket_range (calculation_on c.spec)
