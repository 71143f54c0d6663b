-- F10, F11, F13, F14: labels and subroutines that are named, with the cards that give them.
use Rattle.std.specs.Prelude.{ℕ, List, [], ◌∷◌, ◌++◌, Bool, Option, None, Some, is_some, nat_eq, option_and_then, if◌then◌else◌}
use Rattle.std.specs.Cmp.Lexicographic.{pointwise}
use Rattle.std.specs.List.{list_any}
use Rattle.std.specs.Option.{option_map, option_map_or, option_or}
use Rattle.rpg_cards.specs.Calculations.{calculations_before, card_ending}
use Rattle.rpg_cards.specs.Statements.{statement_of}
use Rattle.rpg_cards.specs.Labels.{defined_name, label_named, labels, target_name}
use Rattle.rpg_cards.specs.Names.{definitions_on, given_names, is_of}
use Rattle.rpg_cards.specs.declared.labels.Named.{Named}
use Rattle.rpg_cards.specs.declared.names.Definition.{Definition}
use Rattle.rpg_cards.specs.declared.spec_card.SpecCard.{SpecCard}
use Rattle.rpg_causes_operands.specs.Names.{first_defining, first_some}
use Rattle.rpg_causes_flow.specs.declared.labels.Giver.{Giver}
use Rattle.rpg_causes_flow.specs.declared.labels.NowhereCause.{NowhereCause}
use Rattle.rpg_causes_flow.specs.declared.labels.NowhereCause.TheVariants.{Absent, Other}
use Rattle.rpg_causes_flow.specs.declared.labels.Target.{Target}
use Rattle.rpg_causes_flow.specs.declared.labels.TwiceCause.{TwiceCause}
use Rattle.rpg_causes_flow.specs.declared.labels.TwiceFault.{TwiceFault}
use Rattle.rpg_causes_flow.specs.declared.labels.TwiceCause.TheVariants.{EveryProgram, Field, Given}
use Rattle.rpg_faults_flow.specs.Flow.{alike, calls_itself, leaves_its_section}
use Rattle.rpg_sheet_specs.specs.declared.calculation.CalculationSpec.{CalculationSpec}
use Rattle.rpg_sheet_specs.specs.declared.column_range.ColumnRange.{ColumnRange}
use Rattle.rpg_sheet_specs.specs.declared.column_range.ColumnRange.TheVariants as range

-- ---- the card that defines a name

-- the name that the calculation that ends on a card defines
abbrev pub name_given_on : SpecCard → List SpecCard → Option Named
name_given_on c after = option_and_then (λ k. defined_name (statement_of k)) (card_ending c after)

-- the card as the giver, if it is that name
abbrev pub giver_if : List ℕ → ℕ → Named → Option Giver
giver_if name card n = if pointwise nat_eq name n.name then Some (record { card = card; is_subroutine = n.is_subroutine }) else None

-- the first of the front cards that defines the name, given those after it
abbrev pub giver : List ℕ → List SpecCard → List SpecCard → Option Giver
giver name [] after = None
giver name (c ∷ cs) after = option_or (option_and_then (giver_if name c.number) (name_given_on c (cs ++ after))) (giver name cs after)

-- ---- F10: GOTO a label, EXSR a subroutine

-- defined as the other of the two
abbrev pub unless_alike : Named → Giver → Option NowhereCause
unless_alike n g = if alike g.is_subroutine n.is_subroutine then None else Some (Other n.name g)

-- a name that isn't defined as required
abbrev pub of_wanted : List SpecCard → Named → Option NowhereCause
of_wanted cards n = option_map_or (unless_alike n) (giver n.name cards []) (Some (Absent n))

-- F10 of a calculation
abbrev pub of_target : List SpecCard → CalculationSpec → Option NowhereCause
of_target cards k = option_and_then (of_wanted cards) (target_name (statement_of k))

-- F10 of a card
abbrev pub nowhere_cause : List SpecCard → SpecCard → List SpecCard → Option NowhereCause
nowhere_cause cards c after = option_and_then (of_target cards) (card_ending c after)

-- ---- F11: at the later of the two cards

-- a name that is a label or a subroutine before the card
abbrev pub if_given : List SpecCard → SpecCard → List SpecCard → List ℕ → Option TwiceCause
if_given before c after name = option_map (Given name) (giver name before (c ∷ after))

-- a name that is a field: one that every program has, or one that these cards define
abbrev pub if_names_field : List SpecCard → List ℕ → Option TwiceCause
if_names_field cards name = if list_any (is_of name) given_names then Some (EveryProgram name) else option_map (Field name) (first_defining name cards)

-- a label or a subroutine whose name is already defined, or is a field by then
abbrev pub of_given : List SpecCard → SpecCard → List SpecCard → Named → Option TwiceCause
of_given before c after n = option_or (if_given before c after n.name) (if_names_field (before ++ c ∷ []) n.name)

-- a field whose name is a label's or a subroutine's before
abbrev pub of_definition : List SpecCard → SpecCard → List SpecCard → Definition → Option TwiceCause
of_definition before c after d = if_given before c after d.name

-- one of these has a name that a label or a subroutine already has
abbrev pub any_given : List SpecCard → SpecCard → List SpecCard → List Definition → Bool
any_given before c after ds = list_any (λ (d : Definition). is_some (label_named d.name (labels (calculations_before before (c ∷ after))))) ds

-- a cause, with its columns
abbrev pub twice_at : ColumnRange → TwiceCause → TwiceFault
twice_at at cause = record { at = at; cause = cause }

-- F11 of a card: the label or the subroutine that it defines, otherwise a field that is already one
abbrev pub twice : List SpecCard → SpecCard → List SpecCard → Option TwiceFault
twice before c after =
    option_or (option_map (twice_at range.FirstFactor) (option_and_then (of_given before c after) (name_given_on c after)))
    (option_map (twice_at range.ResultName) (first_some (of_definition before c after) (definitions_on c.spec)))

-- ---- F13, F14: the label or the subroutine that a card names

-- a name that is referred to, with the card that defines it
abbrev pub target_by : List SpecCard → Named → Option Target
target_by cards n = option_map (λ (g : Giver). record { name = n.name; card = g.card }) (giver n.name cards [])

-- that of a GOTO or EXSR
abbrev pub target_of : List SpecCard → CalculationSpec → Option Target
target_of cards k = option_and_then (target_by cards) (target_name (statement_of k))

-- that of a card
abbrev pub card_target : List SpecCard → SpecCard → List SpecCard → Option Target
card_target cards c after = option_and_then (target_of cards) (card_ending c after)

-- F13: the label that the calculation goes to, if that is in another section
abbrev pub apart : List SpecCard → List SpecCard → SpecCard → List SpecCard → Option Target
apart cards before c after = if leaves_its_section cards before c after then card_target cards c after else None

-- F14: the subroutine that the calculation calls, if that one reaches the one it is in
abbrev pub recursion : List SpecCard → List SpecCard → SpecCard → List SpecCard → Option Target
recursion cards before c after = if calls_itself cards before c after then card_target cards c after else None
