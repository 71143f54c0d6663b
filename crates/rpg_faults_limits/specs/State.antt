-- The state that is kept of the cards before a card.
use Rattle.std.specs.Prelude.{◌≡◌, ℕ, ◌*◌, ◌≤◌, Bool, false, List, ◌++◌, length, MatchOption, Option, is_some}
use Rattle.std.specs.Option.{option_map_or}
use Rattle.rpg_cards.specs.Calculations as calculations
use Rattle.rpg_cards.specs.Calculations.{calculations_before}
use Rattle.rpg_cards.specs.Labels.{begun_count}
use Rattle.rpg_cards.specs.Sections.{is_subroutine}
use Rattle.rpg_cards.specs.Constants.{constants_in}
use Rattle.rpg_cards.specs.Groups.{Group, input_role, open_group, output_role}
use Rattle.rpg_cards.specs.Names.{definitions}
use Rattle.rpg_cards.specs.declared.spec_card.SpecCard.{SpecCard}
use Rattle.rpg_faults_limits.specs.Limits.{alternative_count, bytes_up_to, calculation_count, code_count, condition_count, field_count, fields_up_to, in_open, level_count, output_field_count}
use Rattle.rpg_faults_limits.specs.declared.calculations.Calculations.{Calculations}
use Rattle.rpg_faults_limits.specs.declared.lines.OpenLine.{OpenLine}
use Rattle.rpg_faults_limits.specs.declared.state.Limits.{Limits}
use Rattle.rpg_faults_limits.specs.declared.items.Items.{Items}
use Rattle.rpg_faults_limits.specs.declared.types.OpenType.{OpenType}
use Rattle.rpg_sheet_specs.specs.declared.input.InputSpec.{InputSpec}
use Rattle.rpg_sheet_specs.specs.declared.input.RecordType.{RecordType}
use Rattle.rpg_sheet_specs.specs.declared.output.OutputRecord.{OutputRecord}
use Rattle.rpg_sheet_specs.specs.declared.output.OutputSpec.{OutputSpec}

-- ---- the open record type, and the open line

-- the counts are those of the open record type, all 0 if none is open
pub record IsOpenType (g : Option (Group RecordType InputSpec)) (t : OpenType) : Type 0 where
  pub is_open : t.is_open ≡ is_some g
  pub codes : t.codes ≡ in_open code_count g
  pub levels : t.levels ≡ in_open level_count g
  pub fields : t.fields ≡ in_open field_count g

-- the counts are those of the open line, all 0 if none is open
pub record IsOpenLine (g : Option (Group OutputRecord OutputSpec)) (l : OpenLine) : Type 0 where
  pub is_open : l.is_open ≡ is_some g
  pub alternatives : l.alternatives ≡ in_open alternative_count g
  pub conditions : l.conditions ≡ in_open condition_count g
  pub fields : l.fields ≡ in_open output_field_count g

-- of at most this many cards
pub record HasFewOnType (n : ℕ) (t : OpenType) : Type 0 where
  pub codes : t.codes ≤ 3 * n
  pub levels : t.levels ≤ n
  pub fields : t.fields ≤ n

-- the counts are at most those that n cards can have
pub record HasFewOnLine (n : ℕ) (l : OpenLine) : Type 0 where
  pub alternatives : l.alternatives ≤ n
  pub conditions : l.conditions ≤ 3 * n
  pub fields : l.fields ≤ n

-- ---- calculations

-- a group of an SR card
abbrev pub is_of_subroutine : calculations.CalculationGroup → Bool
is_of_subroutine g = is_subroutine g.first.control_level

-- there is a group, and it is of an SR card
abbrev pub is_open_subroutine : Option calculations.CalculationGroup → Bool
is_open_subroutine o = option_map_or is_of_subroutine o false

-- the group of the previous card is of an SR card
abbrev pub is_in_subroutine : List SpecCard → Bool
is_in_subroutine before = is_open_subroutine (calculations.open_calculation_group before)

-- the counts are those of the C cards before
pub record AreCalculations (before rest : List SpecCard) (k : Calculations) : Type 0 where
  pub cards : k.cards ≡ calculation_count before
  pub subroutines : k.subroutines ≡ begun_count (calculations_before before rest)
  pub is_subroutine : k.is_subroutine ≡ is_in_subroutine before
  pub few_cards : k.cards ≤ length before
  pub few_subroutines : k.subroutines ≤ length before

-- ---- names and constants

-- the counts are those of the definitions and of the constants of the cards before
pub record AreItems (before : List SpecCard) (s : Items) : Type 0 where
  pub names : s.names ≡ length (definitions before)
  pub constants : s.constants ≡ length (constants_in before)

-- a source begins with these cards
abbrev pub BeginsWith : List SpecCard → List SpecCard → Type 0
BeginsWith cards front = (back : List SpecCard) × (cards ≡ front ++ back)

-- all names and constants are within the limits
pub record KeepsStorage (cards : List SpecCard) : Type 0 where
  pub fields : fields_up_to cards cards ≤ 4000
  pub bytes : bytes_up_to cards cards ≤ 65535

-- the counts of the cards before; None only if the whole source is within the limits
abbrev pub AreItemsOrKept : List SpecCard → List SpecCard → Option Items → Type 0
AreItemsOrKept cards before items = MatchOption items (KeepsStorage cards) (λ counted. AreItems before counted)

-- ---- the whole state before a card, which is the first of the rest

-- what is counted of the cards before a card is right
pub record AreLimits (cards before rest : List SpecCard) (l : Limits) : Type 0 where
  pub items : AreItemsOrKept cards before l.items
  pub calculations : AreCalculations before rest l.calculations
  pub open_type : IsOpenType (open_group input_role before) l.open_type
  pub open_line : IsOpenLine (open_group output_role before) l.open_line
  pub few_on_type : HasFewOnType (length before) l.open_type
  pub few_on_line : HasFewOnLine (length before) l.open_line
