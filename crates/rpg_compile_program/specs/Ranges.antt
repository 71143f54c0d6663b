-- The ranges of the values on cards, whatever faults they have: what the sheets allow in their columns.
use Rattle.std.specs.Prelude.{◌≡◌, ℕ, ◌≤◌, List, length, Option, IsTrue}
use Rattle.std.specs.List.{list_all}
use Rattle.std.specs.Option.{ForSome}
use Rattle.rpg_cards.specs.Plain.{Each}
use Rattle.rpg_cards.specs.Constants.{IsConstant, constant_of}
use Rattle.rpg_cards.specs.declared.constants.Constant.TheVariants.{Text}
use Rattle.rpg_cards.specs.declared.spec_card.SpecCard.{SpecCard}
use Rattle.rpg_program.specs.Kept.{IsCharacter, IsIndicator, IsOverflowIndicator}
use Rattle.rpg_sheet_specs.specs.declared.calculation.CalculationSpec.{CalculationSpec}
use Rattle.rpg_sheet_specs.specs.declared.calculation.ControlLevel.{ControlLevel}
use Rattle.rpg_sheet_specs.specs.declared.calculation.ControlLevel.TheVariants as control
use Rattle.rpg_sheet_specs.specs.declared.data.DataSpec.{DataSpec}
use Rattle.rpg_sheet_specs.specs.declared.data.DataSpec.TheVariants as deck
use Rattle.rpg_sheet_specs.specs.declared.indicator.ConditionSpec.{ConditionSpec}
use Rattle.rpg_sheet_specs.specs.declared.indicator.Three.{Three}
use Rattle.rpg_sheet_specs.specs.declared.input.InputFieldSpec.{InputFieldSpec}
use Rattle.rpg_sheet_specs.specs.declared.input.InputSpec.{InputSpec}
use Rattle.rpg_sheet_specs.specs.declared.input.InputSpec.TheVariants as input
use Rattle.rpg_sheet_specs.specs.declared.input.RecordCode.{RecordCode}
use Rattle.rpg_sheet_specs.specs.declared.input.RecordType.{RecordType}
use Rattle.rpg_sheet_specs.specs.declared.literal.Factor.{Factor}
use Rattle.rpg_sheet_specs.specs.declared.literal.Factor.TheVariants as factor
use Rattle.rpg_sheet_specs.specs.declared.form.FormSpec.{FormSpec}
use Rattle.rpg_sheet_specs.specs.declared.output.Movement.{Movement}
use Rattle.rpg_sheet_specs.specs.declared.output.OutputField.{OutputField}
use Rattle.rpg_sheet_specs.specs.declared.output.OutputRecord.{OutputRecord}
use Rattle.rpg_sheet_specs.specs.declared.output.OutputSpec.{OutputSpec}
use Rattle.rpg_sheet_specs.specs.declared.output.OutputSpec.TheVariants as output
use Rattle.rpg_sheet_specs.specs.declared.spec.Spec.{Spec}
use Rattle.rpg_sheet_specs.specs.declared.spec.Spec.TheVariants as spec
use Rattle.rpg_text.specs.Texts.{is_character}

-- each of three that is present
pub record InThree {X : Type 0} (P : X → Type 0) (t : Three (Option X)) : Type 0 where
  pub first : ForSome t.first P
  pub second : ForSome t.second P
  pub third : ForSome t.third P

-- a condition with an indicator in range
abbrev pub IsCondition : ConditionSpec → Type 0
IsCondition c = IsIndicator c.indicator

-- ---- I cards

-- a record code of a character
abbrev pub IsCode : RecordCode → Type 0
IsCode c = IsCharacter c.character

-- L1 to L9, M1 to M9
abbrev pub IsFieldLevel : ℕ → Type 0
IsFieldLevel n = (1 ≤ n) × (n ≤ 9)

-- a record type card with indicators and codes in range
pub record IsType (t : RecordType) : Type 0 where
  pub indicator : ForSome t.indicator IsIndicator
  pub codes : InThree IsCode t.codes

-- an input field with levels and indicators in range
pub record IsInputField (f : InputFieldSpec) : Type 0 where
  pub level : ForSome f.level IsFieldLevel
  pub match_level : ForSome f.match_level IsFieldLevel
  pub indicators : InThree IsIndicator f.indicators

-- an I card in range
abbrev pub IsInput : InputSpec → Type 0
IsInput (input.Type t) = IsType t
IsInput (input.And codes) = InThree IsCode codes
IsInput (input.Field f) = IsInputField f

-- ---- L cards

-- a page of 3 to 112 lines
pub record IsForm (f : FormSpec) : Type 0 where
  pub shortest : 3 ≤ f.lines
  pub longest : f.lines ≤ 112
  pub first : 1 ≤ f.overflow_line

-- ---- C cards

-- L0 to L9, LR
abbrev pub IsControl : ControlLevel → Type 0
IsControl (control.Total n) = (100 ≤ n) × (n ≤ 110)
IsControl _ = Unit {0}

-- a factor whose literal is in range
abbrev pub IsFactor : Factor → Type 0
IsFactor (factor.Entry e) = Unit {0}
IsFactor (factor.Literal l) = IsConstant (constant_of l)

-- a C card in range
pub record IsCalculation (k : CalculationSpec) : Type 0 where
  pub control : IsControl k.control_level
  pub conditions : InThree IsCondition k.conditions
  pub factor_1 : ForSome k.factor_1 IsFactor
  pub factor_2 : ForSome k.factor_2 IsFactor
  pub indicators : InThree IsIndicator k.resulting_indicators

-- ---- O cards

-- at most three lines are spaced
abbrev pub IsSpace : ℕ → Type 0
IsSpace n = n ≤ 3

-- spaces in range
pub record IsMovement (m : Movement) : Type 0 where
  pub space_before : ForSome m.space_before IsSpace
  pub space_after : ForSome m.space_after IsSpace

-- a record card of a line in range
pub record IsLine (r : OutputRecord) : Type 0 where
  pub movement : IsMovement r.movement
  pub conditions : InThree IsCondition r.conditions

-- a text constant in range
abbrev pub IsConstantText : List ℕ → Type 0
IsConstantText text = IsConstant (Text text)

-- an output field in range
pub record IsOutputField (f : OutputField) : Type 0 where
  pub conditions : InThree IsCondition f.conditions
  pub text : ForSome f.text IsConstantText

-- an O card in range
abbrev pub IsOutput : OutputSpec → Type 0
IsOutput (output.Record r) = IsLine r
IsOutput (output.And t) = InThree IsCondition t
IsOutput (output.Or t) = InThree IsCondition t
IsOutput (output.Field f) = IsOutputField f

-- ---- data

-- 80 columns of characters
pub record IsDataText (text : List ℕ) : Type 0 where
  pub columns : length text ≡ 80
  pub characters : IsTrue (list_all is_character text)

-- a card of data, or the `**` card before it
abbrev pub IsData : DataSpec → Type 0
IsData deck.Begin = Unit {0}
IsData (deck.Card text) = IsDataText text

-- ---- cards

-- a card of any sheet in range
abbrev pub IsInRange : Spec → Type 0
IsInRange (spec.File f) = ForSome f.overflow IsOverflowIndicator
IsInRange (spec.Form f) = IsForm f
IsInRange (spec.Input i) = IsInput i
IsInRange (spec.Calculation k) = IsCalculation k
IsInRange (spec.Output o) = IsOutput o
IsInRange (spec.Data d) = IsData d
IsInRange _ = Unit {0}

-- a card in range
abbrev pub IsCard : SpecCard → Type 0
IsCard c = IsInRange c.spec

-- all cards are in range
abbrev pub AreCards : List SpecCard → Type 0
AreCards cards = Each IsCard cards
