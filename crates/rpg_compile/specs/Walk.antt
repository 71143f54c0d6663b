-- Groups of C cards, one after another.
use Rattle.std.specs.Prelude.{◌≡◌, ℕ, suc, ◌+◌, ◌<◌, length, Bool, false, List, [], ◌∷◌, Option, None, Some, drop, if◌then◌else◌}
use Rattle.rpg_cards.specs.Calculations.{CalculationGroup, awaited_level, calculation_of, calculations, continues, last_card}
use Rattle.rpg_cards.specs.Statements.{Calculation, Statement}
use Rattle.rpg_cards.specs.Keys.{Key, Name}
use Rattle.rpg_cards.specs.Labels.{is_begsr}
use Rattle.rpg_cards.specs.Sections.{Subroutine, is_detail, is_subroutine, is_total, of_control, subroutines_of, up_to_begin}
use Rattle.rpg_cards.specs.Cards.{calculation_on, calculation_specs_in}
use Rattle.rpg_cards.specs.declared.spec_card.SpecCard.{SpecCard}
use Rattle.rpg_compile_program.specs.Code.{waits}
use Rattle.rpg_compile.specs.Tests.{tests_in}
use Rattle.rpg_compile.specs.declared.part.Part.{Part}
use Rattle.rpg_compile.specs.declared.part.Part.TheVariants.{Detail, Total, Body}
use Rattle.rpg_sheet_specs.specs.declared.calculation.CalculationSpec.{CalculationSpec}
use Rattle.rpg_sheet_specs.specs.declared.calculation.ControlLevel.{ControlLevel}

-- ---- groups

-- the first card, if it is a C card
abbrev pub first_calculation : List SpecCard → Option CalculationSpec
first_calculation [] = None
first_calculation (c ∷ cs) = calculation_on c.spec

-- how many AN and OR cards come first
abbrev pub joining : List SpecCard → ℕ
joining [] = 0
joining (c ∷ cs) = if continues (c ∷ cs) then suc (joining cs) else 0

-- the group of these cards, with its first card
abbrev pub group_of : CalculationSpec → List SpecCard → CalculationGroup
group_of first cards = record { first = first; followers = calculation_specs_in (drop 1 cards) }

-- the first and the last card of the group that these cards begin with
pub record IsGroup (first last : CalculationSpec) (cards : List SpecCard) : Type 0 where
  pub first_is : first_calculation cards ≡ Some first
  pub last_is : last ≡ last_card (group_of first cards)

-- ---- sections

-- what the first card of a section's group has in columns 7 and 8
abbrev pub belongs : Part → ControlLevel → Bool
belongs Detail level = is_detail level
belongs Total level = is_total level
belongs Body level = is_subroutine level

-- a subroutine's section ends before the next BEGSR
abbrev pub ends_before : Part → Statement Key → Bool
ends_before Detail d = false
ends_before Total d = false
ends_before Body d = is_begsr d

-- the groups of a section; for a subroutine those up to the next BEGSR
abbrev pub part_cards : Part → List (Calculation Key) → List (Calculation Key)
part_cards Detail gs = gs
part_cards Total gs = gs
part_cards Body gs = up_to_begin gs

-- the calculations of a section, from the cards where it begins
abbrev pub section_in : Part → List SpecCard → List (Calculation Key)
section_in part cards = part_cards part (of_control (belongs part) (calculations cards))

-- the subroutines of these cards
abbrev pub subroutines_in : List SpecCard → List (Subroutine Key)
subroutines_in cards = subroutines_of (of_control is_subroutine (calculations cards))

-- ---- one after the other

-- what the cards have begins with this, and the rest, which are fewer cards, have the others
abbrev pub HasNext : {X : Type 0} → (List SpecCard → List X) → List SpecCard → X → List SpecCard → Type 0
HasNext had cards next rest = (had cards ≡ next ∷ had rest) × (length rest < length cards)

-- the next group of these cards, and the cards after it
abbrev pub IsNextGroup : List SpecCard → CalculationGroup → List SpecCard → Type 0
IsNextGroup cards g rest = HasNext calculations cards (calculation_of g) rest

-- the next group of a section, and the cards after it
abbrev pub IsNextInPart : Part → List SpecCard → CalculationGroup → List SpecCard → Type 0
IsNextInPart part cards g rest = HasNext (section_in part) cards (calculation_of g) rest

-- the subroutine of that name, from the cards after its BEGSR
abbrev pub subroutine_after : Option Name → List SpecCard → Subroutine Key
subroutine_after name cards = record { name = name; body = section_in Body cards }

-- the name of the next subroutine, and the cards after its BEGSR
abbrev pub IsNextSubroutine : List SpecCard → Option Name → List SpecCard → Type 0
IsNextSubroutine cards name rest = HasNext subroutines_in cards (subroutine_after name rest) rest

-- ---- sizes

-- how many instructions a group compiles to, if its operation has one
abbrev pub size_with : CalculationSpec → List SpecCard → ℕ
size_with first cards = waits (awaited_level first.control_level) + length (tests_in cards) + 1
