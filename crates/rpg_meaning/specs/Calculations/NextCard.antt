-- The number of the next card, from the running part and which of its calculations is next.
use Rattle.std.specs.Prelude.{◌≡◌, ℕ, ◌<◌, false, ◌&&◌, List, [], ◌∷◌, ◌++◌, Option, None, Some, is_some, slice_get, if◌then◌else◌}
use Rattle.std.specs.List.{filter}
use Rattle.std.specs.Option.{option_map, option_map_or, option_to_list}
use Rattle.rpg_cards.specs.Calculations.{CalculationGroup, alone, calculation_of, completed, continues, joined_group, open_calculation_group}
use Rattle.rpg_cards.specs.Statements.{Calculation}
use Rattle.rpg_cards.specs.Keys.{Key, Name}
use Rattle.rpg_cards.specs.Sections.{begun_by, is_detail, is_same_name, is_subroutine, is_total}
use Rattle.rpg_cards.specs.Cards.{calculation_on}
use Rattle.rpg_cards.specs.Groups.{joins}
use Rattle.rpg_cards.specs.declared.spec_card.SpecCard.{SpecCard}
use Rattle.rpg_meaning.specs.Calculations.Parts.{InDetail, InSubroutine, InTotal, Part, calculations_in}
use Rattle.rpg_sheet_specs.specs.declared.calculation.CalculationSpec.{CalculationSpec}
use Rattle.rpg_compile_program.specs.Program.{sections}

-- ---- all calculations, with the numbers of their first cards

-- the group that a card belongs to
abbrev pub numbered_group : Option (ℕ × CalculationGroup) → ℕ → CalculationSpec → ℕ × CalculationGroup
numbered_group None number k = (number, alone k)
numbered_group (Some e) number k = if joins k.control_level then (e.0, joined_group e.1 k) else (number, alone k)

-- the open group with its first card's number, after a card
abbrev pub open_at : Option (ℕ × CalculationGroup) → SpecCard → Option (ℕ × CalculationGroup)
open_at o c = option_map (numbered_group o c.number) (calculation_on c.spec)

-- a calculation with the number of its first card
abbrev pub numbered_calculation : ℕ × CalculationGroup → ℕ × Calculation Key
numbered_calculation e = (e.0, calculation_of e.1)

-- the calculations on these cards, each with the number of its first card
abbrev pub numbered_from : Option (ℕ × CalculationGroup) → List SpecCard → List (ℕ × Calculation Key)
numbered_from o [] = []
numbered_from o (c ∷ cs) = option_to_list (option_map numbered_calculation (if continues cs then None else open_at o c)) ++ numbered_from (open_at o c) cs

-- ---- those of a part

-- the calculations before the next BEGSR
abbrev pub up_to_next : List (ℕ × Calculation Key) → List (ℕ × Calculation Key)
up_to_next [] = []
up_to_next (e ∷ es) = if is_some (begun_by e.1.statement) then [] else e ∷ up_to_next es

-- after the BEGSR of a name
abbrev pub after_begsr : Option Name → List (ℕ × Calculation Key) → List (ℕ × Calculation Key)
after_begsr name [] = []
after_begsr name (e ∷ es) = if option_map_or (is_same_name name) (begun_by e.1.statement) false then up_to_next es else after_begsr name es

-- the calculations of a section
abbrev pub those_in : Part → List (ℕ × Calculation Key) → List (ℕ × Calculation Key)
those_in InDetail es = filter (λ e. is_detail e.1.control) es
those_in InTotal es = filter (λ e. is_total e.1.control) es
those_in (InSubroutine name) es = after_begsr name (filter (λ e. is_subroutine e.1.control) es)

-- ---- the number

-- the number of the card that the n-th calculation of a part begins on
abbrev pub card_number : List SpecCard → Part → ℕ → Option ℕ
card_number cards part n = option_map (λ e. e.0) (slice_get (those_in part (numbered_from None cards)) n)

-- ---- laws

-- the calculation is that of a card and the AN and OR cards right after it
pub record BeginsOn (cards : List SpecCard) (g : Calculation Key) (number : Option ℕ) : Type 0 where
  pub before : List SpecCard
  pub card : SpecCard
  pub after : List SpecCard
  pub first : CalculationSpec
  pub split : cards ≡ before ++ card ∷ after
  pub is : calculation_on card.spec ≡ Some first
  pub begins : (joins first.control_level && is_some (open_calculation_group before)) ≡ false
  pub whole : calculation_of (completed (alone first) after) ≡ g
  pub reported : number ≡ Some card.number

-- the number is that of the calculation's first card
abbrev pub NumbersAreTheirs : List SpecCard → Type 0
NumbersAreTheirs cards = (part : Part) (n : ℕ) (g : Calculation Key) → slice_get (calculations_in (sections cards) part) n ≡ Some g → BeginsOn cards g (card_number cards part n)

-- an earlier calculation of a part begins on an earlier card
abbrev pub NumbersGoUp : List SpecCard → Type 0
NumbersGoUp cards = (part : Part) (m n a b : ℕ) → m < n → card_number cards part m ≡ Some a → card_number cards part n ≡ Some b → a < b
