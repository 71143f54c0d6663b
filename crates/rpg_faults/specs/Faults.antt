-- The faults of a source without sheet faults, as a set of pairs, and the first of them.
use Rattle.std.specs.Prelude.{◌≡◌, ℕ, ◌<◌, ◌≤◌, ◌⊎◌, true, List, [], ◌∷◌, ◌++◌, Option, None, Some, find, if◌then◌else◌}
use Rattle.std.specs.Option.{option_map, option_or}
use Rattle.rpg_cards.specs.declared.spec_card.SpecCard.{SpecCard}
use Rattle.rpg_faults.specs.declared.code.FaultCode.{FaultCode}
use Rattle.rpg_faults.specs.declared.code.FaultCode.TheVariants.{F1, F2, F3, F4, F5, F6, F7, F8, F9, F10, F11, F12, F13, F14, F15, F16, F17, F18}
use Rattle.rpg_faults.specs.declared.fault.Fault.{Fault}
use Rattle.rpg_faults_flow.specs.Kept.{Rule}
use Rattle.rpg_faults.specs.Codes.{fault_number}
use Rattle.rpg_faults_limits.specs.Files.{lacks_input}
use Rattle.rpg_faults.specs.Rules.{rule, source_rule}

-- ---- the set: pairs of a card and a code

-- a card with this number breaks a rule
pub record BreaksRule (r : Rule) (cards : List SpecCard) (number : ℕ) : Type 0 where
  pub before : List SpecCard
  pub card : SpecCard
  pub after : List SpecCard
  pub split : cards ≡ before ++ card ∷ after
  pub here : card.number ≡ number
  pub broken : r before card after ≡ true

-- what is wrong with the source as a whole has card 0
abbrev pub HasFault : List SpecCard → Fault → Type 0
HasFault cards f = BreaksRule (rule f.code) cards f.card ⊎ ((f.card ≡ 0) × (source_rule f.code cards ≡ true))

-- a source without faults
abbrev pub Faultless : List SpecCard → Type 0
Faultless cards = (f : Fault) → ¬ HasFault cards f

-- ---- the first of them, by card and then by code

-- faults are in order: by card, and on a card by code
abbrev pub FaultNotAfter : Fault → Fault → Type 0
FaultNotAfter f g = (f.card < g.card) ⊎ ((f.card ≡ g.card) × (fault_number f.code ≤ fault_number g.code))

-- a fault of the source, such that no other comes before it
pub record IsLeastFault (cards : List SpecCard) (f : Fault) : Type 0 where
  pub is : HasFault cards f
  pub least : (g : Fault) → HasFault cards g → FaultNotAfter f g

-- all codes, in numeric order
abbrev pub codes : List FaultCode
codes = F1 ∷ F2 ∷ F3 ∷ F4 ∷ F5 ∷ F6 ∷ F7 ∷ F8 ∷ F9 ∷ F10 ∷ F11 ∷ F12 ∷ F13 ∷ F14 ∷ F15 ∷ F16 ∷ F17 ∷ F18 ∷ []

-- ---- how it is computed: on the first card that breaks a rule, the lowest code; before all cards, faults of the source as a whole

-- a fault of a card
abbrev pub fault_on : SpecCard → FaultCode → Fault
fault_on c code = record { card = c.number; code = code }

-- the first fault of the cards from here on
abbrev pub least_fault_from : List SpecCard → List SpecCard → Option Fault
least_fault_from before [] = None
least_fault_from before (c ∷ after) = option_or (option_map (fault_on c) (find (λ code. rule code before c after) codes)) (least_fault_from (before ++ c ∷ []) after)

-- the first fault of a source
abbrev pub least_fault : List SpecCard → Option Fault
least_fault cards = if lacks_input cards then Some (record { card = 0; code = F7 }) else least_fault_from [] cards
