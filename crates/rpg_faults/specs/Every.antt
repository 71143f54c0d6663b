-- All faults of a source, in order.
use Rattle.std.specs.Prelude.{◌≡◌, ◌<◌, ◌⊎◌, ◌↔◌, List, [], ◌∷◌, ◌++◌, AllPairs, Contains, filter, map, if◌then◌else◌}
use Rattle.rpg_cards.specs.declared.spec_card.SpecCard.{SpecCard}
use Rattle.rpg_faults.specs.declared.code.FaultCode.TheVariants.{F7}
use Rattle.rpg_faults.specs.declared.fault.Fault.{Fault}
use Rattle.rpg_faults_limits.specs.Files.{lacks_input}
use Rattle.rpg_faults.specs.Codes.{fault_number}
use Rattle.rpg_faults.specs.Faults.{HasFault, codes, fault_on}
use Rattle.rpg_faults.specs.Rules.{rule}

-- by card, and then by code
abbrev pub IsBefore : Fault → Fault → Type 0
IsBefore f g = (f.card < g.card) ⊎ ((f.card ≡ g.card) × (fault_number f.code < fault_number g.code))

-- exactly the faults of a source, each once, in order
pub record AreAllFaults (cards : List SpecCard) (faults : List Fault) : Type 0 where
  pub just : (f : Fault) → HasFault cards f ↔ Contains faults f
  pub in_order : AllPairs IsBefore faults

-- ---- how they are computed: the faults of the source as a whole, then card by card, code by code

-- the faults of a card, by their codes
abbrev pub faults_on : List SpecCard → SpecCard → List SpecCard → List Fault
faults_on before c after = map (fault_on c) (filter (λ code. rule code before c after) codes)

-- the faults of the cards from here on
abbrev pub faults_from : List SpecCard → List SpecCard → List Fault
faults_from before [] = []
faults_from before (c ∷ after) = faults_on before c after ++ faults_from (before ++ c ∷ []) after

-- the fault of a source without a primary file, which belongs to no card
abbrev pub faults_of_whole : List SpecCard → List Fault
faults_of_whole cards = if lacks_input cards then record { card = 0; code = F7 } ∷ [] else []

-- all faults of a source: by card, and on a card by code
abbrev pub all_faults : List SpecCard → List Fault
all_faults cards = faults_of_whole cards ++ faults_from [] cards
