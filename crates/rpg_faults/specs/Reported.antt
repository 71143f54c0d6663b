-- Faults of cards as they are reported for a source, with the columns that they point at.
use Rattle.std.specs.Prelude.{◌≡◌, ◌==◌, List, [], ◌∷◌, ◌++◌, Option, None, map, filter, if◌then◌else◌}
use Rattle.rpg_cards.specs.declared.spec_card.SpecCard.{SpecCard}
use Rattle.rpg_faults.specs.Every.{AreAllFaults}
use Rattle.rpg_faults.specs.Faults.{codes}
use Rattle.rpg_faults.specs.CauseRanges.{fault_columns}
use Rattle.rpg_faults.specs.Causes.{cause_of}
use Rattle.rpg_faults.specs.Rules.{rule}
use Rattle.rpg_faults.specs.declared.code.FaultCode.{FaultCode}
use Rattle.rpg_faults.specs.declared.code.FaultCode.TheVariants.{F7}
use Rattle.rpg_faults.specs.declared.fault.Fault.{Fault}
use Rattle.rpg_faults.specs.declared.source_fault.CardFault.{CardFault}
use Rattle.rpg_faults.specs.declared.source_fault.SourceCode.TheVariants as source_codes
use Rattle.rpg_faults_limits.specs.Files.{lacks_input}

-- what a fault's code gives on the card with the fault's number
abbrev pub on_its_card : {X : Type 0} → (FaultCode → List SpecCard → SpecCard → List SpecCard → Option X) → List SpecCard → List SpecCard → Fault → Option X
on_its_card of before [] f = None
on_its_card of before (c ∷ after) f = if c.number == f.card then of f.code before c after else on_its_card of (before ++ c ∷ []) after f

-- a fault of a source, with its columns and its cause
abbrev pub reported_of : List SpecCard → Fault → CardFault
reported_of cards f = record { card = f.card; code = source_codes.Fault f.code; columns = on_its_card fault_columns [] cards f; cause = on_its_card cause_of [] cards f }

-- exactly the faults of these cards, each once, in the order of cards and codes
abbrev pub AreFaultsOf : List SpecCard → List CardFault → Type 0
AreFaultsOf cards reported = (faults : List Fault) × AreAllFaults cards faults × (reported ≡ map (reported_of cards) faults)

-- ---- how they are computed: the faults of the source as a whole, then card by card, code by code

-- a fault of a card, with its columns and its cause
abbrev pub reported_by : List SpecCard → SpecCard → List SpecCard → FaultCode → CardFault
reported_by before c after code = record { card = c.number; code = source_codes.Fault code; columns = fault_columns code before c after; cause = cause_of code before c after }

-- the faults of a card, by their codes
abbrev pub reported_on : List SpecCard → SpecCard → List SpecCard → List CardFault
reported_on before c after = map (reported_by before c after) (filter (λ code. rule code before c after) codes)

-- the faults of the cards from here on
abbrev pub reported_from : List SpecCard → List SpecCard → List CardFault
reported_from before [] = []
reported_from before (c ∷ after) = reported_on before c after ++ reported_from (before ++ c ∷ []) after

-- the fault of a source without a primary file
abbrev pub of_whole : CardFault
of_whole = record { card = 0; code = source_codes.Fault F7; columns = None; cause = None }

-- the faults that belong to no card
abbrev pub reported_of_whole : List SpecCard → List CardFault
reported_of_whole cards = if lacks_input cards then of_whole ∷ [] else []

-- all faults of a source with their columns: by card, and on a card by code
abbrev pub reported_faults : List SpecCard → List CardFault
reported_faults cards = reported_of_whole cards ++ reported_from [] cards
