-- Why a deck isn't rewritten.
use Rattle.std.specs.Prelude.{◌≡◌, ℕ, Some, List}
use Rattle.rpg_fit_deck.specs.declared.editor.Editor.{Editor}
use Rattle.rpg_fit_deck.specs.declared.sentence.Rule.{Rule}
use Rattle.rpg_fit_deck.specs.declared.stopped.Stopped.{Stopped}
use Rattle.rpg_fit_deck.specs.declared.stopped.Stopped.TheVariants as stops
use Rattle.rpg_fit_deck.specs.Stopping.{refusal_of}
use Rattle.rpg_fit.specs.Applied.{AsRulesLeave}
use Rattle.rpg_fit.specs.declared.fault.FitFault.{FitFault}
use Rattle.rpg_fit.specs.declared.fault.FitFault.TheVariants as faults

-- why a deck isn't rewritten
abbrev pub fit_fault : Stopped → FitFault
fit_fault (stops.Refused refusal) = faults.Refused refusal
fit_fault stops.TooMany = faults.TooMany
fit_fault stops.NoMemory = faults.NoMemory

-- a refusal is the first one by the rules
abbrev pub IsReason : (Rule → Editor → Editor → Type 0) → List Rule → List ℕ → FitFault → Type 0
IsReason leaves rules source (faults.Refused refusal) = (last : Editor) × AsRulesLeave leaves rules source last × (refusal_of last ≡ Some refusal)
IsReason leaves rules source faults.TooMany = Unit {0}
IsReason leaves rules source faults.NoMemory = Unit {0}
