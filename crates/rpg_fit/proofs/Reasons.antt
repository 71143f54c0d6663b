-- Why a deck isn't rewritten.
use Rattle.std.proofs.Common.{ℕ, List}
use Rattle.rpg_fit_deck.specs.declared.editor.Editor.{Editor}
use Rattle.rpg_fit_deck.specs.declared.sentence.Rule.{Rule}
use Rattle.rpg_fit_deck.specs.declared.stopped.Stopped.{Stopped}
use Rattle.rpg_fit_deck.specs.declared.stopped.Stopped.TheVariants.{Refused, TooMany, NoMemory}
use Rattle.rpg_fit_deck.specs.Stopping.{StopsFor, refusal_of}
use Rattle.rpg_fit.specs.Applied.{AsRulesLeave}
use Rattle.rpg_fit.specs.Faults.{IsReason, fit_fault}

-- the rules stopped for the first refusal, if there is one
pub reason : (leaves : Rule → Editor → Editor → Type 0) (rules : List Rule) (source : List ℕ) (last : Editor) (stopped : Stopped)
    → AsRulesLeave leaves rules source last → StopsFor (refusal_of last) stopped → IsReason leaves rules source (fit_fault stopped)
reason leaves rules source last (Refused refusal) left stops = (last, left, stops)
reason leaves rules source last TooMany left stops = tt
reason leaves rules source last NoMemory left stops = tt
