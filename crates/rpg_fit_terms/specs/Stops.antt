-- What happens to a rule's outcome.
use Rattle.std.specs.Prelude.{◌≡◌, true, Some, unwrap_or}
use Rattle.rpg_fit_deck.specs.declared.editor.Editor.{Editor}
use Rattle.rpg_fit_deck.specs.Stopping.{has_run_out, refusal_for, refusal_of}
use Rattle.rpg_fit_terms.specs.declared.stop.RuleStop.{RuleStop}
use Rattle.rpg_fit_terms.specs.declared.stop.RuleStop.TheVariants.{NoMemory, Refused, TooMany}

-- a rule that stopped since memory or cards ran out stops the editor, and one that rejects the deck rejects it, unless one before it did
abbrev pub IsStoppedBy : RuleStop → Editor → Editor → Type 0
IsStoppedBy NoMemory old new = (has_run_out new ≡ true) × (refusal_of new ≡ refusal_of old)
IsStoppedBy TooMany old new = (has_run_out new ≡ true) × (refusal_of new ≡ refusal_of old)
IsStoppedBy (Refused reason) old new =
    (refusal_of new ≡ Some (unwrap_or (refusal_of old) (refusal_for old reason.card reason.why))) × (has_run_out new ≡ has_run_out old)
