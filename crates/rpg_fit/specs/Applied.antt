-- The result of rules for a deck, whatever each of them does. `leaves` describes how a rule may change a deck.
use Rattle.std.specs.Prelude.{◌≡◌, ℕ, true, List, [], ◌∷◌, MatchBool}
use Rattle.rpg_fit_deck.specs.declared.editor.Editor.{Editor}
use Rattle.rpg_fit_deck.specs.declared.sentence.Rule.{Rule}
use Rattle.rpg_fit_deck.specs.declared.fitted.Fitted.{Fitted}
use Rattle.rpg_fit_deck.specs.Stopping.{IsOf, IsSource, may_continue}

-- a rule is applied if no rule before it rejected the deck and memory sufficed; otherwise the deck stays as it is
abbrev pub AppliedInTurn : (Rule → Editor → Editor → Type 0) → Rule → Editor → Editor → Type 0
AppliedInTurn leaves rule old new = MatchBool (may_continue old) (leaves rule old new) (new ≡ old)

-- rules in sequence
abbrev pub Applied : (Rule → Editor → Editor → Type 0) → List Rule → Editor → Editor → Type 0
Applied leaves [] old new = new ≡ old
Applied leaves (rule ∷ rules) old new = (next : Editor) × AppliedInTurn leaves rule old next × Applied leaves rules next new

-- a source as rules leave it
abbrev pub AsRulesLeave : (Rule → Editor → Editor → Type 0) → List Rule → List ℕ → Editor → Type 0
AsRulesLeave leaves rules source last = (first : Editor) × IsSource source first × Applied leaves rules first last

-- what rules made of a source that none of them rejected
abbrev pub IsRewritten : (Rule → Editor → Editor → Type 0) → List Rule → List ℕ → Fitted → Type 0
IsRewritten leaves rules source fitted = (last : Editor) × AsRulesLeave leaves rules source last × (may_continue last ≡ true) × IsOf last fitted
