-- Why rules stop, and that nothing that they do after that hides it.
use Rattle.std.specs.Prelude.{◌≡◌, ℕ, Bool, true, not, ◌&&◌, Option, Some, None, is_none, List, map}
use Rattle.std.specs.Str.Lines.{lines}
use Rattle.rpg_fit_deck.specs.declared.editor.Editor.{Editor}
use Rattle.rpg_fit_deck.specs.declared.fitted.Fitted.{Fitted}
use Rattle.rpg_fit_deck.specs.declared.sentence.Refusal.{Refusal}
use Rattle.rpg_fit_deck.specs.declared.sentence.Sentence.{Sentence}
use Rattle.rpg_fit_deck.specs.declared.stopped.Stopped.{Stopped}
use Rattle.rpg_fit_deck.specs.declared.stopped.Stopped.TheVariants.{Refused, TooMany, NoMemory}
use Rattle.rpg_fit_deck.specs.New.{nothing_reported}

-- the first refusal of the deck by a rule
abbrev pub refusal_of : Editor → Option Refusal
refusal_of editor = editor.refusal

-- a refusal for a card, by the rule that is applied
abbrev pub refusal_for : Editor → ℕ → Sentence → Refusal
refusal_for editor card why = record { card = card; rule = editor.rule; why = why }

-- whether memory ran out
abbrev pub has_run_out : Editor → Bool
has_run_out editor = editor.ran_out

-- no rule has rejected the deck, and memory sufficed
abbrev pub may_continue : Editor → Bool
may_continue editor = is_none (refusal_of editor) && not (has_run_out editor)

-- what stopped the rules still does, and no rule has rejected the deck since
abbrev pub StaysStopped : Editor → Editor → Type 0
StaysStopped old new = (refusal_of new ≡ refusal_of old) × (has_run_out old ≡ true → has_run_out new ≡ true)

-- a deck that no rule has seen
abbrev pub IsSource : List ℕ → Editor → Type 0
IsSource source editor = (map (λ line. line.now) editor.lines.items ≡ lines source) × (nothing_reported editor.slots.items ≡ true) × (may_continue editor ≡ true)

-- the new deck is what an editor has
abbrev pub IsOf : Editor → Fitted → Type 0
IsOf editor fitted = (fitted.slots ≡ editor.slots) × (fitted.end ≡ editor.end)

-- why there is no new deck: the first rejection, and nothing else if there is one
abbrev pub StopsFor : Option Refusal → Stopped → Type 0
StopsFor refusal (Refused first) = refusal ≡ Some first
StopsFor refusal TooMany = refusal ≡ None
StopsFor refusal NoMemory = refusal ≡ None
