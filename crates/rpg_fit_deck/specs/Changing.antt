-- What the calls that change a deck make of it.
use Rattle.std.specs.Prelude.{◌≡◌, ℕ, zero, suc, ◌-◌, ◌==◌, false, List, [], ◌∷◌, ◌++◌, Bool, length, map, nat_lt, if◌then◌else◌}
use Rattle.std.specs.List.{list_any}
use Rattle.rpg_fit_deck.specs.Rules.{rule_number}
use Rattle.rpg_fit_deck.specs.Stopping.{has_run_out}
use Rattle.rpg_fit_deck.specs.declared.card.Card.{Card}
use Rattle.rpg_fit_deck.specs.declared.editor.Editor.{Editor}
use Rattle.rpg_fit_deck.specs.declared.here.Here.{Here}
use Rattle.rpg_fit_deck.specs.declared.here.Here.TheVariants.{Kept, Changed, Gone}
use Rattle.rpg_fit_deck.specs.declared.sentence.Remark.{Remark}
use Rattle.rpg_fit_deck.specs.declared.sentence.Rule.{Rule}
use Rattle.rpg_fit_deck.specs.declared.sentence.Sentence.{Sentence}
use Rattle.rpg_fit_deck.specs.declared.sentence.What.TheVariants as about
use Rattle.rpg_fit_deck.specs.declared.slot.Made.{Made}
use Rattle.rpg_fit_deck.specs.declared.slot.Slot.{Slot}
use Rattle.rpg_fit_deck.specs.declared.view.Address.{Address}
use Rattle.rpg_fit_deck.specs.declared.view.Seen.{Seen}

-- the place of a card of the source: the cards made before it, what is there, and the sentences about it
pub record Place : Type 0 where
  pub before : List Made
  pub here : Here
  pub remarks : List Remark

-- a deck that is being rewritten: the rule that is applied, the places of the source's cards, and the cards made after all of them
pub record Deck : Type 0 where
  pub rule : Rule
  pub places : List Place
  pub end : List Made

-- what a slot has
abbrev pub slot_place : Slot → Place
slot_place slot = record { before = slot.before.items; here = slot.here; remarks = slot.remarks.items }

-- what an editor has
abbrev pub deck_of : Editor → Deck
deck_of editor = record { rule = editor.rule; places = map slot_place editor.slots.items; end = editor.end.items }

-- one member of a list is changed, if it has so many
abbrev pub changed_at : {A : Type 0} → (A → A) → ℕ → List A → List A
changed_at f n [] = []
changed_at f zero (x ∷ xs) = f x ∷ xs
changed_at f (suc n) (x ∷ xs) = x ∷ changed_at f n xs

-- one more sentence
abbrev pub with_remark : Remark → Place → Place
with_remark remark place = record place { remarks = place.remarks ++ remark ∷ [] }

-- whether a sentence is of a rule
abbrev pub is_of_rule : Rule → Remark → Bool
is_of_rule rule remark = rule_number remark.rule == rule_number rule

-- a card that a rule changes has a sentence of that rule: another one's if it has none of its own
abbrev pub with_rule : Rule → (changed : ℕ) → Place → Place
with_rule rule changed place = if list_any (is_of_rule rule) place.remarks then place else with_remark (record { rule = rule; what = about.With changed }) place

-- what replaces a made card
abbrev pub made_here : Here → Made → List Made
made_here Kept made = made ∷ []
made_here (Changed card) made = record made { card = card } ∷ []
made_here Gone made = []

-- whether a made card has a number
abbrev pub has_id : ℕ → Made → Bool
has_id id made = made.id == id

-- the first card with a number is replaced
abbrev pub with_made : Here → (id : ℕ) → List Made → List Made
with_made here id [] = []
with_made here id (made ∷ more) = if has_id id made then made_here here made ++ more else made ∷ with_made here id more

-- a place after one of its cards is replaced: the source's own, whose number is 0, or one made before it
abbrev pub with_card : Here → (id : ℕ) → Rule → (changed : ℕ) → Place → Place
with_card here id rule changed place =
    if id == 0 then record (with_rule rule changed place) { here = here } else record place { before = with_made here id place.before }

-- a deck after one of its cards is replaced
abbrev pub with_here : Here → Address → (changed : ℕ) → Deck → Deck
with_here here at changed deck = record deck {
  places = changed_at (with_card here at.made deck.rule changed) at.slot deck.places;
  end = if nat_lt at.slot (length deck.places) then deck.end else with_made here at.made deck.end;
}

-- a sentence about a change by a rule
abbrev pub change_by : Rule → Sentence → Remark
change_by rule sentence = record { rule = rule; what = about.Change sentence }

-- a deck with one more sentence about a card of the source
abbrev pub with_sentence : (card : ℕ) → Remark → Deck → Deck
with_sentence card remark deck = record deck { places = changed_at (with_remark remark) (card - 1) deck.places }

-- a deck after a card is replaced by another one, with a sentence about it
abbrev pub rewritten_deck : Seen → Card → Sentence → Deck → Deck
rewritten_deck seen card sentence deck = with_here (Changed card) seen.at seen.number (with_sentence seen.number (change_by deck.rule sentence) deck)

-- an editor has this deck, unless memory ran out
abbrev pub Has : Deck → Editor → Type 0
Has deck editor = has_run_out editor ≡ false → deck_of editor ≡ deck
