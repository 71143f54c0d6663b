-- Cards that are replaced among others, and slots.
use Rattle.std.proofs.Common.{◌≡◌, ℕ, zero, suc, ◌+◌, ◌<◌, ◌≤◌, Bool, true, false, cond, ltb, List, [], ◌∷◌, ◌++◌, None, Some, Result, Ok, Err, OnOk, length, get_or, take, drop, map, refl, sym, ap, ◌∙◌, inl, inr, arith}
use Rattle.std.proofs.lemmas.Bool.{cases_Bool, false≢true, le-ltb, lt-ltb, ltb-false, ltb-true}
use Rattle.std.proofs.lemmas.Iterator.Adapters.{position_from-zero}
use Rattle.std.proofs.lemmas.List.{get_or-map, length-map, map-set, set_split}
use Rattle.std.proofs.Math.ListN.{set}
use Rattle.std.proofs.Math.Seq.{split_at}
use Rattle.std.specs.List.{position, position_from}
use Rattle.rpg_fit_deck.specs.Changing.{Deck, Place, changed_at, has_id, made_here, slot_place, with_card, with_here, with_made}
use Rattle.rpg_fit_deck.specs.declared.card.Card.{Card}
use Rattle.rpg_fit_deck.specs.declared.here.Here.{Here}
use Rattle.rpg_fit_deck.specs.declared.here.Here.TheVariants.{Kept, Changed, Gone}
use Rattle.rpg_fit_deck.specs.declared.sentence.Rule.{Rule}
use Rattle.rpg_fit_deck.specs.declared.slot.Made.{Made}
use Rattle.rpg_fit_deck.specs.declared.slot.Slot.{Slot}
use Rattle.rpg_fit_deck.specs.declared.view.Address.{Address}

-- ---- made cards

-- the cards around the place of the first one with a number
abbrev around : (here : Here) → List Made → ℕ → Made → List Made
around here xs i d = take i xs ++ (made_here here (get_or xs i d) ++ drop (suc i) xs)

-- such a place, in a list whose first one has the number k
abbrev IsFound : (here : Here) → (id : ℕ) → List Made → (k i : ℕ) → Made → Type 0
IsFound here id xs k i d = (j : ℕ) × (i ≡ k + j) × (j < length xs) × (with_made here id xs ≡ around here xs j d)

found_from : (here : Here) (id : ℕ) (xs : List Made) (k i : ℕ) (d : Made) → position_from (has_id id) k xs ≡ Some i → IsFound here id xs k i d
found_from here id [] k i d e = absurd cc
found_from here id (x ∷ xs) k i d e = by (has_id id x) (λ is. found_from here id xs (k + 1) i d is) e
  where
    by : (b : Bool) → (position_from (has_id id) (k + 1) xs ≡ Some i → IsFound here id xs (k + 1) i d) → cond b (Some k) (position_from (has_id id) (k + 1) xs) ≡ Some i
        → (j : ℕ) × (i ≡ k + j) × (j < suc (length xs)) × (cond b (made_here here x ++ xs) (x ∷ with_made here id xs) ≡ around here (x ∷ xs) j d)
    by true rest is = let at : k ≡ i = cc in (0, omega (arith, at), omega arith, refl)
    by false rest is =
        let more = rest is in
        (suc more.0, omega (arith, more.1), omega (arith, more.2), ap (λ (zs : List Made). x ∷ zs) more.3)

absent_from : (here : Here) (id : ℕ) (xs : List Made) (k : ℕ) → position_from (has_id id) k xs ≡ None → with_made here id xs ≡ xs
absent_from here id [] k e = refl
absent_from here id (x ∷ xs) k e = by (has_id id x) (λ is. absent_from here id xs (k + 1) is) e
  where
    by : (b : Bool) → (position_from (has_id id) (k + 1) xs ≡ None → with_made here id xs ≡ xs) → cond b (Some k) (position_from (has_id id) (k + 1) xs) ≡ None
        → cond b (made_here here x ++ xs) (x ∷ with_made here id xs) ≡ x ∷ xs
    by true rest is = absurd cc
    by false rest is = ap (λ (zs : List Made). x ∷ zs) (rest is)

found : (here : Here) (id : ℕ) (xs : List Made) (i : ℕ) (d : Made) → Some i ≡ position (has_id id) xs → (i < length xs) × (with_made here id xs ≡ around here xs i d)
found here id xs i d first =
    let more = found_from here id xs 0 i d (sym (first ∙ position_from-zero (has_id id) xs)) in
    let same : more.0 ≡ i = omega (arith, more.1) in
    (omega (arith, more.2, same), more.3 ∙ ap (λ (n : ℕ). around here xs n d) same)

-- what each replacement makes of the cards
pub kept_made : (id : ℕ) (xs : List Made) (i : ℕ) → Some i ≡ position (has_id id) xs → xs ≡ with_made Kept id xs
kept_made id [] i first = refl
kept_made id (x ∷ xs) i first = let it = found Kept id (x ∷ xs) i x first in split_at (x ∷ xs) i x it.0 ∙ sym it.1

pub changed_made : (card : Card) (id : ℕ) (xs : List Made) (i : ℕ) (y : Made) → Some i ≡ position (has_id id) xs → y ≡ get_or xs i y
    → set xs i (record { id = y.id; from = y.from; card = card }) ≡ with_made (Changed card) id xs
changed_made card id xs i y first is =
    let it = found (Changed card) id xs i y first in
    set_split xs i _ it.0 ∙ ap (λ (z : Made). take i xs ++ (made_here (Changed card) z ++ drop (suc i) xs)) is ∙ sym it.1

pub gone_made : (id : ℕ) (xs : List Made) (i : ℕ) → Some i ≡ position (has_id id) xs → take i xs ++ drop (suc i) xs ≡ with_made Gone id xs
gone_made id [] i first = absurd cc
gone_made id (x ∷ xs) i first = let it = found Gone id (x ∷ xs) i x first in sym it.1

pub absent_made : (here : Here) (id : ℕ) (xs : List Made) → None ≡ position (has_id id) xs → xs ≡ with_made here id xs
absent_made here id xs none = sym (absent_from here id xs 0 (sym (none ∙ position_from-zero (has_id id) xs)))

-- ---- slots

-- one member of a list is replaced, or none
module _ {A : Type 0} (f : A → A) where
  set_changed : (xs : List A) (i : ℕ) (y d : A) → i < length xs → y ≡ f (get_or xs i d) → set xs i y ≡ changed_at f i xs
  set_changed [] i y d within is = absurd (omega arith)
  set_changed (x ∷ xs) zero y d within is = ap (λ (z : A). z ∷ xs) is
  set_changed (x ∷ xs) (suc i) y d within is = ap (λ (zs : List A). x ∷ zs) (set_changed xs i y d (omega arith) is)

  changed_past : (xs : List A) (i : ℕ) → length xs ≤ i → xs ≡ changed_at f i xs
  changed_past [] i past = refl
  changed_past (x ∷ xs) zero past = absurd (omega arith)
  changed_past (x ∷ xs) (suc i) past = ap (λ (zs : List A). x ∷ zs) (changed_past xs i (omega arith))

-- the places of slots
abbrev pub places : List Slot → List Place
places slots = map slot_place slots

-- one slot is changed, or none
module _ (f : Place → Place) (slots : List Slot) (i : ℕ) where
  pub slot_changed : (old new : Slot) → i < length slots → old ≡ get_or slots i old → slot_place new ≡ f (slot_place old) → places (set slots i new) ≡ changed_at f i (places slots)
  slot_changed old new within is made =
      let few : i < length (places slots) = rw length-map within in
      let there : get_or (places slots) i (slot_place old) ≡ slot_place old = get_or-map slot_place slots i old (slot_place old) within ∙ ap slot_place (sym is) in
      map-set slot_place slots i new ∙ set_changed f (places slots) i (slot_place new) (slot_place old) few (made ∙ ap f (sym there))

  pub slots_past : length slots ≤ i → places slots ≡ changed_at f i (places slots)
  slots_past past = let far : length (places slots) ≤ i = rw length-map past in changed_past f (places slots) i far

-- ---- decks

-- a deck of such places
abbrev pub deck_with : Rule → List Made → List Place → Deck
deck_with rule end ps = record { rule = rule; places = ps; end = end }

-- a card is replaced in its slot, or after all slots
module _ (here : Here) (at : Address) (changed : ℕ) (rule : Rule) (slots : List Slot) (end : List Made) where
  pub here_changed : (old new : Slot) → at.slot < length slots → old ≡ get_or slots at.slot old → slot_place new ≡ with_card here at.made rule changed (slot_place old)
      → deck_with rule end (places (set slots at.slot new)) ≡ with_here here at changed (deck_with rule end (places slots))
  here_changed old new within is made =
      let few : at.slot < length (places slots) = rw length-map within in
      let test : ltb at.slot (length (places slots)) ≡ true = lt-ltb at.slot (length (places slots)) few in
      rw test (ap (deck_with rule end) (slot_changed (with_card here at.made rule changed) slots at.slot old new within is made))

  pub end_changed : length slots ≤ at.slot → deck_with rule (with_made here at.made end) (places slots) ≡ with_here here at changed (deck_with rule end (places slots))
  end_changed past =
      let far : length (places slots) ≤ at.slot = rw length-map past in
      let test : ltb at.slot (length (places slots)) ≡ false = le-ltb at.slot (length (places slots)) far in
      rw test (ap (deck_with rule (with_made here at.made end)) (slots_past (with_card here at.made rule changed) slots at.slot past))

-- ---- results

-- a place that a list hasn't
pub past_from : (a b : ℕ) → (a < b → false ≡ true) → b ≤ a
past_from a b never = elim (cases_Bool (ltb a b)) [ inl lt ↦ absurd (false≢true (never (ltb-true a b lt))) | inr ge ↦ ltb-false a b ge ]

pub on_ok : {A E P Q : Type 0} (r : Result A E) → (P → Q) → OnOk r P → OnOk r Q
on_ok (Ok x) f p = f p
on_ok (Err e) f p = tt
