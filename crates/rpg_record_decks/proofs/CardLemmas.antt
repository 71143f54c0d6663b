-- The cards of lines.
use Rattle.std.proofs.Common.{◌≡◌, ℕ, ◌+◌, ◌-◌, ◌<◌, ◌≤◌, ◌++◌, ◌⊎◌, inl, inr, cond, Bool, true, false, List, [], ◌∷◌, length, take, refl, ap, ◌∙◌, arith, append-nil, Result, Ok, Err}
use Rattle.std.proofs.lemmas.Bool.{cases_lt}
use Rattle.std.proofs.lemmas.List.{length-take-le, take-take, take_all}
use Rattle.rpg_sheet_specs.specs.Cards.{card_of, is_skipped}
use Rattle.rpg_record_decks.proofs.OutcomeLemmas.{onto-onto}
use Rattle.rpg_record_decks.specs.Cards.{card_on_line, cards_on_lines, ends_cards, with_deck_card}
use Rattle.rpg_record_decks.specs.Outcomes.{and_then, at_card, onto}
use Rattle.rpg_record_decks.specs.declared.deck.DeckCard.{DeckCard}
use Rattle.rpg_record_decks.specs.declared.fault.CardFault.{CardFault}
use Rattle.rpg_record_decks.specs.declared.fault.DeckFault.TheVariants as faults

-- only the columns of a line count
pub card_of_columns : (line : List ℕ) → card_of (take 80 line) ≡ card_of line
card_of_columns line = by (cases_lt (length line) 80)
  where
    by : (length line < 80) ⊎ (80 ≤ length line) → card_of (take 80 line) ≡ card_of line
    by (inl short) = ap card_of (take_all 80 line (omega arith))
    by (inr long) =
        let same : length (take 80 line) ≡ 80 = length-take-le 80 line long in
        let none : 80 - length (take 80 line) ≡ 0 = omega arith in
        let none_either : 80 - length line ≡ 0 = omega arith in
        rw (none, none_either, take-take 80 80 line (omega arith)) refl

pub cards_end : (xs : List DeckCard) (n : ℕ) → onto xs (cards_on_lines n []) ≡ Ok xs
cards_end xs n = ap Ok (append-nil xs)

pub cards_refused : (xs : List DeckCard) (n : ℕ) (line : List ℕ) (more : List (List ℕ)) (fault : CardFault) → card_on_line n line ≡ Err fault
    → onto xs (cards_on_lines n (line ∷ more)) ≡ Err (faults.Card n fault)
cards_refused xs n line more fault e = ap (λ (r : Result DeckCard CardFault). onto xs (and_then (at_card n r) (λ c. with_deck_card c (cards_on_lines (n + 1) more)))) e

-- what a card brings
after : (xs : List DeckCard) (n : ℕ) (line : List ℕ) (more : List (List ℕ)) (c : DeckCard) → card_on_line n line ≡ Ok c
    → onto xs (cards_on_lines n (line ∷ more)) ≡ onto xs (with_deck_card c (cards_on_lines (n + 1) more))
after xs n line more c e = ap (λ (r : Result DeckCard CardFault). onto xs (and_then (at_card n r) (λ c. with_deck_card c (cards_on_lines (n + 1) more)))) e

pub cards_last : (xs : List DeckCard) (n : ℕ) (line : List ℕ) (more : List (List ℕ)) (c : DeckCard) → card_on_line n line ≡ Ok c → ends_cards c.card ≡ true
    → onto xs (cards_on_lines n (line ∷ more)) ≡ Ok xs
cards_last xs n line more c e f =
    after xs n line more c e ∙ ap (λ (b : Bool). onto xs (cond b (Ok []) (cond (is_skipped c.card) (cards_on_lines (n + 1) more) (onto (c ∷ []) (cards_on_lines (n + 1) more))))) f ∙ ap Ok (append-nil xs)

pub cards_skipped : (xs : List DeckCard) (n : ℕ) (line : List ℕ) (more : List (List ℕ)) (c : DeckCard) → card_on_line n line ≡ Ok c → ends_cards c.card ≡ false → is_skipped c.card ≡ true
    → onto xs (cards_on_lines n (line ∷ more)) ≡ onto xs (cards_on_lines (n + 1) more)
cards_skipped xs n line more c e f g =
    after xs n line more c e ∙ ap (λ (b : Bool). onto xs (cond b (Ok []) (cond (is_skipped c.card) (cards_on_lines (n + 1) more) (onto (c ∷ []) (cards_on_lines (n + 1) more))))) f
    ∙ ap (λ (b : Bool). onto xs (cond b (cards_on_lines (n + 1) more) (onto (c ∷ []) (cards_on_lines (n + 1) more)))) g

pub cards_next : (xs : List DeckCard) (n : ℕ) (line : List ℕ) (more : List (List ℕ)) (c : DeckCard) → card_on_line n line ≡ Ok c → ends_cards c.card ≡ false → is_skipped c.card ≡ false
    → onto xs (cards_on_lines n (line ∷ more)) ≡ onto (xs ++ c ∷ []) (cards_on_lines (n + 1) more)
cards_next xs n line more c e f g =
    after xs n line more c e ∙ ap (λ (b : Bool). onto xs (cond b (Ok []) (cond (is_skipped c.card) (cards_on_lines (n + 1) more) (onto (c ∷ []) (cards_on_lines (n + 1) more))))) f
    ∙ ap (λ (b : Bool). onto xs (cond b (cards_on_lines (n + 1) more) (onto (c ∷ []) (cards_on_lines (n + 1) more)))) g ∙ onto-onto xs (c ∷ []) (cards_on_lines (n + 1) more)
