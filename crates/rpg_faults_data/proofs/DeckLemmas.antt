-- Decks that are taken one after the other.
use denote.Bor.{Bor}
use Rattle.std.proofs.Common.{◌≡◌, ℕ, suc, ◌+◌, ◌-◌, ◌==◌, ◌<◌, Bool, true, false, cond, List, [], ◌∷◌, ◌++◌, drop, length, get_or, Option, None, Some, refl, sym, ap, ◌∙◌, arith, drop-cons, add-one, length-append}
use Rattle.std.proofs.lemmas.Bool.{eqb-true}
use Rattle.std.proofs.lemmas.List.Sums.{sum_by_push}
use Rattle.std.specs.Option.{is_some, option_and_then, option_map, option_map_or}
use Rattle.std.specs.Prelude.{count_by, unwrap_or}
use Rattle.rpg_cards.specs.Cards.{data_on, extension_on}
use Rattle.rpg_cards.specs.Groups.{data_card_role, data_role, followers, followers_with, role_on}
use Rattle.rpg_cards.specs.declared.spec_card.SpecCard.{SpecCard}
use Rattle.rpg_faults_data.specs.Causes.{after_deck_begin, begins_table_data, is_deck_begin}
use Rattle.rpg_faults_data.specs.Data.{wanted, expects_data}
use Rattle.rpg_faults_data.specs.Decks.{AreDecks}
use Rattle.rpg_faults_data.specs.declared.decks.Decks.{Decks}
use Rattle.rpg_sheet_specs.specs.declared.data.DataSpec.{DataSpec}
use Rattle.rpg_sheet_specs.specs.declared.data.DataSpec.TheVariants as deck
use Rattle.rpg_sheet_specs.specs.declared.extension.ExtensionSpec.{ExtensionSpec}
use Rattle.rpg_sheet_specs.specs.declared.spec.Spec.{Spec}
use Rattle.rpg_sheet_specs.specs.declared.spec.Spec.TheVariants as spec

wanted-push : (before : List SpecCard) (c : SpecCard) → wanted (before ++ c ∷ []) ≡ wanted before + cond (expects_data c) 1 0
wanted-push before c = sum_by_push (λ d. cond (expects_data d) 1 0) before c

pub one_more : (before : List SpecCard) (c : SpecCard) → expects_data c ≡ true → wanted (before ++ c ∷ []) ≡ wanted before + 1
one_more before c e = wanted-push before c ∙ ap (λ b. wanted before + cond b 1 0) e

pub no_more : (before : List SpecCard) (c : SpecCard) → expects_data c ≡ false → wanted (before ++ c ∷ []) ≡ wanted before
no_more before c e = wanted-push before c ∙ ap (λ b. wanted before + cond b 1 0) e ∙ omega arith

pub above_zero : (m : ℕ) → (suc m == 0) ≡ false
above_zero m = by (suc m == 0) refl
  where
    by : (b : Bool) → (suc m == 0) ≡ b → b ≡ false
    by true e = let same = eqb-true (suc m) 0 e in absurd (omega arith)
    by false e = refl

-- the decks after the first one
after_more : (n : ℕ) (cards : List SpecCard) → after_deck_begin (suc n) cards ≡ option_and_then (after_deck_begin n) (after_deck_begin 0 cards)
after_more n [] = refl
after_more n (c ∷ cs) = by (begins_table_data c) (after_more n cs)
  where
    by : (b : Bool) → after_deck_begin (suc n) cs ≡ option_and_then (after_deck_begin n) (after_deck_begin 0 cs)
        → cond b (cond (suc n == 0) (Some cs) (after_deck_begin (suc n - 1) cs)) (after_deck_begin (suc n) cs)
        ≡ option_and_then (after_deck_begin n) (cond b (cond (0 == 0) (Some cs) (after_deck_begin (0 - 1) cs)) (after_deck_begin 0 cs))
    by true e =
        let less : suc n - 1 ≡ n = omega arith in
        ap (λ b. cond b (Some cs) (after_deck_begin (suc n - 1) cs)) (above_zero n) ∙ ap (λ k. after_deck_begin k cs) less
    by false e = e

after_taken : (n : ℕ) (cards : List SpecCard) (o : Option (Bor (List SpecCard))) (empty r : Bor (List SpecCard))
    → option_map (λ (f : Bor (List SpecCard)). f.now) o ≡ after_deck_begin 0 cards → r ≡ unwrap_or o empty → empty.now ≡ [] → after_deck_begin n r.now ≡ after_deck_begin (suc n) cards
after_taken n cards None empty r first is nothing =
    ap (λ (b : Bor (List SpecCard)). after_deck_begin n b.now) is ∙ ap (after_deck_begin n) nothing ∙ ap (option_and_then (after_deck_begin n)) first ∙ sym (after_more n cards)
after_taken n cards (Some f) empty r first is nothing =
    ap (λ (b : Bor (List SpecCard)). after_deck_begin n b.now) is ∙ ap (option_and_then (after_deck_begin n)) first ∙ sym (after_more n cards)

-- ---- one more card

not_data : (s : Spec) → option_map_or (λ (e : ExtensionSpec). is_some e.entries_per_card) (extension_on s) false ≡ true → option_map_or is_deck_begin (data_on s) false ≡ false
not_data (spec.Header x) wants = refl
not_data (spec.File x) wants = refl
not_data (spec.Extension x) wants = refl
not_data (spec.Form x) wants = refl
not_data (spec.Input x) wants = refl
not_data (spec.Calculation x) wants = refl
not_data (spec.Output x) wants = refl
not_data (spec.Data x) wants = absurd cc

begun-push : (before : List SpecCard) (c : SpecCard) (b : Bool) → begins_table_data c ≡ b → count_by begins_table_data (before ++ c ∷ []) ≡ count_by begins_table_data before + cond b 1 0
begun-push before c b e = sum_by_push (λ d. cond (begins_table_data d) 1 0) before c ∙ ap (λ t. count_by begins_table_data before + cond t 1 0) e

pub with_taken : (cards before : List SpecCard) (c : SpecCard) (d : Decks) (o : Option (Bor (List SpecCard))) (empty r : Bor (List SpecCard))
    → option_map (λ (f : Bor (List SpecCard)). f.now) o ≡ after_deck_begin 0 d.rest.now → r ≡ unwrap_or o empty → empty.now ≡ [] → expects_data c ≡ true
    → AreDecks cards before d → AreDecks cards (before ++ c ∷ []) (record { rest = r; wanted = d.wanted; begun = d.begun })
with_taken cards before c d o empty r first is nothing wants was =
    let more = begun-push before c false (not_data c.spec wants) in
    let begun = was.begun in
    let few = was.few in
    let length = length-append before (c ∷ []) in
    record {
      rest = λ n. after_taken n d.rest.now o empty r first is nothing ∙ was.rest (suc n) ∙ ap (λ k. after_deck_begin k cards) (let next = one_more before c wants in omega arith);
      expected = was.expected;
      begun = omega arith;
      few = omega arith;
    }

pub with_deck : (cards before : List SpecCard) (c : SpecCard) (d : Decks) (n : ℕ) → expects_data c ≡ false → begins_table_data c ≡ true → n ≡ d.begun + 1
    → AreDecks cards before d → AreDecks cards (before ++ c ∷ []) (record { rest = d.rest; wanted = d.wanted; begun = n })
with_deck cards before c d n wants begins is was =
    let more = begun-push before c true begins in
    let begun = was.begun in
    let few = was.few in
    let length = length-append before (c ∷ []) in
    record {
      rest = λ m. was.rest m ∙ ap (λ k. after_deck_begin (k + m) cards) (sym (no_more before c wants));
      expected = was.expected;
      begun = omega arith;
      few = omega arith;
    }

pub with_other : (cards before : List SpecCard) (c : SpecCard) (d : Decks) → expects_data c ≡ false → begins_table_data c ≡ false → AreDecks cards before d → AreDecks cards (before ++ c ∷ []) d
with_other cards before c d wants begins was =
    let more = begun-push before c false begins in
    let begun = was.begun in
    let few = was.few in
    let length = length-append before (c ∷ []) in
    record {
      rest = λ m. was.rest m ∙ ap (λ k. after_deck_begin (k + m) cards) (sym (no_more before c wants));
      expected = was.expected;
      begun = omega arith;
      few = omega arith;
    }

-- ---- the texts of a deck, card by card

texts_at : (cards : List SpecCard) (i : ℕ) (c : SpecCard) → i < length cards → c ≡ get_or cards i c
    → followers data_role (drop i cards) ≡ followers_with (data_role c.spec) (followers data_role (drop (i + 1) cards))
texts_at cards i c less is =
    ap (followers data_role) (drop-cons cards i c less) ∙ ap (λ (d : SpecCard). followers data_role (d ∷ drop (suc i) cards)) (sym is)
    ∙ ap (λ k. followers_with (data_role c.spec) (followers data_role (drop k cards))) (sym (add-one i))

pub texts-card : (cards : List SpecCard) (i : ℕ) (c : SpecCard) (text : List ℕ) → i < length cards → c ≡ get_or cards i c → data_on c.spec ≡ Some (deck.Card text)
    → followers data_role (drop i cards) ≡ text ∷ followers data_role (drop (i + 1) cards)
texts-card cards i c text less is on = texts_at cards i c less is ∙ ap (λ (d : Option DataSpec). followers_with (role_on data_card_role d) (followers data_role (drop (i + 1) cards))) on

pub texts-other : (cards : List SpecCard) (i : ℕ) (c : SpecCard) → i < length cards → c ≡ get_or cards i c → data_on c.spec ≡ None
    → followers data_role (drop i cards) ≡ followers data_role (drop (i + 1) cards)
texts-other cards i c less is on = texts_at cards i c less is ∙ ap (λ (d : Option DataSpec). followers_with (role_on data_card_role d) (followers data_role (drop (i + 1) cards))) on
