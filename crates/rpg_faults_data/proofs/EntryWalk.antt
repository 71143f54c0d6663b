-- The first entry that is wrong, entry by entry and card by card.
use Rattle.std.proofs.Common.{◌≡◌, ℕ, suc, ◌+◌, ◌-◌, ◌≤◌, ◌<◌, ◌⊎◌, inl, inr, true, false, List, [], ◌∷◌, ◌++◌, map, length, take, drop, min, get_or, Option, None, Some, refl, sym, ap, ◌∙◌, arith, append-nil, drop-cons, add-one}
use Rattle.std.proofs.Math.Seq.{take-append-add}
use Rattle.std.proofs.lemmas.Bool.{cases_lt}
use Rattle.std.proofs.lemmas.List.{take-append-le}
use Rattle.std.proofs.lemmas.List.FromFn.{length-map-range_with_len, take-map-range_with_len}
use Rattle.std.proofs.lemmas.Simd.{map-map}
use Rattle.std.specs.List.{flat_map, last_or, range_with_len}
use Rattle.std.specs.Option.{is_some, option_or}
use Rattle.rpg_cards.proofs.FirstLemmas.{option_or_assoc}
use Rattle.rpg_cards.specs.Cards.{data_on}
use Rattle.rpg_cards.specs.declared.spec_card.SpecCard.{SpecCard}
use Rattle.rpg_faults_data.specs.Causes.{DataCard, PlacedEntry, data_card, deck_cards, first_wrong, placed_entries, placed_entry_on, with_data_card, wrong_entry}
use Rattle.rpg_faults_data.specs.declared.wrong_entry.EntryCause.{EntryCause}
use Rattle.rpg_faults_data.specs.Data.{entry_on}
use Rattle.rpg_sheet_specs.specs.declared.data.DataSpec.{DataSpec}
use Rattle.rpg_sheet_specs.specs.declared.data.DataSpec.TheVariants as deck
use Rattle.rpg_sheet_specs.specs.declared.extension.TableSpec.{TableSpec}

or_some_is : {X : Type 0} (a b : Option X) → is_some a ≡ true → option_or a b ≡ a
or_some_is None b e = absurd cc
or_some_is (Some x) b e = refl

or_none_is : {X : Type 0} (a b : Option X) → is_some a ≡ false → option_or a b ≡ b
or_none_is None b e = refl
or_none_is (Some x) b e = absurd cc

-- ---- entries of one card, by their numbers

module _ (t : TableSpec) (k : ℕ) (o : Option (List ℕ)) (entry : ℕ → PlacedEntry) (i n : ℕ) (all found : Option EntryCause)
    (less : i < n) (so_far : all ≡ first_wrong t k o (map entry (range_with_len i (n - i)))) (here : found ≡ wrong_entry t k o (entry i)) where
  abbrev rest : List PlacedEntry
  rest = map entry (range_with_len (i + 1) (n - (i + 1)))

  next : all ≡ option_or found (first_wrong t (k + 1) (Some (entry i).text) rest)
  next =
      let one_more : n - i ≡ suc (n - (i + 1)) = omega arith in
      so_far ∙ ap (λ m. first_wrong t k o (map entry (range_with_len i m))) one_more
      ∙ ap (λ f. option_or f (first_wrong t (k + 1) (Some (entry i).text) rest)) (sym here)

  pub found_here : is_some found ≡ true → found ≡ all
  found_here wrong = sym (next ∙ or_some_is found (first_wrong t (k + 1) (Some (entry i).text) rest) wrong)

  pub not_here : (m : ℕ) (x : List ℕ) → is_some found ≡ false → m ≡ k + 1 → x ≡ (entry i).text → all ≡ first_wrong t m (Some x) rest
  not_here m x right is text =
      next ∙ or_none_is found (first_wrong t (k + 1) (Some (entry i).text) rest) right
      ∙ ap (λ j. first_wrong t j (Some (entry i).text) rest) (sym is) ∙ ap (λ y. first_wrong t m (Some y) rest) (sym text)

-- ---- the entries of a card, and those of the cards after it

module _ {C X : Type 0} (f : C → ℕ → X) (per_card : ℕ) where
  abbrev on : ℕ → C → List X
  on n c = map (f c) (range_with_len 0 n)

  abbrev some : ℕ → List C → List X
  some n cards = take n (flat_map (on per_card) cards)

  few_on : (n : ℕ) (c : C) (cs : List C) → n ≤ per_card → some n (c ∷ cs) ≡ on n c
  few_on n c cs few =
      let all : n ≤ length (on per_card c) = omega (arith, length-map-range_with_len (f c) 0 per_card) in
      take-append-le n (on per_card c) (flat_map (on per_card) cs) all ∙ take-map-range_with_len (f c) 0 per_card n few

  more_on : (m : ℕ) (c : C) (cs : List C) → some (per_card + m) (c ∷ cs) ≡ on per_card c ++ some m cs
  more_on m c cs =
      ap (λ k. take (k + m) (on per_card c ++ flat_map (on per_card) cs)) (sym (length-map-range_with_len (f c) 0 per_card))
      ∙ take-append-add (on per_card c) (flat_map (on per_card) cs) m

  split_on : (n k m : ℕ) (c : C) (cs : List C) → ((k ≡ n) × (n ≤ per_card) × (m ≡ 0)) ⊎ ((k ≡ per_card) × (n ≡ per_card + m)) → some n (c ∷ cs) ≡ on k c ++ some m cs
  split_on n k m c cs (inl (e, few, none)) =
      few_on n c cs few ∙ ap (λ j. on j c) (sym e) ∙ sym (append-nil (on k c)) ∙ ap (λ j. on k c ++ some j cs) (sym none)
  split_on n k m c cs (inr (e, more)) = ap (λ j. some j (c ∷ cs)) more ∙ more_on m c cs ∙ ap (λ j. on j c ++ some m cs) (sym e)

  some_on : (n : ℕ) (c : C) (cs : List C) → some n (c ∷ cs) ≡ on (min n per_card) c ++ some (n - min n per_card) cs
  some_on n c cs = split_on n (min n per_card) (n - min n per_card) c cs (by (cases_lt per_card n))
    where
      by : (per_card < n) ⊎ (n ≤ per_card) → ((min n per_card ≡ n) × (n ≤ per_card) × (n - min n per_card ≡ 0)) ⊎ ((min n per_card ≡ per_card) × (n ≡ per_card + (n - min n per_card)))
      by (inl less) = inr (omega arith, omega arith)
      by (inr few) = inl (omega arith, few, omega arith)

abbrev text_of : PlacedEntry → List ℕ
text_of e = e.text

wrong_after : (t : TableSpec) (k : ℕ) (o : Option (List ℕ)) (es gs : List PlacedEntry)
    → first_wrong t k o (es ++ gs) ≡ option_or (first_wrong t k o es) (first_wrong t (k + length es) (last_or o (map text_of es)) gs)
wrong_after t k o [] gs = let same : k ≡ k + 0 = omega arith in ap (λ m. first_wrong t m o gs) same
wrong_after t k o (e ∷ es) gs =
    let here = wrong_entry t k o e in
    let last = last_or (Some e.text) (map text_of es) in
    let same : k + 1 + length es ≡ k + length (e ∷ es) = omega arith in
    ap (option_or here) (wrong_after t (k + 1) (Some e.text) es gs)
    ∙ sym (option_or_assoc here (first_wrong t (k + 1) (Some e.text) es) (first_wrong t (k + 1 + length es) last gs))
    ∙ ap (λ m. option_or (option_or here (first_wrong t (k + 1) (Some e.text) es)) (first_wrong t m last gs)) same

-- ---- a step over the cards: so many entries of one, and those of the cards after it

module _ (t : TableSpec) (k : ℕ) (o : Option (List ℕ)) (width from len n per_card count : ℕ) (d : DataCard) (ds cards : List DataCard) (all found : Option EntryCause)
    (least : count ≡ min n per_card) (split : cards ≡ d ∷ ds) (so_far : all ≡ first_wrong t k o (placed_entries n per_card width from len cards))
    (here : found ≡ first_wrong t k o (map (placed_entry_on width from len d) (range_with_len 0 count))) where
  abbrev own : ℕ → List PlacedEntry
  own m = map (placed_entry_on width from len d) (range_with_len 0 m)

  abbrev following : ℕ → List PlacedEntry
  following m = placed_entries m per_card width from len ds

  last_is : last_or o (map text_of (own count)) ≡ last_or o (map (entry_on width from len d.text) (range_with_len 0 count))
  last_is = ap (last_or o) (map-map text_of (placed_entry_on width from len d) (range_with_len 0 count))

  card_by_card : all ≡ option_or found (first_wrong t (k + count) (last_or o (map (entry_on width from len d.text) (range_with_len 0 count))) (following (n - count)))
  card_by_card =
      so_far ∙ ap (λ l. first_wrong t k o (placed_entries n per_card width from len l)) split
      ∙ ap (first_wrong t k o) (some_on (placed_entry_on width from len) per_card n d ds)
      ∙ ap (λ m. first_wrong t k o (own m ++ following (n - m))) (sym least)
      ∙ wrong_after t k o (own count) (following (n - count))
      ∙ ap (λ f. option_or f (first_wrong t (k + length (own count)) (last_or o (map text_of (own count))) (following (n - count)))) (sym here)
      ∙ ap (λ m. option_or found (first_wrong t (k + m) (last_or o (map text_of (own count))) (following (n - count)))) (length-map-range_with_len (placed_entry_on width from len d) 0 count)
      ∙ ap (λ l. option_or found (first_wrong t (k + count) l (following (n - count)))) last_is

  pub found_on_card : is_some found ≡ true → found ≡ all
  found_on_card some =
      sym (card_by_card ∙ or_some_is found (first_wrong t (k + count) (last_or o (map (entry_on width from len d.text) (range_with_len 0 count))) (following (n - count))) some)

  pub not_on_card : (m left : ℕ) (next : Option (List ℕ)) → is_some found ≡ false → m ≡ k + count → left ≡ n - count
      → next ≡ last_or o (map (entry_on width from len d.text) (range_with_len 0 count)) → all ≡ first_wrong t m next (placed_entries left per_card width from len ds)
  not_on_card m left next none number fewer last =
      card_by_card ∙ or_none_is found (first_wrong t (k + count) (last_or o (map (entry_on width from len d.text) (range_with_len 0 count))) (following (n - count))) none
      ∙ ap (λ j. first_wrong t j (last_or o (map (entry_on width from len d.text) (range_with_len 0 count))) (following (n - count))) (sym number)
      ∙ ap (λ l. first_wrong t m l (following (n - count))) (sym last) ∙ ap (λ j. first_wrong t m next (following j)) (sym fewer)

-- a card that isn't one of data
pub kept : (t : TableSpec) (k : ℕ) (o : Option (List ℕ)) (width from len n per_card : ℕ) (ds cards : List DataCard) (all : Option EntryCause) (m left : ℕ) (next : Option (List ℕ))
    → cards ≡ ds → all ≡ first_wrong t k o (placed_entries n per_card width from len cards) → m ≡ k → left ≡ n → next ≡ o
    → all ≡ first_wrong t m next (placed_entries left per_card width from len ds)
kept t k o width from len n per_card ds cards all m left next split so_far number fewer last =
    so_far ∙ ap (λ l. first_wrong t k o (placed_entries n per_card width from len l)) split
    ∙ ap (λ j. first_wrong t j o (placed_entries n per_card width from len ds)) (sym number)
    ∙ ap (λ b. first_wrong t m b (placed_entries n per_card width from len ds)) (sym last)
    ∙ ap (λ j. first_wrong t m next (placed_entries j per_card width from len ds)) (sym fewer)

-- ---- the cards of a deck, one by one

cards_at : (cards : List SpecCard) (i : ℕ) (c : SpecCard) → i < length cards → c ≡ get_or cards i c
    → deck_cards (drop i cards) ≡ with_data_card c.number (data_on c.spec) (deck_cards (drop (i + 1) cards))
cards_at cards i c less is =
    ap deck_cards (drop-cons cards i c less) ∙ ap (λ (d : SpecCard). deck_cards (d ∷ drop (suc i) cards)) (sym is)
    ∙ ap (λ k. with_data_card c.number (data_on c.spec) (deck_cards (drop k cards))) (sym (add-one i))

module _ (cards : List SpecCard) (i : ℕ) (c : SpecCard) (less : i < length cards) (is : c ≡ get_or cards i c) where
  pub at_data : (text : List ℕ) → data_on c.spec ≡ Some (deck.Card text) → deck_cards (drop i cards) ≡ data_card c.number text ∷ deck_cards (drop (i + 1) cards)
  at_data text on = cards_at cards i c less is ∙ ap (λ (d : Option DataSpec). with_data_card c.number d (deck_cards (drop (i + 1) cards))) on

  pub at_other : data_on c.spec ≡ None → deck_cards (drop i cards) ≡ deck_cards (drop (i + 1) cards)
  at_other on = cards_at cards i c less is ∙ ap (λ (d : Option DataSpec). with_data_card c.number d (deck_cards (drop (i + 1) cards))) on
