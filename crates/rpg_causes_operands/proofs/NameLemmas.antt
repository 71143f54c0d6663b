-- Definitions that are compared with those before them, one by one.
use Rattle.std.proofs.Common.{◌≡◌, ℕ, ◌+◌, ◌<◌, ◌≤◌, ◌||◌, false, List, [], ◌∷◌, ◌++◌, length, take, drop, get_or, refl, sym, ap, ◌∙◌, None, arith, append_assoc, length-append}
use Rattle.std.proofs.Math.Seq.{take-append-add, take-append_seam}
use Rattle.std.proofs.lemmas.List.{drop_more, take-append-le, take_more}
use Rattle.std.specs.Option.{option_or}
use Rattle.rpg_cards.proofs.ItemLemmas.{definitions-append, few_definitions}
use Rattle.rpg_cards.specs.Names.{definitions, definitions_on}
use Rattle.rpg_cards.specs.declared.names.Definition.{Definition}
use Rattle.rpg_cards.specs.declared.spec_card.SpecCard.{SpecCard}
use Rattle.rpg_causes_operands.specs.Names.{redefined_among, redefined_by}
use Rattle.rpg_faults_limits.specs.Names.{redefine, redefines_as}

module _ (all front items back : List Definition) (place : ℕ) (at : place ≡ length front) (stand : all ≡ front ++ (items ++ back)) where
  -- the items at the front of a card stand after the definitions of the cards before
  in_front : (i : ℕ) → i ≤ length items → take (place + i) all ≡ front ++ take i items
  in_front i within =
      ap (λ n. take (n + i) all) at ∙ ap (take (length front + i)) stand ∙ take-append-add front (items ++ back) i ∙ ap (λ (l : List Definition). front ++ l) (take-append-le i items back within)

  pub one_kept : (i : ℕ) (d : Definition) → i < length items → d ≡ get_or items i d → redefines_as (take (place + i) all) d ≡ false
      → redefine (take (place + i) all) (drop i items) ≡ redefine (take (place + (i + 1)) all) (drop (i + 1) items)
  one_kept i d lt is same =
      let taken : take (i + 1) items ≡ take i items ++ d ∷ [] = rw (take_more items i d lt, ← is) refl in
      let left : drop i items ≡ d ∷ drop (i + 1) items = rw (drop_more items i d lt, ← is) refl in
      let here : take (place + i) all ≡ front ++ take i items = in_front i (omega arith) in
      let next : take (place + (i + 1)) all ≡ front ++ take (i + 1) items = in_front (i + 1) (omega arith) in
      let pushed : take (place + i) all ++ d ∷ [] ≡ take (place + (i + 1)) all =
      ap (λ (l : List Definition). l ++ d ∷ []) here ∙ append_assoc front (take i items) (d ∷ []) ∙ ap (λ (l : List Definition). front ++ l) (sym taken) ∙ sym next in
      ap (redefine (take (place + i) all)) left ∙ ap (λ b. b || redefine (take (place + i) all ++ d ∷ []) (drop (i + 1) items)) same ∙ ap (λ ds. redefine ds (drop (i + 1) items)) pushed

-- ---- the definitions of a card stand after those of the cards before

pub card_stands : (cards before : List SpecCard) (c : SpecCard) (after : List SpecCard) (items : List Definition) → cards ≡ before ++ c ∷ after → items ≡ definitions_on c.spec
    → definitions cards ≡ definitions before ++ (items ++ definitions after)
card_stands cards before c after items split is = ap definitions split ∙ definitions-append before (c ∷ after) ∙ ap (λ ds. definitions before ++ (ds ++ definitions after)) (sym is)

pub taken_before : (cards before : List SpecCard) (c : SpecCard) (after : List SpecCard) (items : List Definition) (place : ℕ) → cards ≡ before ++ c ∷ after → items ≡ definitions_on c.spec
    → place ≡ length (definitions before) → take place (definitions cards) ≡ definitions before
taken_before cards before c after items place split is at =
    ap (λ n. take n (definitions cards)) at ∙ ap (take (length (definitions before))) (card_stands cards before c after items split is)
    ∙ take-append_seam (definitions before) (items ++ definitions after)

-- a definition without a cause, and those after it
pub one_less : (cards : List SpecCard) (all front items back : List Definition) (place : ℕ) → place ≡ length front → all ≡ front ++ (items ++ back)
    → (i : ℕ) (d : Definition) → i < length items → d ≡ get_or items i d → redefined_by cards (take (place + i) all) d ≡ None
    → redefined_among cards (take (place + i) all) (drop i items) ≡ redefined_among cards (take (place + (i + 1)) all) (drop (i + 1) items)
one_less cards all front items back place at stand i d lt is none =
    let taken : take (i + 1) items ≡ take i items ++ d ∷ [] = rw (take_more items i d lt, ← is) refl in
    let left : drop i items ≡ d ∷ drop (i + 1) items = rw (drop_more items i d lt, ← is) refl in
    let here : take (place + i) all ≡ front ++ take i items = in_front all front items back place at stand i (omega arith) in
    let next : take (place + (i + 1)) all ≡ front ++ take (i + 1) items = in_front all front items back place at stand (i + 1) (omega arith) in
    let pushed : take (place + i) all ++ d ∷ [] ≡ take (place + (i + 1)) all =
    ap (λ (l : List Definition). l ++ d ∷ []) here ∙ append_assoc front (take i items) (d ∷ []) ∙ ap (λ (l : List Definition). front ++ l) (sym taken) ∙ sym next in
    ap (redefined_among cards (take (place + i) all)) left
    ∙ ap (λ x. option_or x (redefined_among cards (take (place + i) all ++ d ∷ []) (drop (i + 1) items))) none
    ∙ ap (λ ds. redefined_among cards ds (drop (i + 1) items)) pushed

-- the cards before a card define no more than 4,000 names
pub few_before : (cards before : List SpecCard) (c : SpecCard) (after : List SpecCard) → cards ≡ before ++ c ∷ after → length cards ≤ 2000 → length (definitions before) ≤ 4000
few_before cards before c after split few =
    let same : length cards ≡ length (before ++ c ∷ after) = ap length split in
    omega (arith, few_definitions before, length-append before (c ∷ after))
