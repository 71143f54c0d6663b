-- The place of an item among items of which equal ones are kept once.
use Rattle.std.proofs.Common.{◌≡◌, ℕ, ◌+◌, ◌<◌, ◌≤◌, Bool, true, false, not, cond, ◌||◌, List, [], ◌∷◌, ◌++◌, length, take, drop, get_or, Option, None, Some, refl, sym, ap, ◌∙◌, subst, arith, append_assoc, append-nil, length-append}
use Rattle.std.proofs.Math.ListN.{get_or-append}
use Rattle.std.proofs.Math.Seq.{take-append_seam}
use Rattle.std.proofs.lemmas.Bool.{ltb-false, ltb-true}
use Rattle.std.proofs.lemmas.Bool.Decides.{nat_tests}
use Rattle.std.proofs.lemmas.List.{get_or-append-add, length_push, take-append-drop, take-append-le, take_more}
use Rattle.std.proofs.lemmas.List.Folds.{position_or_len_push}
use Rattle.std.proofs.lemmas.List.Sums.{prefix_len-le-length}
use Rattle.std.proofs.lemmas.Option.{get_or_from_slice_get, slice_get_read, slice_get_within}
use Rattle.std.specs.Cmp.{IsEquivalence}
use Rattle.std.specs.List.{list_any, position_or_len}
use Rattle.std.specs.Option.{is_some, option_map, option_or}
use Rattle.std.specs.Prelude.{nat_eq, nat_lt, position, slice_get}
use Rattle.rpg_cards.proofs.FirstLemmas.{any_first, first_at-append}
use Rattle.rpg_cards.proofs.InsertLemmas.{alike, with_one}
use Rattle.rpg_card_index.specs.Index.{placed_definition, StandAt}
use Rattle.rpg_card_index.specs.declared.name_index.FirstDefinition.{FirstDefinition}
use Rattle.rpg_cards.specs.First.{first_at}
use Rattle.rpg_cards.specs.Insertions.{insert_all}
use Rattle.rpg_cards.specs.declared.names.Definition.{Definition}
use Rattle.rpg_cards.specs.declared.spec_card.SpecCard.{SpecCard}

-- ---- the place of the first item that passes a test, with one more item

place_cases : (i n : ℕ) (b : Bool) → i ≤ n
    → cond (nat_lt (cond (nat_eq i n) (n + cond b 0 1) i) (n + 1)) (Some (cond (nat_eq i n) (n + cond b 0 1) i)) None ≡ option_or (cond (nat_lt i n) (Some i) None) (cond b (Some n) None)
place_cases i n true low = by_cases (nat_lt i n) refl
  where
    by_cases : (t : Bool) → nat_lt i n ≡ t → cond (nat_lt (cond (nat_eq i n) (n + 0) i) (n + 1)) (Some (cond (nat_eq i n) (n + 0) i)) None ≡ option_or (cond t (Some i) None) (Some n)
    by_cases true e = let lt : i < n = ltb-true i n e in grind (arith, nat_tests)
    by_cases false e = let ge : n ≤ i = ltb-false i n e in grind (arith, nat_tests)
place_cases i n false low = by_cases (nat_lt i n) refl
  where
    by_cases : (t : Bool) → nat_lt i n ≡ t → cond (nat_lt (cond (nat_eq i n) (n + 1) i) (n + 1)) (Some (cond (nat_eq i n) (n + 1) i)) None ≡ option_or (cond t (Some i) None) None
    by_cases true e = let lt : i < n = ltb-true i n e in grind (arith, nat_tests)
    by_cases false e = let ge : n ≤ i = ltb-false i n e in grind (arith, nat_tests)

position_push : {X : Type 0} (p : X → Bool) (xs : List X) (y : X) → position p (xs ++ y ∷ []) ≡ option_or (position p xs) (cond (p y) (Some (length xs)) None)
position_push p xs y =
    let i = position_or_len p xs in
    let at : position_or_len p (xs ++ y ∷ []) ≡ cond (nat_eq i (length xs)) (length xs + cond (p y) 0 1) i = position_or_len_push p xs y in
    ap (λ n. cond (nat_lt (position_or_len p (xs ++ y ∷ [])) n) (Some (position_or_len p (xs ++ y ∷ []))) None) (length_push xs y)
    ∙ ap (λ j. cond (nat_lt j (length xs + 1)) (Some j) None) at ∙ place_cases i (length xs) (p y) (prefix_len-le-length (λ x. not (p x)) xs)

-- ---- the place of an item among those that are kept

-- an item's own place in a list
abbrev pub own_place : {X : Type 0} → ℕ → X → ℕ
own_place i x = i

or_none : (o : Option ℕ) → option_or o None ≡ o
or_none None = refl
or_none (Some n) = refl

found_within : {X : Type 0} (test : X → Bool) (i : ℕ) (xs : List X) (p : ℕ) → first_at test own_place i xs ≡ Some p → p < i + length xs
found_within test i [] p e = absurd cc
found_within test i (x ∷ xs) p e = by_test (test x) e (found_within test (i + 1) xs p)
  where
    by_test : (b : Bool) → cond b (Some i) (first_at test own_place (i + 1) xs) ≡ Some p → (first_at test own_place (i + 1) xs ≡ Some p → p < i + 1 + length xs) → p < i + length (x ∷ xs)
    by_test true e rest = let same : i ≡ p = cc in omega arith
    by_test false e rest = let low = rest e in omega arith

-- the place of the first item that passes a test, with one more item
first_push : {X : Type 0} (test : X → Bool) (items : List X) (y : X) → first_at test own_place 0 (items ++ y ∷ []) ≡ option_or (first_at test own_place 0 items) (cond (test y) (Some (length items)) None)
first_push test items y =
    let zero_plus : 0 + length items ≡ length items = omega arith in
    first_at-append test own_place 0 items (y ∷ []) ∙ ap (λ n. option_or (first_at test own_place 0 items) (cond (test y) (Some n) None)) zero_plus

module _ {X : Type 0} (test : X → Bool) where
  same_with : (front xs : List X) → position test front ≡ first_at test own_place 0 front → position test (front ++ xs) ≡ first_at test own_place 0 (front ++ xs)
  same_with front [] was = subst (λ (l : List X). position test l ≡ first_at test own_place 0 l) (sym (append-nil front)) was
  same_with front (y ∷ ys) was =
      subst (λ (l : List X). position test l ≡ first_at test own_place 0 l) (append_assoc front (y ∷ []) ys)
      (same_with (front ++ y ∷ []) ys (position_push test front y ∙ ap (λ o. option_or o (cond (test y) (Some (length front)) None)) was ∙ sym (first_push test front y)))

  -- a position is the place of the first item
  pub position_first : (xs : List X) → position test xs ≡ first_at test own_place 0 xs
  position_first xs = same_with [] xs refl

module _ {X : Type 0} (same : X → X → Bool) (laws : IsEquivalence same) (known : List X) (x : X) where
  -- those that are kept of known items and others
  abbrev kept : List X → List X
  kept items = insert_all same known items

  -- how many are kept before a place
  abbrev kept_before : List X → Option ℕ → Option ℕ
  kept_before items place = option_map (λ p. length (kept (take p items))) place

  -- where the item is among the known ones, or how many are kept before its first place
  abbrev place_of : List X → Option ℕ
  place_of items = option_or (first_at (same x) own_place 0 known) (kept_before items (first_at (same x) own_place 0 items))

  abbrev IsPlaced : List X → Type 0
  IsPlaced items = position (same x) (kept items) ≡ place_of items

  one_placed : (items : List X) (y : X) → IsPlaced items → IsPlaced (items ++ y ∷ [])
  one_placed items y was = by_known (first_at (same x) own_place 0 known) refl was
    where
      kept_is : kept (items ++ y ∷ []) ≡ cond (list_any (same y) known || list_any (same y) items) (kept items) (kept items ++ y ∷ [])
      kept_is = with_one same laws known items y

      -- an item that is there stays where it is
      found_in : (b : Bool) (m : ℕ) → position (same x) (kept items) ≡ Some m → position (same x) (cond b (kept items) (kept items ++ y ∷ [])) ≡ Some m
      found_in true m e = e
      found_in false m e = position_push (same x) (kept items) y ∙ ap (λ q. option_or q (cond (same x y) (Some (length (kept items))) None)) e

      -- another item doesn't bring it in
      absent_in : (b : Bool) → same x y ≡ false → position (same x) (kept items) ≡ None → position (same x) (cond b (kept items) (kept items ++ y ∷ [])) ≡ None
      absent_in true e none = none
      absent_in false e none =
          position_push (same x) (kept items) y ∙ ap (λ q. option_or q (cond (same x y) (Some (length (kept items))) None)) none
          ∙ ap (λ b. cond b (Some (length (kept items))) None) e

      -- the item itself comes after the others
      added : first_at (same x) own_place 0 known ≡ None → first_at (same x) own_place 0 items ≡ None → same x y ≡ true → position (same x) (kept items) ≡ None
          → position (same x) (kept (items ++ y ∷ [])) ≡ Some (length (kept items))
      added unknown none e absent =
          let apart : list_any (same y) items ≡ false = sym (alike same laws items x y e) ∙ any_first (same x) own_place 0 items ∙ ap (λ (o : Option ℕ). is_some o) none in
          let new : list_any (same y) known ≡ false = sym (alike same laws known x y e) ∙ any_first (same x) own_place 0 known ∙ ap (λ (o : Option ℕ). is_some o) unknown in
          ap (position (same x)) (kept_is ∙ ap (λ b. cond (b || list_any (same y) items) (kept items) (kept items ++ y ∷ [])) new ∙ ap (λ b. cond b (kept items) (kept items ++ y ∷ [])) apart)
          ∙ position_push (same x) (kept items) y ∙ ap (λ q. option_or q (cond (same x y) (Some (length (kept items))) None)) absent
          ∙ ap (λ b. cond b (Some (length (kept items))) None) e

      first_is : (o : Option ℕ) → first_at (same x) own_place 0 items ≡ o → first_at (same x) own_place 0 (items ++ y ∷ []) ≡ option_or o (cond (same x y) (Some (length items)) None)
      first_is o e = first_push (same x) items y ∙ ap (λ q. option_or q (cond (same x y) (Some (length items)) None)) e

      whole : take (length items) (items ++ y ∷ []) ≡ items
      whole = take-append_seam items (y ∷ [])

      place_is : first_at (same x) own_place 0 known ≡ None → (o : Option ℕ) → first_at (same x) own_place 0 (items ++ y ∷ []) ≡ o → place_of (items ++ y ∷ []) ≡ kept_before (items ++ y ∷ []) o
      place_is unknown o e = ap (λ q. option_or q (kept_before (items ++ y ∷ []) (first_at (same x) own_place 0 (items ++ y ∷ [])))) unknown ∙ ap (kept_before (items ++ y ∷ [])) e

      by_same : (b : Bool) → same x y ≡ b → first_at (same x) own_place 0 known ≡ None → first_at (same x) own_place 0 items ≡ None → position (same x) (kept items) ≡ None → IsPlaced (items ++ y ∷ [])
      by_same true e unknown none absent =
          let at : first_at (same x) own_place 0 (items ++ y ∷ []) ≡ Some (length items) = first_is None none ∙ ap (λ b. cond b (Some (length items)) None) e in
          added unknown none e absent ∙ ap (λ (l : List X). Some (length (kept l))) (sym whole) ∙ sym (place_is unknown (Some (length items)) at)
      by_same false e unknown none absent =
          let at : first_at (same x) own_place 0 (items ++ y ∷ []) ≡ None = first_is None none ∙ ap (λ b. cond b (Some (length items)) None) e in
          ap (position (same x)) kept_is ∙ absent_in (list_any (same y) known || list_any (same y) items) e absent ∙ sym (place_is unknown None at)

      by_first : (o : Option ℕ) → first_at (same x) own_place 0 known ≡ None → first_at (same x) own_place 0 items ≡ o → position (same x) (kept items) ≡ kept_before items o → IsPlaced (items ++ y ∷ [])
      by_first None unknown e was = by_same (same x y) refl unknown e was
      by_first (Some p) unknown e was =
          let low : p < 0 + length items = found_within (same x) 0 items p e in
          let front : take p (items ++ y ∷ []) ≡ take p items = take-append-le p items (y ∷ []) (omega arith) in
          ap (position (same x)) kept_is ∙ found_in (list_any (same y) known || list_any (same y) items) (length (kept (take p items))) was
          ∙ ap (λ (l : List X). Some (length (kept l))) (sym front) ∙ sym (place_is unknown (Some p) (first_is (Some p) e))

      by_known : (o : Option ℕ) → first_at (same x) own_place 0 known ≡ o → IsPlaced items → IsPlaced (items ++ y ∷ [])
      by_known None e was =
          by_first (first_at (same x) own_place 0 items) e refl (was ∙ ap (λ q. option_or q (kept_before items (first_at (same x) own_place 0 items))) e)
      by_known (Some k) e was =
          ap (position (same x)) kept_is
          ∙ found_in (list_any (same y) known || list_any (same y) items) k (was ∙ ap (λ q. option_or q (kept_before items (first_at (same x) own_place 0 items))) e)
          ∙ sym (ap (λ q. option_or q (kept_before (items ++ y ∷ []) (first_at (same x) own_place 0 (items ++ y ∷ [])))) e)

  more_placed : (items more : List X) → IsPlaced items → IsPlaced (items ++ more)
  more_placed items [] was = subst IsPlaced (sym (append-nil items)) was
  more_placed items (y ∷ ys) was = subst IsPlaced (append_assoc items (y ∷ []) ys) (more_placed (items ++ y ∷ []) ys (one_placed items y was))

  -- an item is where it is among the known ones, or its place is how many are kept before its first one
  pub placed : (items : List X)
      → position (same x) (insert_all same known items)
      ≡ option_or (position (same x) known) (option_map (λ p. length (insert_all same known (take p items))) (first_at (same x) own_place 0 items))
  placed items =
      more_placed [] items (position_first (same x) known ∙ sym (or_none (first_at (same x) own_place 0 known)))
      ∙ ap (λ q. option_or q (kept_before items (first_at (same x) own_place 0 items))) (sym (position_first (same x) known))

-- ---- the place of a name's first definition

pub first_places : (test : Definition → Bool) (i : ℕ) (ds : List Definition) → first_at test own_place i ds ≡ option_map (λ (f : FirstDefinition). f.place) (first_at test placed_definition i ds)
first_places test i [] = refl
first_places test i (d ∷ ds) = by_test (test d) (first_places test (i + 1) ds)
  where
    by_test : (b : Bool) → first_at test own_place (i + 1) ds ≡ option_map (λ (f : FirstDefinition). f.place) (first_at test placed_definition (i + 1) ds)
        → cond b (Some i) (first_at test own_place (i + 1) ds) ≡ option_map (λ (f : FirstDefinition). f.place) (cond b (Some (placed_definition i d)) (first_at test placed_definition (i + 1) ds))
    by_test true rest = refl
    by_test false rest = rest

-- ---- whether an item is kept

module _ {X : Type 0} (same : X → X → Bool) (laws : IsEquivalence same) (known : List X) where
  -- one more is kept with an item that is new
  more_kept : (items : List X) (x : X) → nat_lt (length (insert_all same known items)) (length (insert_all same known (items ++ x ∷ []))) ≡ not (list_any (same x) known || list_any (same x) items)
  more_kept items x = by_test (list_any (same x) known || list_any (same x) items) (with_one same laws known items x)
    where
      by_test : (b : Bool) → insert_all same known (items ++ x ∷ []) ≡ cond b (insert_all same known items) (insert_all same known items ++ x ∷ [])
          → nat_lt (length (insert_all same known items)) (length (insert_all same known (items ++ x ∷ []))) ≡ not b
      by_test true e = let long = ap length e in grind (arith, nat_tests)
      by_test false e = let long = ap length e in let longer = length_push (insert_all same known items) x in grind (arith, nat_tests)

  pub new_at : (items : List X) (i : ℕ) (x : X) → slice_get items i ≡ Some x
      → nat_lt (length (insert_all same known (take i items))) (length (insert_all same known (take (i + 1) items))) ≡ not (list_any (same x) known || list_any (same x) (take i items))
  new_at items i x at =
      let lt : i < length items = slice_get_within items i x at in
      let is : get_or items i x ≡ x = get_or_from_slice_get items i x x at in
      let more : take (i + 1) items ≡ take i items ++ x ∷ [] = take_more items i x lt ∙ ap (λ y. take i items ++ y ∷ []) is in
      ap (λ (l : List X). nat_lt (length (insert_all same known (take i items))) (length (insert_all same known l))) more ∙ more_kept (take i items) x

-- ---- items at a place among others

-- an item of those at a place
pub stands : {X : Type 0} (all xs : List X) (start i : ℕ) (x : X) → StandAt start xs all → i < length xs → x ≡ get_or xs i x → slice_get all (start + i) ≡ Some x
stands {X} all xs start i x at lt is =
    let front = at.0 in
    let back = at.1 in
    let long = ap length at.3 in
    let both = length-append front (xs ++ back) in
    let rest = length-append xs back in
    let here : x ≡ get_or all (start + i) x =
    is ∙ sym (ap (λ (l : List X). get_or l (start + i) x) at.3 ∙ ap (λ n. get_or (front ++ (xs ++ back)) (n + i) x) at.2 ∙ get_or-append-add front (xs ++ back) i x ∙ get_or-append xs back x i lt) in
    slice_get_read all (length all) (start + i) x refl (omega (arith, at.2)) here

-- they are among all
pub stand_within : {X : Type 0} (all xs : List X) (start : ℕ) → StandAt start xs all → start + length xs ≤ length all
stand_within all xs start at =
    let long = ap length at.3 in
    let both = length-append at.0 (xs ++ at.1) in
    let rest = length-append xs at.1 in
    omega (arith, at.2)

-- the first ones of them, and those after these
pub stand_first : {X : Type 0} (all xs ys : List X) (start : ℕ) → StandAt start (xs ++ ys) all → StandAt start xs all
stand_first {X} all xs ys start at = (at.0, ys ++ at.1, at.2, at.3 ∙ ap (λ (l : List X). at.0 ++ l) (append_assoc xs ys at.1))

pub stand_second : {X : Type 0} (all xs ys : List X) (start next : ℕ) → StandAt start (xs ++ ys) all → next ≡ start + length xs → StandAt next ys all
stand_second {X} all xs ys start next at is =
    let long = length-append at.0 xs in
    (at.0 ++ xs, at.1, omega (arith, at.2, is), at.3 ∙ ap (λ (l : List X). at.0 ++ l) (append_assoc xs ys at.1) ∙ sym (append_assoc at.0 xs (ys ++ at.1)))

-- a single one of them
pub stands_alone : {X : Type 0} (all : List X) (place : ℕ) (x : X) → StandAt place (x ∷ []) all → slice_get all place ≡ Some x
stands_alone all place x at =
    let read = stands all (x ∷ []) place 0 x at (omega arith) refl in
    let same : place + 0 ≡ place = omega arith in
    sym (ap (slice_get all) same) ∙ read

module _ {X : Type 0} (on : SpecCard → List X) (of : List SpecCard → List X) (append : (cs ds : List SpecCard) → of (cs ++ ds) ≡ of cs ++ of ds)
    (taken : (cards : List SpecCard) (i : ℕ) (c : SpecCard) → i < length cards → c ≡ get_or cards i c → of (take (i + 1) cards) ≡ of (take i cards) ++ on c) where
  -- the items of a card stand after those of the cards before it
  pub card_stands : (cards : List SpecCard) (i place : ℕ) (c : SpecCard) → i < length cards → c ≡ get_or cards i c → place ≡ length (of (take i cards)) → StandAt place (on c) (of cards)
  card_stands cards i place c lt is at =
      let whole : cards ≡ take (i + 1) cards ++ drop (i + 1) cards = sym (take-append-drop (i + 1) cards) in (
        of (take i cards),
        of (drop (i + 1) cards),
        at,
        ap of whole ∙ append (take (i + 1) cards) (drop (i + 1) cards) ∙ ap (λ (xs : List X). xs ++ of (drop (i + 1) cards)) (taken cards i c lt is)
            ∙ append_assoc (of (take i cards)) (on c) (of (drop (i + 1) cards)),
      )

  -- the next card's items stand after them
  pub next_place : (cards : List SpecCard) (i place : ℕ) (c : SpecCard) → i < length cards → c ≡ get_or cards i c → place ≡ length (of (take i cards)) → place + length (on c) ≡ length (of (take (i + 1) cards))
  next_place cards i place c lt is at =
      let both = length-append (of (take i cards)) (on c) in
      let longer = ap length (taken cards i c lt is) in
      omega (arith, at)
