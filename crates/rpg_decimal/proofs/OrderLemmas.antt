-- The order of texts.
use Rattle.std.proofs.Common.{◌≡◌, ◌≢◌, ℕ, ◌+◌, ◌-◌, ◌<◌, max, Bool, ◌&&◌, eqb, eqb-true, List, [], ◌∷◌, length, get_or, drop, replicate, refl, sym, ap, ap₂, ◌∙◌, arith, length-append, inl, inr, nat_cmp, Ordering, Less, Equal, Greater, true, false, not, ◌==◌, true≢false}
use Rattle.std.specs.Ordering.{ordering_then, ordering_index}
use Rattle.std.specs.Cmp.Lexicographic.{pointwise, slice_cmp}
use Rattle.std.proofs.lemmas.Bool.{cases_lt}
use Rattle.std.proofs.lemmas.Bool.Decides.{nat_tests}
use Rattle.std.proofs.lemmas.List.{drop_more, length-replicate, get_or_append_left, get_or-append_right, get_or-replicate, get_or_past, get_or_default}
use Rattle.rpg_decimal_words.specs.Order.{padded_text, character_cmp, rank}

length-padded : (n : ℕ) (text : List ℕ) → length (padded_text n text) ≡ max (length text) n
length-padded n text = length-append text (replicate (n - length text) 32) ∙ ap (λ k. length text + k) (length-replicate (n - length text) 32) ∙ omega arith

pub padded_character : (n : ℕ) (text : List ℕ) (i : ℕ) → i < max (length text) n → get_or (padded_text n text) i 0 ≡ get_or text i 32
padded_character n text i h =
    elim (cases_lt i (length text)) [
      | inl inside ↦ get_or_append_left text (replicate (n - length text) 32) 0 i inside ∙ get_or_default text i 0 32 inside
      | inr following ↦
          get_or-append_right text (replicate (n - length text) 32) (length text) i 0 refl following
          ∙ get_or-replicate (n - length text) (i - length text) 32 0 (omega arith)
          ∙ sym (get_or_past text i 32 following)
    ]

nat_cmp_refl : (n : ℕ) → nat_cmp n n ≡ Equal
nat_cmp_refl n = grind (arith, nat_tests)

pub same_character : (x y : ℕ) → x ≡ y → character_cmp x y ≡ Equal
same_character x y e = ap (λ z. nat_cmp (rank x) (rank z)) (sym e) ∙ nat_cmp_refl (rank x)

abbrev pub compared_from : List ℕ → List ℕ → ℕ → Ordering
compared_from a b i = slice_cmp character_cmp (drop i (padded_text (length b) a)) (drop i (padded_text (length a) b))

-- one character, and those after it
pub compared_more : (a b : List ℕ) (i : ℕ) → i < max (length a) (length b) → compared_from a b i ≡ ordering_then (character_cmp (get_or a i 32) (get_or b i 32)) (compared_from a b (i + 1))
compared_more a b i h =
    let p = padded_text (length b) a in
    let q = padded_text (length a) b in
    let long_p = length-padded (length b) a in
    let long_q = length-padded (length a) b in
    ap₂ (slice_cmp character_cmp) (drop_more p i 0 (omega arith)) (drop_more q i 0 (omega arith))
    ∙ ap₂ (λ x y. ordering_then (character_cmp x y) (compared_from a b (i + 1))) (padded_character (length b) a i h) (padded_character (length a) b i (omega arith))

pub then-other : (o rest : Ordering) → o ≢ Equal → ordering_then o rest ≡ o
then-other Less rest h = refl
then-other Equal rest h = absurd (h refl)
then-other Greater rest h = refl

-- what the tests `!=` of an order say
pub other_order : (o : Ordering) → true ≡ not (ordering_index o == 1) → o ≢ Equal
other_order Less h = λ e. cc
other_order Equal h = λ e. true≢false h
other_order Greater h = λ e. cc

pub equal_order : (o : Ordering) → false ≡ not (ordering_index o == 1) → o ≡ Equal
equal_order Less h = absurd (true≢false (sym h))
equal_order Equal h = refl
equal_order Greater h = absurd (true≢false (sym h))

-- equal texts
tied : (text : List ℕ) → slice_cmp character_cmp text text ≡ Equal
tied [] = refl
tied (x ∷ xs) = ap₂ ordering_then (same_character x x refl) (tied xs)

alike : (a b : List ℕ) → pointwise eqb a b ≡ true → a ≡ b
alike [] [] h = refl
alike [] (y ∷ ys) h = cc
alike (x ∷ xs) [] h = cc
alike (x ∷ xs) (y ∷ ys) h = by_first (alike xs ys) (eqb x y) refl h
  where
    by_first : (pointwise eqb xs ys ≡ true → xs ≡ ys) → (t : Bool) → eqb x y ≡ t → (t && pointwise eqb xs ys) ≡ true → (x ∷ xs) ≡ (y ∷ ys)
    by_first rest true e more = ap (λ z. z ∷ xs) (eqb-true x y e) ∙ ap (λ zs. y ∷ zs) (rest more)
    by_first rest false e more = cc

pub equal_texts : (a b : List ℕ) → pointwise eqb a b ≡ true → Equal ≡ slice_cmp character_cmp (padded_text (length b) a) (padded_text (length a) b)
equal_texts a b h =
    let e = alike a b h in
    sym (ap (λ (x : List ℕ). slice_cmp character_cmp (padded_text (length b) a) (padded_text (length x) b)) e
    ∙ ap (λ (x : List ℕ). slice_cmp character_cmp (padded_text (length b) x) (padded_text (length b) b)) e
    ∙ tied (padded_text (length b) b))
