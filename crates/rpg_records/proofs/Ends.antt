-- The blanks at the end of a text.
use Rattle.std.proofs.Common.{◌≡◌, ℕ, zero, suc, ◌+◌, ◌-◌, ◌==◌, Bool, true, false, cond, List, [], ◌∷◌, ◌++◌, length, take, take_all, drop, replicate, reverse, get_or, refl, sym, ap, ap₂, ◌∙◌, arith, inl, inr, length-append, length-drop}
use Rattle.std.proofs.Math.Seq.{take-append_seam}
use Rattle.std.proofs.lemmas.Bool.{cases_lt, eq-eqb, eqb-true}
use Rattle.std.proofs.lemmas.List.{get_or-append_right, get_or-replicate, get_or_append_left, get_or_past, length-replicate, length-reverse, reverse-append, reverse-reverse}
use Rattle.std.specs.List.{prefix_len, suffix_len}
use Rattle.rpg_text.specs.Texts.{trimmed}

abbrev pub ends_in : ℕ → List ℕ → ℕ
ends_in v xs = suffix_len (λ c. c == v) xs

abbrev begins_in : ℕ → List ℕ → ℕ
begins_in v xs = prefix_len (λ c. c == v) xs

front_again : (v : ℕ) (ys : List ℕ) → replicate (begins_in v ys) v ++ drop (begins_in v ys) ys ≡ ys
front_again v [] = refl
front_again v (y ∷ ys) = at (y == v) refl (front_again v ys)
  where
    at : (b : Bool) → (y == v) ≡ b → replicate (begins_in v ys) v ++ drop (begins_in v ys) ys ≡ ys → replicate (cond b (1 + begins_in v ys) 0) v ++ drop (cond b (1 + begins_in v ys) 0) (y ∷ ys) ≡ y ∷ ys
    at true e more = let next : 1 + begins_in v ys ≡ suc (begins_in v ys) = omega arith in ap (λ (k : ℕ). replicate k v ++ drop k (y ∷ ys)) next ∙ ap₂ (λ (c : ℕ) (cs : List ℕ). c ∷ cs) (sym (eqb-true y v e)) more
    at false e more = refl

one_more : (n v : ℕ) → replicate n v ++ v ∷ [] ≡ v ∷ replicate n v
one_more zero v = refl
one_more (suc n) v = ap (λ (cs : List ℕ). v ∷ cs) (one_more n v)

replicate_reversed : (n v : ℕ) → reverse (replicate n v) ≡ replicate n v
replicate_reversed zero v = refl
replicate_reversed (suc n) v = reverse-append (v ∷ []) (replicate n v) ∙ ap (λ (cs : List ℕ). cs ++ v ∷ []) (replicate_reversed n v) ∙ one_more n v

-- a text is what comes before its end, and its end
pub kept_and_end : (v : ℕ) (xs : List ℕ) → take (length xs - ends_in v xs) xs ++ replicate (ends_in v xs) v ≡ xs
kept_and_end v xs =
    let ys = reverse xs in
    let n = begins_in v ys in
    let kept = reverse (drop n ys) in
    let whole : kept ++ replicate n v ≡ xs =
    ap (λ (cs : List ℕ). kept ++ cs) (sym (replicate_reversed n v)) ∙ sym (reverse-append (replicate n v) (drop n ys)) ∙ ap reverse (front_again v ys) ∙ reverse-reverse xs in
    let long : length kept ≡ length xs - n = omega (arith, length-reverse (drop n ys), length-drop n ys, length-reverse xs) in
    let first : take (length xs - n) xs ≡ kept = ap (λ (k : ℕ). take k xs) (sym long) ∙ ap (take (length kept)) (sym whole) ∙ take-append_seam kept (replicate n v) in
    ap (λ (cs : List ℕ). cs ++ replicate n v) first ∙ whole

begins_more : (n v : ℕ) (ys : List ℕ) → begins_in v (replicate n v ++ ys) ≡ n + begins_in v ys
begins_more zero v ys = omega arith
begins_more (suc n) v ys =
    let more = begins_more n v ys in
    ap (λ (b : Bool). cond b (1 + begins_in v (replicate n v ++ ys)) 0) (eq-eqb v v refl) ∙ omega (arith, more)

pub ends_more : (n v : ℕ) (xs : List ℕ) → ends_in v (xs ++ replicate n v) ≡ n + ends_in v xs
ends_more n v xs = ap (begins_in v) (reverse-append xs (replicate n v) ∙ ap (λ (cs : List ℕ). cs ++ reverse xs) (replicate_reversed n v)) ∙ begins_more n v (reverse xs)

pub trimmed_again : (text : List ℕ) → trimmed (trimmed text) ≡ trimmed text
trimmed_again text =
    let kept = trimmed text in
    let n = ends_in 32 text in
    let counts : n ≡ n + ends_in 32 kept = sym (ap (ends_in 32) (kept_and_end 32 text)) ∙ ends_more n 32 kept in
    let none : length kept - ends_in 32 kept ≡ length kept = omega (arith, counts) in
    ap (λ (k : ℕ). take k kept) none ∙ take_all (length kept) kept (omega arith)

-- blanks after a text are cut again
pub trimmed_more : (n : ℕ) (text : List ℕ) → trimmed (trimmed text ++ replicate n 32) ≡ trimmed text
trimmed_more n text =
    let kept = trimmed text in
    let m = ends_in 32 text in
    let counts : m ≡ m + ends_in 32 kept = sym (ap (ends_in 32) (kept_and_end 32 text)) ∙ ends_more m 32 kept in
    let none : length (kept ++ replicate n 32) - ends_in 32 (kept ++ replicate n 32) ≡ length kept =
    omega (arith, counts, ends_more n 32 kept, length-append kept (replicate n 32), length-replicate {A = ℕ} n 32) in
    ap (λ (k : ℕ). take k (kept ++ replicate n 32)) none ∙ take-append_seam kept (replicate n 32)

blanks_at : (n i : ℕ) → get_or {A = ℕ} (replicate n 32) i 32 ≡ 32
blanks_at n i =
    elim (cases_lt i n) [
      | inl inside ↦ get_or-replicate {A = ℕ} n i 32 32 inside
      | inr past ↦ get_or_past {X = ℕ} (replicate n 32) i 32 (omega (arith, length-replicate {A = ℕ} n 32))
    ]

-- a place after the end is blank
pub padded_at : (text : List ℕ) (n i : ℕ) → get_or (text ++ replicate n 32) i 32 ≡ get_or text i 32
padded_at text n i =
    elim (cases_lt i (length text)) [
      | inl inside ↦ get_or_append_left text (replicate n 32) 32 i inside
      | inr past ↦ get_or-append_right text (replicate n 32) (length text) i 32 refl past ∙ blanks_at n (i - length text) ∙ sym (get_or_past text i 32 past)
    ]

pub trimmed_at : (text : List ℕ) (i : ℕ) → get_or (trimmed text) i 32 ≡ get_or text i 32
trimmed_at text i = sym (padded_at (trimmed text) (ends_in 32 text) i) ∙ ap (λ (xs : List ℕ). get_or xs i 32) (kept_and_end 32 text)
