-- Texts of words: as much of a text as there is room for.
use Rattle.std.proofs.Common.{◌≡◌, ℕ, zero, suc, ◌+◌, ◌-◌, ◌<◌, List, [], ◌∷◌, ◌++◌, length, get_or, take, ap, sym, ◌∙◌, arith}
use Rattle.std.proofs.lemmas.List.{length-take-le, take_more}
use Rattle.rpg_fit_deck.specs.Words.{cut}

pub take-append : (n : ℕ) (xs ys : List ℕ) → take n (xs ++ ys) ≡ take n xs ++ take (n - length xs) ys
take-append zero xs ys = let e : 0 ≡ 0 - length xs = omega arith in ap (λ (k : ℕ). take k ys) e
take-append (suc n) [] ys = let e : suc n ≡ suc n - 0 = omega arith in ap (λ (k : ℕ). take k ys) e
take-append (suc n) (x ∷ xs) ys =
    let e : n - length xs ≡ suc n - suc (length xs) = omega arith in
    ap (λ (zs : List ℕ). x ∷ zs) (take-append n xs ys ∙ ap (λ (k : ℕ). take n xs ++ take k ys) e)

-- one more character of a text
pub room_step : (room k c : ℕ) (text : List ℕ) → k < length text → c ≡ get_or text k 0 → take room (take k text) ++ take (room - k) (c ∷ []) ≡ take room (take (k + 1) text)
room_step room k c text h is =
    let e : length (take k text) ≡ k = length-take-le k text (omega arith) in
    let more : take (k + 1) text ≡ take k text ++ c ∷ [] = take_more text k 0 h ∙ ap (λ (x : ℕ). take k text ++ x ∷ []) (sym is) in
    sym (ap (λ (zs : List ℕ). take room zs) more ∙ take-append room (take k text) (c ∷ []) ∙ ap (λ (j : ℕ). take room (take k text) ++ take (room - j) (c ∷ [])) e)

-- two texts, cut together
pub cut_two : (xs ys : List ℕ) → cut (xs ++ ys) ≡ cut xs ++ take (10 - length xs) ys
cut_two xs ys = take-append 10 xs ys
