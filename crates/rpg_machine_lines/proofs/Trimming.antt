-- Blanks at the end of a text don't print.
use Rattle.std.proofs.Common.{◌≡◌, ℕ, zero, suc, ◌+◌, ◌-◌, List, [], ◌∷◌, ◌++◌, sym, ap, ◌∙◌, arith, length, take, drop, replicate, append_assoc, append-nil, length-append}
use Rattle.std.proofs.lemmas.List.{length-replicate, reverse-append, take-append-drop, take-append-le}
use Rattle.std.specs.List.{prefix_len, suffix_len}
use Rattle.rpg_text.specs.Texts.{is_blank, trimmed}

one_more : (front : List ℕ) → suffix_len is_blank (front ++ 32 ∷ []) ≡ 1 + suffix_len is_blank front
one_more front = ap (prefix_len is_blank) (reverse-append front (32 ∷ []))

blanks_more : (k : ℕ) (front : List ℕ) → suffix_len is_blank (front ++ replicate k 32) ≡ k + suffix_len is_blank front
blanks_more zero front = let same = ap (suffix_len is_blank) (append-nil front) in omega (arith, same)
blanks_more (suc k) front =
    let grouped = sym (append_assoc front (32 ∷ []) (replicate k 32)) in
    let rest = blanks_more k (front ++ 32 ∷ []) in
    let one = one_more front in
    ap (suffix_len is_blank) grouped ∙ rest ∙ omega (arith, one)

blanks_trimmed : (k : ℕ) (front : List ℕ) → trimmed (front ++ replicate k 32) ≡ trimmed front
blanks_trimmed k front =
    let whole = front ++ replicate k 32 in
    let long : length whole ≡ length front + k = length-append front (replicate k 32) ∙ ap (λ n. length front + n) (length-replicate k 32) in
    let blanks = blanks_more k front in
    let same : length whole - suffix_len is_blank whole ≡ length front - suffix_len is_blank front = omega (arith, long, blanks) in
    ap (λ n. take n whole) same ∙ take-append-le (length front - suffix_len is_blank front) front (replicate k 32) (omega arith)

-- a text prints as its front, where nothing but blanks follows
pub front_trimmed : (n : ℕ) (text : List ℕ) → drop n text ≡ replicate (length text - n) 32 → trimmed (take n text) ≡ trimmed text
front_trimmed n text h =
    let whole : text ≡ take n text ++ replicate (length text - n) 32 = sym (take-append-drop n text) ∙ ap (λ t. take n text ++ t) h in
    sym (ap trimmed whole ∙ blanks_trimmed (length text - n) (take n text))
