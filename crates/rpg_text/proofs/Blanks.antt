-- Blanks at the end of a text, eight by eight.
use Rattle.std.proofs.Common.{◌≡◌, ℕ, ◌+◌, ◌-◌, ◌≤◌, List, [], ◌∷◌, ◌++◌, take, ap, ◌∙◌, arith}
use Rattle.std.proofs.Math.ListN.{drop}
use Rattle.std.proofs.Math.Seq.{take-add}
use Rattle.std.proofs.lemmas.List.{reverse-append}
use Rattle.std.specs.List.{prefix_len, suffix_len}
use Rattle.rpg_text.specs.Texts.{is_blank}

abbrev pub eight_blanks : List ℕ
eight_blanks = 32 ∷ 32 ∷ 32 ∷ 32 ∷ 32 ∷ 32 ∷ 32 ∷ 32 ∷ []

after_eight : (front : List ℕ) → suffix_len is_blank (front ++ eight_blanks) ≡ 8 + suffix_len is_blank front
after_eight front =
    let counted : suffix_len is_blank (front ++ eight_blanks) ≡ 1 + (1 + (1 + (1 + (1 + (1 + (1 + (1 + suffix_len is_blank front))))))) =
    ap (prefix_len is_blank) (reverse-append front eight_blanks) in
    omega (arith, counted)

pub eight_more : (end : ℕ) (text : List ℕ) → 8 ≤ end → take (end - (end - 8)) (drop (end - 8) text) ≡ eight_blanks
    → suffix_len is_blank (take end text) ≡ 8 + suffix_len is_blank (take (end - 8) text)
eight_more end text some blanks =
    let whole : end ≡ (end - 8) + (end - (end - 8)) = omega arith in
    ap (λ n. suffix_len is_blank (take n text)) whole ∙ ap (suffix_len is_blank) (take-add (end - 8) (end - (end - 8)) text ∙ ap (λ t. take (end - 8) text ++ t) blanks)
    ∙ after_eight (take (end - 8) text)
