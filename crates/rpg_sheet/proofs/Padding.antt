-- A line with blanks after its end.
use Rattle.std.proofs.Common.{◌≡◌, ℕ, zero, suc, ◌-◌, ◌≤◌, ◌++◌, Bool, true, false, List, length, take, drop, refl, ap, sym, ◌∙◌, ◌<◌, arith, inl, inr, length-append}
use Rattle.std.specs.Prelude.{◌⊎◌, ◌&&◌, min, replicate}
use Rattle.std.specs.List.{list_all}
use Rattle.std.proofs.lemmas.Bool.{cases_lt}
use Rattle.std.proofs.lemmas.List.{drop-replicate, length-replicate, take_all}
use Rattle.std.proofs.lemmas.List.Folds.{list_all-append}
use Rattle.rpg_sheet_specs.specs.Cards.{card_of}
use Rattle.rpg_text.specs.Texts.{is_character}

same_front : (line : List ℕ) (n : ℕ) → n ≡ min (length line) 80 → take n line ≡ take 80 line
same_front line n is = by (cases_lt (length line) 80)
  where
    by : (length line < 80) ⊎ (80 ≤ length line) → take n line ≡ take 80 line
    by (inl lt) = take_all n line (omega (arith, is)) ∙ sym (take_all 80 line (omega arith))
    by (inr le) = let same : n ≡ 80 = omega (arith, is) in ap (λ (k : ℕ). take k line) same

-- a line laid over blanks
pub laid : (room line : List ℕ) (n : ℕ) → room ≡ replicate 80 32 → n ≡ min (length line) 80 → take n line ++ drop n room ≡ card_of line
laid room line n blank is =
    let back : drop n room ≡ replicate (80 - n) 32 = ap (drop n) blank ∙ drop-replicate n 80 32 in
    let count : 80 - n ≡ 80 - length line = omega (arith, is) in
    ap (λ (l : List ℕ). take n line ++ l) back ∙ ap (λ (l : List ℕ). l ++ replicate (80 - n) 32) (same_front line n is) ∙ ap (λ (k : ℕ). take 80 line ++ replicate k 32) count

blank_characters : (n : ℕ) → list_all is_character (replicate n 32) ≡ true
blank_characters zero = refl
blank_characters (suc n) = blank_characters n

-- a line that isn't longer than a card has the same characters with the blanks after it
pub card_characters : (line : List ℕ) → length line ≤ 80 → list_all is_character (card_of line) ≡ list_all is_character line
card_characters line short = rw (take_all 80 line short, list_all-append is_character line (replicate (80 - length line) 32), blank_characters (80 - length line)) (and_true (list_all is_character line))
  where
    and_true : (b : Bool) → (b && true) ≡ b
    and_true true = refl
    and_true false = refl

pub card_length : (line : List ℕ) → length line ≤ 80 → length (card_of line) ≡ 80
card_length line short = rw (take_all 80 line short) (omega (arith, length-append line (replicate (80 - length line) 32), length-replicate {A = ℕ} (80 - length line) 32))
