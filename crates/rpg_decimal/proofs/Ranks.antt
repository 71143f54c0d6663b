-- The table of ranks holds the ranks of its bytes, and any byte beyond it isn't a character.
use Rattle.std.proofs.Common.{◌≡◌, ℕ, zero, suc, ◌+◌, ◌-◌, ◌<◌, ◌≤◌, Bool, true, ◌&&◌, cond, T, eqb, ltb, ne_eqb, List, [], ◌∷◌, length, get_or, Some, None, refl, sym, ap, ◌∙◌, inl, inr, arith, eq-zero-or-pos, eqb→eq}
use Rattle.std.proofs.lemmas.Bool.Decides.{nat_tests}
use Rattle.std.specs.List.{position_or_len}
use Rattle.std.specs.Option.{unwrap_or}
use Rattle.rpg_decimal.specs.declared.order.TheConstants.{RANKS}
use Rattle.rpg_decimal_words.specs.Order.{collating_sequence, rank}
use lib.Ieee.Fits.{and_l, and_r}

are_ranks : ℕ → Bool
unfolding rank collating_sequence
are_ranks zero = true
are_ranks (suc n) = eqb (get_or RANKS n 0) (rank n) && are_ranks n

below : (n c : ℕ) → T (are_ranks n) → c < n → get_or RANKS c 0 ≡ rank c
unfolding are_ranks
below zero c t h = absurd (omega arith)
below (suc n) c t h =
    elim (eq-zero-or-pos (n - c)) [
      | inl z ↦ let e : c ≡ n = omega arith in rw e (eqb→eq _ _ (and_l _ (are_ranks n) t))
      | inr g ↦ below n c (and_r _ (are_ranks n) t) (omega arith)
    ]

pub rank_in_table : (c : ℕ) → c < 128 → get_or RANKS c 0 ≡ rank c
unfolding are_ranks
rank_in_table c h = below 128 c tt h

abbrev are_low : List ℕ → Bool
are_low [] = true
are_low (x ∷ xs) = ltb x 128 && are_low xs

not_there : (xs : List ℕ) (c : ℕ) → T (are_low xs) → 128 ≤ c → position_or_len (λ x. eqb x c) xs ≡ length xs
not_there [] c t h = refl
not_there (x ∷ xs) c t h =
    let low : x < 128 = below_128 x (and_l (ltb x 128) (are_low xs) t) in
    rw (ne_eqb x c (λ e. omega (arith, e, low, h))) (ap (λ n. 1 + n) (not_there xs c (and_r (ltb x 128) (are_low xs) t) h) ∙ omega arith)
  where
    below_128 : (x : ℕ) → T (ltb x 128) → x < 128
    below_128 x t = grind (arith, nat_tests)

pub rank_beyond : (c : ℕ) → 128 ≤ c → 95 + c ≡ rank c
unfolding rank collating_sequence
rank_beyond c h = sym (ap (λ n. unwrap_or (cond (ltb n 95) (Some n) None) (95 + c)) (not_there collating_sequence c tt h))
