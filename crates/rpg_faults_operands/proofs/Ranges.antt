-- The first of a range of numbers that passes, one by one.
use Rattle.std.proofs.Common.{◌≡◌, ℕ, ◌+◌, ◌-◌, ◌<◌, suc, List, Some, cond, ap, arith}
use Rattle.std.specs.List.{range_with_len}
use Rattle.rpg_faults_operands.specs.Mismatches.{first_fitting}
use Rattle.rpg_program.specs.LineFaults.{fits_word}

pub fitting_from : (word : List ℕ) (digits : ℕ) → digits < 25
    → first_fitting word (range_with_len digits (25 - digits)) ≡ cond (fits_word digits word) (Some digits) (first_fitting word (range_with_len (digits + 1) (25 - (digits + 1))))
fitting_from word digits less =
    let one_more : 25 - digits ≡ suc (25 - (digits + 1)) = omega arith in
    ap (λ k. first_fitting word (range_with_len digits k)) one_more
