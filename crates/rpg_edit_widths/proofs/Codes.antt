-- How many marks an edit code has.
use Rattle.std.proofs.Common.{◌≡◌, ℕ, zero, suc, ◌+◌, ◌-◌, ◌/◌, ◌%◌, Bool, true, false, ◌&&◌, ltb, eqb, [], ◌∷◌, length, refl, arith, length-append, ◌∙◌}
use Rattle.std.proofs.lemmas.Bool.Decides.{nat_tests}
use Rattle.rpg_edit_marks.specs.declared.mark.Mark.TheVariants.{Digit, Insert}
use Rattle.rpg_edit_marks.specs.Code.{comma_marks, whole_marks}
use Rattle.std.specs.Bool.{if◌then◌else◌}

comma_by : (b : Bool) → length (if b then Insert 44 ∷ [] else []) ≡ (if b then 1 else 0)
comma_by true = refl
comma_by false = refl

-- one more digit, and its comma
pub whole-more : (commas : Bool) (left : ℕ) → length (whole_marks commas (suc left)) ≡ 1 + length (comma_marks commas left) + length (whole_marks commas left)
whole-more commas left =
    let both : length (whole_marks commas (suc left)) ≡ length (Digit ∷ comma_marks commas left) + length (whole_marks commas left) = length-append (Digit ∷ comma_marks commas left) (whole_marks commas left) in
    let first : length (Digit ∷ comma_marks commas left) ≡ suc (length (comma_marks commas left)) = refl in
    omega arith

pub whole_plain : (digits : ℕ) → length (whole_marks false digits) ≡ digits
whole_plain zero = refl
whole_plain (suc left) = let before = whole_plain left in let more = whole-more false left in omega arith

comma-count : (left : ℕ) → length (comma_marks true left) ≡ left / 3 - (left - 1) / 3
comma-count left = comma_by (ltb 0 left && eqb (left % 3) 0) ∙ grind (arith, nat_tests)

pub whole_commas : (digits : ℕ) → length (whole_marks true digits) ≡ digits + (digits - 1) / 3
whole_commas zero = refl
whole_commas (suc left) = let before = whole_commas left in let more = whole-more true left in let comma = comma-count left in omega arith

pub ruleset widths = (whole_plain, whole_commas)
