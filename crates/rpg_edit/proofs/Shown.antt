-- Digits that show.
use Rattle.std.proofs.Common.{◌≡◌, ℕ, ◌+◌, ◌-◌, ◌*◌, ◌/◌, ◌<◌, true, not, ◌||◌, eqb, sym, ap, ◌∙◌, arith}
use Rattle.std.proofs.lemmas.Bool.Decides.{nat_tests}
use Rattle.std.specs.Prelude.{nat_le, nat_lt}
use Rattle.rpg_edit.specs.declared.groups.Group.{Group}
use Rattle.rpg_edit.specs.declared.suppression.Pass.{Pass}
use Rattle.rpg_edit_marks.specs.Edited.{is_begun}
use Rattle.rpg_edit.specs.Written.{are_clear, is_clear, IsGroupOf}

ones : (rest after kept : ℕ) → (nat_le 10 rest || nat_le (after + 2) kept) ≡ true → (not (eqb rest 0) || nat_lt after kept) ≡ true
ones rest after kept h = grind (arith, nat_tests)

tens : (rest after kept : ℕ) → (nat_le 10 rest || nat_le (after + 2) kept) ≡ true → (not (eqb (rest / 10) 0) || nat_lt (after + 1) kept) ≡ true
tens rest after kept h = grind (arith, nat_tests)

-- of two digits that show the last does
pub ones_clear : (p : Pass) → are_clear p ≡ true → is_clear p ≡ true
ones_clear p h = ap (λ n. not (eqb n 0) || nat_lt p.after p.suppression.kept) (sym p.is_rest) ∙ ones p.rest p.after p.suppression.kept h

-- and so does the other
pub tens_clear : (p q : Pass) → are_clear p ≡ true → q.rest ≡ p.rest / 10 → q.after ≡ p.after + 1 → q.suppression ≡ p.suppression → is_clear q ≡ true
tens_clear p q h rest after suppression =
    ap (λ n. not (eqb n 0) || nat_lt q.after q.suppression.kept) (sym q.is_rest ∙ rest)
    ∙ ap (λ k. not (eqb (p.rest / 10) 0) || nat_lt k q.suppression.kept) after
    ∙ ap (λ s. not (eqb (p.rest / 10) 0) || nat_lt (p.after + 1) s.kept) suppression
    ∙ tens p.rest p.after p.suppression.kept h

-- a digit shows while some of the number is left, and so does a character before it
pub begun : (p : Pass) → 0 < p.rest → is_begun p.number.size p.after ≡ true
begun p h = ap (λ n. not (eqb n 0)) (sym p.is_rest) ∙ some p.rest h
  where
    some : (rest : ℕ) → 0 < rest → not (eqb rest 0) ≡ true
    some rest h = grind (arith, nat_tests)

pub left_clear : (p : Pass) → 0 < p.rest → is_clear p ≡ true
left_clear p h = ap (λ b. b || nat_lt p.after p.suppression.kept) (begun p h)

-- the characters of the last three digits are those of a number of these digits
pub last_group : (n three : ℕ) (g : Group) → three ≡ n - n / 1000 * 1000 → IsGroupOf three g → IsGroupOf n g
last_group n three g is of = record {
  comma = of.comma;
  hundreds = of.hundreds ∙ ap (λ k. 48 + k) (omega (arith, is));
  tens = of.tens ∙ ap (λ k. 48 + k) (omega (arith, is));
  ones = of.ones ∙ ap (λ k. 48 + k) (omega (arith, is));
}
