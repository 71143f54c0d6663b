-- Subroutines as bits of words, and the calls that come back.
use Rattle.std.proofs.Common.{◌≡◌, ℕ, suc, ◌+◌, ◌*◌, ◌%◌, ◌^◌, ◌<◌, ◌≤◌, Bool, true, false, ◌&&◌, ◌||◌, List, [], ◌∷◌, length, get_or, take, max, refl, sym, ap, ◌∙◌, subst, arith, add-one, set, get_or-set_same, get_or-set_other}
use Rattle.std.specs.Prelude.{◌==◌, nat_lt, bit_or}
use Rattle.std.specs.Int.{bit_at}
use Rattle.std.specs.List.{list_any}
use mir.Syntax.{w64}
use Rattle.std.proofs.Math.Bool.{or-false, or_assoc}
use Rattle.std.proofs.Math.Seq.{take-suc}
use Rattle.std.proofs.lemmas.Bool.{eqb-true, eqb-false, eq-eqb}
use Rattle.std.proofs.lemmas.Bool.Decides.{nat_tests}
use Rattle.std.proofs.lemmas.List.Folds.{list_any-append}
use Rattle.std.proofs.lemmas.Nat.Bits.{bit_at_or, bit_at-lt, bit_at_set_same, bit_at_set_other, bit_at-zero}
use Rattle.rpg_causes_flow.specs.Index.{AreBelow, IsReaching, has_word_bit, same_call}
use Rattle.rpg_symbols.proofs.Chains.{reach_more}
use Rattle.rpg_symbols.specs.Chains.{Call, Calls, reaches_within}

-- ---- bits

either : (x y : ℕ) → x < 2 → y < 2 → (max x y == 1) ≡ (x == 1 || y == 1)
either x y p q = grind (arith, nat_tests)

pub has_bit-or : (a b i : ℕ) → has_word_bit (bit_or a b) i ≡ (has_word_bit a i || has_word_bit b i)
has_bit-or a b i = ap (λ n. n == 1) (bit_at_or a b i) ∙ either (bit_at a i) (bit_at b i) (bit_at-lt a i) (bit_at-lt b i)

pub has_bit-shift : (k i : ℕ) → k < 64 → has_word_bit (1 * 2 ^ k % 18446744073709551616) i ≡ (i == k)
has_bit-shift k i small = by (i == k) refl
  where
    by : (b : Bool) → (i == k) ≡ b → has_word_bit (1 * 2 ^ k % 18446744073709551616) i ≡ b
    by true e = let same = eqb-true i k e in subst (λ j. has_word_bit (1 * 2 ^ k % 18446744073709551616) j ≡ true) (sym same) (ap (λ n. n == 1) (bit_at_set_same w64 0 k small))
    by false e = ap (λ n. n == 1) (bit_at_set_other w64 0 k small i (λ same. absurd (let yes = eq-eqb i k same in cc)) ∙ bit_at-zero i)

-- ---- by one call more

-- one more call
pub spread_more : (next words : List ℕ) (all : Calls) (n caller callee : ℕ) (own : ℕ → ℕ → Bool) → n < length all → caller ≡ (get_or all n (0, 0)).0 → callee ≡ (get_or all n (0, 0)).1 → caller < length next
    → ((x i : ℕ) → x < length words → has_word_bit (get_or next x 0) i ≡ (own x i || list_any (λ (p : Call). p.0 == x && has_word_bit (get_or words p.1 0) i) (take n all)))
    → (x i : ℕ) → x < length words
    → has_word_bit (get_or (set next caller (bit_or (get_or next caller 0) (get_or words callee 0))) x 0) i ≡ (own x i || list_any (λ (p : Call). p.0 == x && has_word_bit (get_or words p.1 0) i) (take (n + 1) all))
spread_more next words all n caller callee own within is_caller is_callee there was x i small =
    by (caller == x) refl
    ∙ ap (λ b. (own x i || front) || (b && has_word_bit (get_or words callee 0) i)) (ap (λ y. y == x) is_caller)
    ∙ ap (λ y. (own x i || front) || (q.0 == x && has_word_bit (get_or words y 0) i)) is_callee
    ∙ or_assoc (own x i) front (test q)
    ∙ ap (λ b. own x i || (front || b)) (sym (or-false (test q)))
    ∙ ap (λ b. own x i || b) (sym (list_any-append test (take n all) (q ∷ [])))
    ∙ ap (λ (ps : Calls). own x i || list_any test ps) (sym (ap (λ m. take m all) (add-one n) ∙ take-suc all n (0, 0) within))
  where
    q : Call
    q = get_or all n (0, 0)

    test : Call → Bool
    test p = p.0 == x && has_word_bit (get_or words p.1 0) i

    front : Bool
    front = list_any test (take n all)

    by : (b : Bool) → (caller == x) ≡ b → has_word_bit (get_or (set next caller (bit_or (get_or next caller 0) (get_or words callee 0))) x 0) i ≡ ((own x i || front) || (b && has_word_bit (get_or words callee 0) i))
    by true e =
        let same = eqb-true caller x e in
        ap (λ w. has_word_bit w i) (subst (λ y. get_or (set next caller (bit_or (get_or next caller 0) (get_or words callee 0))) y 0 ≡ bit_or (get_or next y 0) (get_or words callee 0)) same (get_or-set_same next caller _ 0 there))
        ∙ has_bit-or (get_or next x 0) (get_or words callee 0) i ∙ ap (λ b. b || has_word_bit (get_or words callee 0) i) (was x i small)
    by false e =
        let no = eqb-false caller x e in
        ap (λ w. has_word_bit w i) (get_or-set_other next caller x _ 0 (λ same. no (sym same))) ∙ was x i small ∙ sym (or-false (own x i || front))

any_same : (f g : Call → Bool) (all : Calls) → ((k : ℕ) → k < length all → f (get_or all k (0, 0)) ≡ g (get_or all k (0, 0))) → list_any f all ≡ list_any g all
any_same f g [] same = refl
any_same f g (p ∷ ps) same =
    ap (λ b. b || list_any f ps) (same 0 (omega arith)) ∙ ap (λ b. g p || b) (any_same f g ps (λ k l. same (suc k) (omega arith)))

-- by no call, a subroutine reaches only itself
pub reaching-none : (words : List ℕ) (all : Calls) (first count : ℕ) → length words ≡ count → ((x i : ℕ) → x < count → i < 64 → has_word_bit (get_or words x 0) i ≡ (x == (first + i))) → IsReaching 0 all first count words
reaching-none words all first count same bits = record { each_has = same; reaching = λ x i there small. bits x i there small ∙ sym (or-false (x == (first + i))) }

pub reaching-suc : (n : ℕ) (all : Calls) (first count : ℕ) (words own next : List ℕ) → AreBelow count all → IsReaching n all first count words → IsReaching 0 all first count own → length next ≡ count
    → ((x i : ℕ) → x < count → has_word_bit (get_or next x 0) i ≡ (has_word_bit (get_or own x 0) i || list_any (λ p. p.0 == x && has_word_bit (get_or words p.1 0) i) all))
    → IsReaching (n + 1) all first count next
reaching-suc n all first count words own next below was start same bits = record {
  each_has = same;
  reaching = λ x i there small.
      bits x i there
      ∙ ap (λ b. b || list_any (λ (p : Call). p.0 == x && has_word_bit (get_or words p.1 0) i) all) (start.reaching x i there small ∙ or-false (x == (first + i)))
      ∙ ap (λ b. x == (first + i) || b) (any_same _ (λ (p : Call). p.0 == x && reaches_within n all p.1 (first + i)) all
      (λ k l. ap (λ b. (get_or all k (0, 0)).0 == x && b) (was.reaching (get_or all k (0, 0)).1 i (below k l).1 small)))
      ∙ sym (reach_more all n x (first + i))
      ∙ ap (λ m. reaches_within m all x (first + i)) (sym (add-one n));
}

-- ---- calls

below_there : (count : ℕ) (all : Calls) → AreBelow count all → (p : Call) → list_any (same_call p) all ≡ true → p.0 < count
below_there count [] below p e = absurd cc
below_there count (q ∷ qs) below p e = by (p.0 == q.0) refl (p.1 == q.1) e (below_there count qs (λ k l. below (suc k) (omega arith)) p)
  where
    by : (a : Bool) → (p.0 == q.0) ≡ a → (b : Bool) → ((a && b) || list_any (same_call p) qs) ≡ true → (list_any (same_call p) qs ≡ true → p.0 < count) → p.0 < count
    by true e true h more = let first = below 0 (omega arith) in let same = eqb-true p.0 q.0 e in subst (λ n. n < count) (sym same) first.0
    by true e false h more = more h
    by false e b h more = more h

-- the callers of all calls are below a number
pub all_below : (count first : ℕ) (all : Calls) → AreBelow count all → count ≤ first → (p : Call) (b : Bool) → (list_any (same_call p) all && (nat_lt p.0 first && b)) ≡ (list_any (same_call p) all && b)
all_below count first all below most p b = by (list_any (same_call p) all) refl
  where
    by : (a : Bool) → list_any (same_call p) all ≡ a → (a && (nat_lt p.0 first && b)) ≡ (a && b)
    by true e = let low = below_there count all below p e in let yes : nat_lt p.0 first ≡ true = grind (arith, nat_tests) in ap (λ x. x && b) yes
    by false e = refl
