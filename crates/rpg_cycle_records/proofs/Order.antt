-- The order of match values.
use Rattle.std.proofs.Common.{◌≡◌, ℕ, ◌≤◌, ◌<◌, ◌+◌, ◌-◌, ◌==◌, Bool, true, false, not, ◌&&◌, List, [], ◌∷◌, ◌++◌, length, drop, get_or, map, replicate, refl, sym, ap, ap₂, ◌∙◌, arith, length-drop}
use Rattle.std.specs.declared.cmp.Ordering.{Ordering}
use Rattle.std.specs.declared.cmp.Ordering.TheVariants.{Less, Equal, Greater}
use Rattle.std.specs.Cmp.{IsTotalOrder}
use Rattle.std.specs.Cmp.Lexicographic.{on_texts, slice_cmp}
use Rattle.std.specs.Ordering.{MatchOrdering, is_eq, is_gt, nat_cmp, ordering_index, ordering_reverse, ordering_then}
use Rattle.std.specs.Cmp.{nat_cmp_is}
use Rattle.std.proofs.lemmas.Cmp.{ranked, tied_itself, upto}
use Rattle.std.proofs.lemmas.List.{drop_more}
use Rattle.rpg_decimal_words.specs.Order.{character_cmp, padded_text, rank, text_cmp}
use Rattle.rpg_cycle_records.specs.Matching.{is_greater, neither_is_greater, value_cmp}

pub total : IsTotalOrder value_cmp
total = on_texts (map rank)

pub not_self : (v : List ℕ) → is_greater v v ≡ false
not_self v = ap is_gt (tied_itself total v)

back : (o : Ordering) → is_gt o ≡ true → is_gt (ordering_reverse o) ≡ false
back Less h = cc
back Equal h = cc
back Greater h = refl

pub not_both : (v w : List ℕ) → is_greater v w ≡ true → is_greater w v ≡ false
not_both v w h = ap is_gt (total.antisymm w v) ∙ back (value_cmp v w) h

pub not_above : (u v w : List ℕ) → is_greater u v ≡ false → is_greater v w ≡ false → is_greater u w ≡ false
not_above u v w g h = upto total u v w g h

-- ---- the same value

either_of : (a b : Bool) → (not a && not b) ≡ true → a ≡ false
either_of true b h = cc
either_of false b h = refl

both_not : (a b : Bool) → a ≡ false → b ≡ false → (not a && not b) ≡ true
both_not a b g h = rw g (rw h refl)

-- what is the same as one below y, and isn't below y, is the same as y
pub same_top : (x y z : List ℕ) → is_greater z y ≡ false → is_greater y x ≡ false → neither_is_greater x z ≡ true → neither_is_greater x y ≡ true
same_top x y z below above same =
    both_not (is_greater x y) (is_greater y x) (not_above x z y (either_of (is_greater x z) (is_greater z x) same) below) above

-- ---- values of one length are ordered as texts are

by_rank : (v w : List ℕ) → slice_cmp character_cmp v w ≡ slice_cmp nat_cmp (map rank v) (map rank w)
by_rank [] [] = refl
by_rank [] (y ∷ ys) = refl
by_rank (x ∷ xs) [] = refl
by_rank (x ∷ xs) (y ∷ ys) = ap (ordering_then (nat_cmp (rank x) (rank y))) (by_rank xs ys)

and_none : (v : List ℕ) → v ++ [] ≡ v
and_none [] = refl
and_none (x ∷ xs) = ap (λ (ys : List ℕ). x ∷ ys) (and_none xs)

unpadded : (v : List ℕ) (n : ℕ) → n ≡ length v → padded_text n v ≡ v
unpadded v n e = let z : n - length v ≡ 0 = omega (arith, e) in ap (λ (k : ℕ). v ++ replicate k 32) z ∙ and_none v

pub as_texts : (v w : List ℕ) → length v ≡ length w → value_cmp v w ≡ text_cmp v w
as_texts v w e =
    sym (ap (λ (x : List ℕ). slice_cmp character_cmp x (padded_text (length v) w)) (unpadded v (length w) (sym e))
    ∙ (ap (λ (x : List ℕ). slice_cmp character_cmp v x) (unpadded w (length v) e) ∙ by_rank v w))

-- ---- the same value, by one comparison

tied : (o r : Ordering) → r ≡ ordering_reverse o → (not (is_gt o) && not (is_gt r)) ≡ is_eq o
tied Less r e = rw e refl
tied Equal r e = rw e refl
tied Greater r e = refl

pub same_is_equal : (v w : List ℕ) → neither_is_greater v w ≡ is_eq (value_cmp v w)
same_is_equal v w = tied (value_cmp v w) (value_cmp w v) (total.antisymm w v)

-- ---- values are compared byte by byte, and then by their lengths

pub same_byte : (x y : ℕ) → x ≡ y → character_cmp x y ≡ Equal
same_byte x y e = ap (λ (z : ℕ). nat_cmp (rank x) (rank z)) (sym e) ∙ sym (nat_cmp_is (rank x) (rank x) Equal refl)

pub value_more : (v w : List ℕ) (i : ℕ) → i < length v → i < length w →
    value_cmp (drop i v) (drop i w) ≡ ordering_then (character_cmp (get_or v i 0) (get_or w i 0)) (value_cmp (drop (i + 1) v) (drop (i + 1) w))
value_more v w i l m = ap₂ value_cmp (drop_more v i 0 l) (drop_more w i 0 m)

shifted : (a b i : ℕ) → i ≤ a → i ≤ b → nat_cmp (a - i) (b - i) ≡ nat_cmp a b
shifted a b i l m = go (nat_cmp (a - i) (b - i)) (ranked (a - i) (b - i) (nat_cmp (a - i) (b - i)) refl)
  where
    go : (o : Ordering) → MatchOrdering o (a - i < b - i) (a - i ≡ b - i) (b - i < a - i) → o ≡ nat_cmp a b
    go Less h = nat_cmp_is a b Less (omega (arith, h))
    go Equal h = nat_cmp_is a b Equal (omega (arith, h, l, m))
    go Greater h = nat_cmp_is a b Greater (omega (arith, h))

one_ends : (v w : List ℕ) → (0 < length v → 0 < length w → ⊥) → value_cmp v w ≡ nat_cmp (length v) (length w)
one_ends [] [] none = refl
one_ends [] (y ∷ ys) none = nat_cmp_is 0 (length (y ∷ ys)) Less (omega arith)
one_ends (x ∷ xs) [] none = nat_cmp_is (length (x ∷ xs)) 0 Greater (omega arith)
one_ends (x ∷ xs) (y ∷ ys) none = absurd (none (omega arith) (omega arith))

pub value_ends : (v w : List ℕ) (i : ℕ) → i ≤ length v → i ≤ length w → (i < length v → i < length w → ⊥) → value_cmp (drop i v) (drop i w) ≡ nat_cmp (length v) (length w)
value_ends v w i l m none =
    one_ends (drop i v) (drop i w) (λ a b. none (omega (arith, a, length-drop i v)) (omega (arith, b, length-drop i w)))
    ∙ ap₂ nat_cmp (length-drop i v) (length-drop i w) ∙ shifted (length v) (length w) i l m

pub then-other : (o rest : Ordering) → (o ≡ Equal → ⊥) → ordering_then o rest ≡ o
then-other Less rest h = refl
then-other Equal rest h = absurd (h refl)
then-other Greater rest h = refl

-- what the test `!=` of an order says
pub other_order : (o : Ordering) → true ≡ not (ordering_index o == 1) → o ≡ Equal → ⊥
other_order Less h = λ e. cc
other_order Equal h = λ e. cc
other_order Greater h = λ e. cc

pub equal_order : (o : Ordering) → false ≡ not (ordering_index o == 1) → o ≡ Equal
equal_order Less h = cc
equal_order Equal h = refl
equal_order Greater h = cc
