-- What holds of each element of a list, as a chain of pairs.
use Rattle.std.proofs.Common.{◌≡◌, zero, suc, Bool, true, false, List, [], ◌∷◌, ◌++◌, map, Option, None, Some, refl}
use Rattle.std.proofs.lemmas.Bool.{and_from, or_from}
use Rattle.std.specs.List.{filter_map, list_all, list_any}
use Rattle.std.specs.Option.{option_to_list}
use Rattle.rpg_verify_rules.proofs.Kept.{NoneTrue}
use Rattle.rpg_cards.specs.Plain.{Each}

pub each_map : {X : Type 0} (P Q : X → Type 0) (xs : List X) → ((x : X) → P x → Q x) → Each P xs → Each Q xs
each_map P Q [] f h = tt
each_map P Q (x ∷ xs) f h = (f x h.0, each_map P Q xs f h.1)

pub each_row : {X Y : Type 0} (P : X → Type 0) (Q : Y → Type 0) (row : X → Y) (xs : List X) → ((x : X) → P x → Q (row x)) → Each P xs → Each Q (map row xs)
each_row P Q row [] f h = tt
each_row P Q row (x ∷ xs) f h = (f x h.0, each_row P Q row xs f h.1)

pub each_always : {X : Type 0} (P : X → Type 0) (xs : List X) → ((x : X) → P x) → Each P xs
each_always P [] f = tt
each_always P (x ∷ xs) f = (f x, each_always P xs f)

pub each_append : {X : Type 0} (P : X → Type 0) (xs ys : List X) → Each P xs → Each P ys → Each P (xs ++ ys)
each_append P [] ys h g = g
each_append P (x ∷ xs) ys h g = (h.0, each_append P xs ys h.1 g)

pub each_passes : {X : Type 0} (test : X → Bool) (xs : List X) → Each (λ x. test x ≡ true) xs → list_all test xs ≡ true
each_passes test [] h = refl
each_passes test (x ∷ xs) h = and_from (test x) (list_all test xs) h.0 (each_passes test xs h.1)

pub none_passes : {X : Type 0} (test : X → Bool) (xs : List X) → Each (λ x. test x ≡ false) xs → list_any test xs ≡ false
none_passes test [] h = refl
none_passes test (x ∷ xs) h = or_from (test x) (list_any test xs) h.0 (none_passes test xs h.1)

-- no row is broken
pub none_broken : {X : Type 0} (test : X → Bool) (xs : List X) → Each (λ x. test x ≡ false) xs → NoneTrue (map test xs)
none_broken test [] h k e = cc
none_broken test (x ∷ xs) h zero e = absurd (let no = h.0 in cc)
none_broken test (x ∷ xs) h (suc k) e = none_broken test xs h.1 k e

pub none_in_both : (xs ys : List Bool) → NoneTrue xs → NoneTrue ys → NoneTrue (xs ++ ys)
none_in_both [] ys h g k e = g k e
none_in_both (x ∷ xs) ys h g zero e = h zero e
none_in_both (x ∷ xs) ys h g (suc k) e = none_in_both xs ys (λ k. h (suc k)) g k e

pub each_at : {X : Type 0} (P : X → Type 0) (before : List X) (x : X) (after : List X) → Each P (before ++ x ∷ after) → P x
each_at P [] x after h = h.0
each_at P (y ∷ ys) x after h = each_at P ys x after h.1

pub three_of : {X Y : Type 0} (P : X → Type 0) (f : Y → X) (a b c : Option Y) → Each P (map f (option_to_list a)) → Each P (map f (option_to_list b)) → Each P (map f (option_to_list c))
    → Each P (map f (filter_map (λ o. o) (a ∷ b ∷ c ∷ [])))
three_of P f None None None p q r = tt
three_of P f None None (Some z) p q r = r
three_of P f None (Some y) None p q r = q
three_of P f None (Some y) (Some z) p q r = (q.0, r)
three_of P f (Some x) None None p q r = p
three_of P f (Some x) None (Some z) p q r = (p.0, r)
three_of P f (Some x) (Some y) None p q r = (p.0, q)
three_of P f (Some x) (Some y) (Some z) p q r = (p.0, (q.0, r))

pub each_front : {X : Type 0} (P : X → Type 0) (xs ys : List X) → Each P (xs ++ ys) → Each P xs
each_front P [] ys h = tt
each_front P (x ∷ xs) ys h = (h.0, each_front P xs ys h.1)
