-- What holds of each card, and of what stands on it.
use Rattle.std.proofs.Common.{◌≡◌, ℕ, ◌≤◌, Bool, true, false, ◌||◌, ◌&&◌, List, [], ◌∷◌, ◌++◌, Option, None, Some, refl, sym, ◌∙◌, append_assoc, append-nil, subst}
use Rattle.std.proofs.lemmas.Bool.{le-leb, ltb-false}
use Rattle.std.specs.List.{list_any}
use Rattle.std.specs.Option.{option_map_or, option_to_list}
use Rattle.std.specs.Prelude.{nat_le, nat_lt}
use Rattle.rpg_cards.specs.Plain.{Each}
use Rattle.rpg_cards.specs.declared.spec_card.SpecCard.{SpecCard}
use Rattle.rpg_faults_limits.specs.Limits.{crosses}

-- ---- Booleans

pub or_first : (a b : Bool) → (a || b) ≡ false → a ≡ false
or_first true b e = absurd cc
or_first false b e = refl

pub or_second : (a b : Bool) → (a || b) ≡ false → b ≡ false
or_second true b e = absurd cc
or_second false b e = e

-- ---- each

pub each_both : {X : Type 0} (P Q R : X → Type 0) (xs : List X) → ((x : X) → P x → Q x → R x) → Each P xs → Each Q xs → Each R xs
each_both P Q R [] f h g = tt
each_both P Q R (x ∷ xs) f h g = (f x h.0 g.0, each_both P Q R xs f h.1 g.1)

-- none of a list, so none of its parts
pub none_first : {X : Type 0} (test : X → Bool) (xs ys : List X) → list_any test (xs ++ ys) ≡ false → list_any test xs ≡ false
none_first test [] ys e = refl
none_first test (x ∷ xs) ys e = by (test x) (none_first test xs ys) e
  where
    by : (b : Bool) → (list_any test (xs ++ ys) ≡ false → list_any test xs ≡ false) → (b || list_any test (xs ++ ys)) ≡ false → (b || list_any test xs) ≡ false
    by true rest e = absurd cc
    by false rest e = rest e

pub none_second : {X : Type 0} (test : X → Bool) (xs ys : List X) → list_any test (xs ++ ys) ≡ false → list_any test ys ≡ false
none_second test [] ys e = e
none_second test (x ∷ xs) ys e = none_second test xs ys (or_second (test x) (list_any test (xs ++ ys)) e)

pub none_in_option : {X : Type 0} (test : X → Bool) (o : Option X) → list_any test (option_to_list o) ≡ false → option_map_or test o false ≡ false
none_in_option test None e = refl
none_in_option test (Some x) e = or_first (test x) false e

-- ---- cards, each seen with those before it and those after it

abbrev pub Seen : List SpecCard → (List SpecCard → SpecCard → List SpecCard → Type 0) → Type 0
Seen cards P = (before : List SpecCard) (c : SpecCard) (after : List SpecCard) → cards ≡ before ++ c ∷ after → P before c after

module _ (cards : List SpecCard) (P : SpecCard → Type 0) (h : Seen cards (λ before c after. P c)) where
  each_from : (before after : List SpecCard) → cards ≡ before ++ after → Each P after
  each_from before [] split = tt
  each_from before (c ∷ cs) split = (h before c cs split, each_from (before ++ c ∷ []) cs (split ∙ sym (append_assoc before (c ∷ []) cs)))

  pub each_card : Each P cards
  each_card = each_from [] cards refl

-- what holds of no cards, and is kept card by card, holds of the cards before each
module _ (cards : List SpecCard) (P : List SpecCard → Type 0) (step : Seen cards (λ before c after. P before → P (before ++ c ∷ []))) where
  front_from : (done front back : List SpecCard) → cards ≡ done ++ (front ++ back) → P done → P (done ++ front)
  front_from done [] back split h = subst P (sym (append-nil done)) h
  front_from done (c ∷ cs) back split h =
      subst P (append_assoc done (c ∷ []) cs)
      (front_from (done ++ c ∷ []) cs back (split ∙ sym (append_assoc done (c ∷ []) (cs ++ back))) (step done c (cs ++ back) split h))

  pub front_keeps : P [] → (front back : List SpecCard) → cards ≡ front ++ back → P front
  front_keeps none front back split = front_from [] front back split none

-- ---- a limit that no card passes

still_within : (measure : List SpecCard → ℕ) (limit : ℕ) (before : List SpecCard) (c : SpecCard) → crosses measure limit before c ≡ false → measure before ≤ limit → measure (before ++ c ∷ []) ≤ limit
still_within measure limit before c e h = by (nat_le (measure before) limit) (le-leb (measure before) limit h) e
  where
    by : (b : Bool) → b ≡ true → (b && nat_lt limit (measure (before ++ c ∷ []))) ≡ false → measure (before ++ c ∷ []) ≤ limit
    by true t e = ltb-false limit (measure (before ++ c ∷ [])) e
    by false t e = cc

module _ (measure : List SpecCard → ℕ) (limit : ℕ) (cards : List SpecCard) (none : measure [] ≤ limit) (kept : Seen cards (λ before c after. crosses measure limit before c ≡ false)) where
  pub front_within : (front back : List SpecCard) → cards ≡ front ++ back → measure front ≤ limit
  front_within = front_keeps cards (λ cs. measure cs ≤ limit) (λ before c after split h. still_within measure limit before c (kept before c after split) h) none

  pub all_within : measure cards ≤ limit
  all_within = front_within cards [] (sym (append-nil cards))
