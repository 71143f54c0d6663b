use Rattle.std.proofs.Common.{◌≡◌, ℕ, ◌+◌, ◌-◌, ◌/◌, ◌%◌, ◌^◌, ◌<◌, ◌≤◌, List, length, map, set, get_or, ap, refl, sym, subst, ◌∙◌, arith, inl, inr, length-set, get_or-set_same, get_or-set_other}
use Rattle.std.proofs.lemmas.List.{ext_get_or, get_or-map, length-map}
use Rattle.std.proofs.lemmas.Bool.{cases_eq}
use Rattle.rpg_decimal_words.specs.Place.{lowest_digits}
use Rattle.rpg_decimal.proofs.PlaceLemmas.{get_or-digits, length-digits, div-ten_more}
use Rattle.rpg_decimal.proofs.zoned.write_digits.Goals as goal

-- the places of a text from the p-th on hold digits of a size, of n digits in all
abbrev HoldsFrom : ℕ → List ℕ → ℕ → ℕ → Type 0
HoldsFrom n text size p = (k : ℕ) → p ≤ k → k < n → get_or text k 0 ≡ 48 + size / 10 ^ (n - 1 - k) % 10

-- one more place from the right
placed : (n : ℕ) (text : List ℕ) (size rest p : ℕ) → length text ≡ n → p ≤ n → 0 < p → rest ≡ size / 10 ^ (n - p) → HoldsFrom n text size p
    → HoldsFrom n (set text (p - 1) (48 + rest % 10)) size (p - 1)
placed n text size rest p long inside some rest_is done k low high =
    elim (cases_eq k (p - 1)) [
      | inl here ↦
          let inside_here : k < length text = omega arith in
          let e : n - p ≡ n - 1 - k = omega arith in
          ap (λ i. get_or (set text i (48 + rest % 10)) k 0) (sym here) ∙ get_or-set_same text k (48 + rest % 10) 0 inside_here
          ∙ ap (λ r. 48 + r % 10) (rest_is ∙ ap (λ j. size / 10 ^ j) e)
      | inr other ↦ get_or-set_other text (p - 1) k (48 + rest % 10) 0 other ∙ done k (omega arith) high
    ]

-- what is left of a size by one more place
less : (n size rest p : ℕ) → p ≤ n → 0 < p → rest ≡ size / 10 ^ (n - p) → rest / 10 ≡ size / 10 ^ (n - (p - 1))
less n size rest p inside some rest_is =
    let e : (n - p) + 1 ≡ n - (p - 1) = omega arith in
    ap (λ r. r / 10) rest_is ∙ div-ten_more size (n - p) ∙ ap (λ j. size / 10 ^ j) e

-- all places are done
all_placed : (n : ℕ) (text : List ℕ) (size : ℕ) → length text ≡ n → HoldsFrom n text size 0 → text ≡ map (λ d. 48 + d) (lowest_digits n size)
all_placed n text size long done =
    let ds = lowest_digits n size in
    ext_get_or 0 text (map (λ d. 48 + d) ds) (long ∙ sym (length-map ds (λ d. 48 + d) ∙ length-digits n size))
    (λ i h. done i (omega arith) (omega arith) ∙ sym (get_or-map (λ d. 48 + d) ds i 0 0 (rw (length-digits n size) (omega arith)) ∙ ap (λ d. 48 + d) (get_or-digits n size i (omega arith))))

pub loop-place-preserved : goal.loop-place-preserved
loop-place-preserved c =
    let text = c.loop-place.text in
    let n = length text in
    let p = c.loop-place.place in
    let size = c.args.size in
    let rest = c.loop-place.rest in
    let once = set text (p - 1) (48 + rest % 10) in
    let twice = set once (p - 2) (48 + rest / 10 % 10) in
    let inside = c.loop-place.invariant.inside in
    let rest_is = c.loop-place.invariant.rest_is in
    let one_long : length once ≡ n = length-set text (p - 1) (48 + rest % 10) in
    let long : length twice ≡ n = length-set once (p - 2) (48 + rest / 10 % 10) ∙ one_long in
    let at : p - 1 - 1 ≡ p - 2 = omega arith in
    let one = less n size rest p inside (omega arith) rest_is in
    let two : rest / 100 ≡ size / 10 ^ (n - (p - 2)) =
    let h : rest / 100 ≡ rest / 10 / 10 = omega arith in
    h ∙ less n size (rest / 10) (p - 1) (omega arith) (omega arith) one ∙ ap (λ j. size / 10 ^ (n - j)) at in
    let done : HoldsFrom n twice size (p - 2) =
    subst (λ (j : ℕ). HoldsFrom n (set once j (48 + rest / 10 % 10)) size j) at
    (placed n once size (rest / 10) (p - 1) one_long (omega arith) (omega arith) one
    (placed n text size rest p refl inside (omega arith) rest_is c.loop-place.invariant.done)) in
    rw (c.write_pair-rest.ensures.digits, c.write_pair-rest.ensures.front, long) (record { inside = omega arith; rest_is = two; done = done })

pub returns-then-place-eq1 : goal.returns-then-place-eq1
returns-then-place-eq1 c =
    let text = c.loop-place.text in
    let n = length text in
    let rest = c.loop-place.rest in
    let first : c.loop-place.place ≡ 1 = c.if-place-eq1.true in
    let rest_is : rest ≡ c.args.size / 10 ^ (n - 1) = c.loop-place.invariant.rest_is ∙ ap (λ p. c.args.size / 10 ^ (n - p)) first in
    let done : HoldsFrom n text c.args.size 1 = λ k low high. c.loop-place.invariant.done k (omega arith) high in
    let inside = c.loop-place.invariant.inside in
    rw (c.last_digit.ensures, sym c.loop-place.auto.text)
    (all_placed n (set text 0 (48 + rest % 10)) c.args.size (length-set text 0 (48 + rest % 10))
    (placed n text c.args.size rest 1 refl (omega arith) (omega arith) rest_is done))

pub returns-else-place-eq1 : goal.returns-else-place-eq1
returns-else-place-eq1 c =
    let text = c.loop-place.text in
    rw (sym c.loop-place.auto.text)
    (all_placed (length text) text c.args.size refl (λ k low high. c.loop-place.invariant.done k (let other = c.if-place-eq1.false in omega (arith, other)) high))
