-- The tests of an alternative, and those of the alternatives after it.
use Rattle.std.proofs.Common.{◌≡◌, ℕ, ◌+◌, Bool, true, false, cond, List, [], ◌∷◌, ◌++◌, length, refl, ◌<◌, arith, zero, suc, take, drop, get_or, sym, ap, ◌∙◌, append-nil, append_assoc, length-append}
use Rattle.std.proofs.lemmas.Grind.{flat_map-append}
use Rattle.std.proofs.lemmas.List.{take-append-drop}
use Rattle.rpg_cards.specs.declared.spec_card.SpecCard.{SpecCard}
use Rattle.rpg_compile_program.specs.Code.{alternative_code, tests_code}
use Rattle.rpg_program.specs.declared.condition.Conditions.{Conditions}
use Rattle.rpg_program.specs.declared.operation.Instruction.{Instruction}
use Rattle.rpg_compile.specs.Tests.{alternatives_from, alternatives_in, begins_alternative, tests_at, tests_in}

tests_more : (place operation following : ℕ) (cs so_far : List Conditions) (ks : List SpecCard) →
    tests_code place operation following (cs ∷ alternatives_from so_far ks) ≡ alternative_code (place + length cs) operation cs ++ tests_code (place + length cs) operation following (alternatives_from so_far ks)
tests_more place operation following cs so_far [] = refl
tests_more place operation following cs so_far (k ∷ ks) = by_or (begins_alternative k) (tests_more place operation following cs (so_far ++ tests_at k) ks)
  where
    by_or : (b : Bool) → tests_code place operation following (cs ∷ alternatives_from (so_far ++ tests_at k) ks) ≡ alternative_code (place + length cs) operation cs ++ tests_code (place + length cs) operation following (alternatives_from (so_far ++ tests_at k) ks)
        → tests_code place operation following (cs ∷ cond b (so_far ∷ alternatives_from (tests_at k) ks) (alternatives_from (so_far ++ tests_at k) ks)) ≡ alternative_code (place + length cs) operation cs ++ tests_code (place + length cs) operation following (cond b (so_far ∷ alternatives_from (tests_at k) ks) (alternatives_from (so_far ++ tests_at k) ks))
    by_or true r = refl
    by_or false r = r

pub tests_step : (place operation following : ℕ) (cs : List Conditions) (ks : List SpecCard) → 0 < length ks →
    tests_code place operation following (cs ∷ alternatives_in ks) ≡ alternative_code (place + length cs) operation cs ++ tests_code (place + length cs) operation following (alternatives_in ks)
tests_step place operation following cs [] some = absurd (omega arith)
tests_step place operation following cs (k ∷ ks) some = tests_more place operation following cs (tests_at k) ks

-- ---- one card more

tests_append : (ks ls : List SpecCard) → tests_in (ks ++ ls) ≡ tests_in ks ++ tests_in ls
tests_append ks ls = flat_map-append tests_at ks ls

split_at : (cards : List SpecCard) (i : ℕ) (c : SpecCard) → i < length cards → c ≡ get_or cards i c → (drop i cards ≡ c ∷ drop (suc i) cards) × (take (suc i) cards ≡ take i cards ++ c ∷ [])
split_at [] i c h e = absurd (omega arith)
split_at (x ∷ xs) zero c h e = (ap (λ y. y ∷ xs) (sym e), ap (λ y. y ∷ []) (sym e))
split_at (x ∷ xs) (suc i) c h e = let r = split_at xs i c (omega arith) e in (r.0, ap (λ ys. x ∷ ys) r.1)

-- the next card begins an alternative
pub begins_here : (cards : List SpecCard) (i : ℕ) (c : SpecCard) → i < length cards → c ≡ get_or cards i c → begins_alternative c ≡ true →
    alternatives_in cards ≡ alternatives_from (tests_in (take i cards)) (drop i cards) → alternatives_in cards ≡ tests_in (take i cards) ∷ alternatives_in (drop i cards)
begins_here cards i c h e or so_far =
    let d = (split_at cards i c h e).0 in
    so_far ∙ ap (alternatives_from (tests_in (take i cards))) d ∙ ap (λ b. cond b (tests_in (take i cards) ∷ alternatives_from (tests_at c) (drop (suc i) cards)) (alternatives_from (tests_in (take i cards) ++ tests_at c) (drop (suc i) cards))) or
    ∙ ap (λ ks. tests_in (take i cards) ∷ alternatives_in ks) (sym d)

-- it continues with the present one
pub continues : (cards : List SpecCard) (i : ℕ) (c : SpecCard) → i < length cards → c ≡ get_or cards i c → begins_alternative c ≡ false →
    alternatives_in cards ≡ alternatives_from (tests_in (take i cards)) (drop i cards) → alternatives_in cards ≡ alternatives_from (tests_in (take (i + 1) cards)) (drop (i + 1) cards)
continues cards i c h e or so_far =
    let s = split_at cards i c h e in
    let n : suc i ≡ i + 1 = omega arith in
    let t : tests_in (take (suc i) cards) ≡ tests_in (take i cards) ++ tests_at c = ap tests_in s.1 ∙ tests_append (take i cards) (c ∷ []) ∙ ap (λ ts. tests_in (take i cards) ++ ts) (append-nil (tests_at c)) in
    so_far ∙ ap (alternatives_from (tests_in (take i cards))) s.0 ∙ ap (λ b. cond b (tests_in (take i cards) ∷ alternatives_from (tests_at c) (drop (suc i) cards)) (alternatives_from (tests_in (take i cards) ++ tests_at c) (drop (suc i) cards))) or
    ∙ ap (λ ts. alternatives_from ts (drop (suc i) cards)) (sym t) ∙ ap (λ k. alternatives_from (tests_in (take k cards)) (drop k cards)) n

-- ---- one alternative more

-- so many tests stand before and after
pub split_tests : (cards : List SpecCard) (n : ℕ) → length (tests_in cards) ≡ length (tests_in (take n cards)) + length (tests_in (drop n cards))
split_tests cards n =
    ap (λ cs. length (tests_in cs)) (sym (take-append-drop n cards)) ∙ ap length (tests_append (take n cards) (drop n cards)) ∙ length-append (tests_in (take n cards)) (tests_in (drop n cards))

-- an alternative is put after the code, and the others are left
pub pushed : (now new target : List (Instruction ℕ)) (at count operation following : ℕ) (rest alt others : List SpecCard)
    → now ++ tests_code at operation following (alternatives_in rest) ≡ target → alternatives_in rest ≡ tests_in alt ∷ alternatives_in others → 0 < length others → count ≡ length (tests_in alt)
    → new ≡ now ++ alternative_code (at + count) operation (tests_in alt) → new ++ tests_code (at + count) operation following (alternatives_in others) ≡ target
pushed now new target at count operation following rest alt others so_far split some counted made =
    ap (λ xs. xs ++ tests_code (at + count) operation following (alternatives_in others)) made
    ∙ append_assoc now (alternative_code (at + count) operation (tests_in alt)) (tests_code (at + count) operation following (alternatives_in others))
    ∙ ap (λ k. now ++ (alternative_code (at + k) operation (tests_in alt) ++ tests_code (at + k) operation following (alternatives_in others))) counted
    ∙ ap (λ xs. now ++ xs) (sym (tests_step at operation following (tests_in alt) others some))
    ∙ ap (λ alts. now ++ tests_code at operation following alts) (sym split) ∙ so_far
