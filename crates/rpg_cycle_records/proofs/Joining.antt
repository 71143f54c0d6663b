-- The bytes of a level, field by field.
use Rattle.std.proofs.Common.{◌≡◌, ℕ, ◌≤◌, ◌<◌, ◌+◌, ◌-◌, zero, suc, Bool, true, false, cond, ◌&&◌, leb, eqb, eqb-true, ne_eqb, List, [], ◌∷◌, length, get_or, drop, Option, None, Some, refl, sym, ap, ◌∙◌, arith, add-one}
use Rattle.std.proofs.Math.ListN.{set}
use borrow.Author.Tests.{leb-true, leb-false}
use Rattle.std.proofs.lemmas.List.{get_or-set_other, get_or-map, map-set, set-get_or, drop_more}
use Rattle.rpg_program.specs.declared.input.ControlField.{ControlField}
use Rattle.rpg_cycle_records.specs.Earlier.{or_before}
use Rattle.rpg_cycle_records.specs.Fronts.{rest_following}
use Rattle.rpg_cycle_records.specs.Keeping.{renewed, seen_bytes, seen_levels}
use Rattle.rpg_cycle_records.specs.Levels.{same_bytes, joined_bytes, at_level, has_level, level_bytes, differs, highest_broken}
use Rattle.rpg_cycle_records.specs.declared.levels.LastBytes.{LastBytes}
use Rattle.rpg_cycle_records.proofs.Fronts.{same_rest, same_after}

-- the first field's bytes are there or not
pub same_first : (fs : List ControlField) (k : ℕ) (d : ControlField) (text rest more : List ℕ) (level : ℕ) → k < length fs →
    rest_following (at_level text level (get_or fs k d)) rest ≡ Some more → same_bytes rest (joined_bytes (drop k fs) text level) ≡ same_bytes more (joined_bytes (drop (k + 1) fs) text level)
same_first fs k d text rest more level h e =
    ap (λ (x : List ControlField). same_bytes rest (joined_bytes x text level)) (drop_more fs k d h)
    ∙ same_after (at_level text level (get_or fs k d)) rest (joined_bytes (drop (k + 1) fs) text level)
    ∙ ap (λ o. same_rest o (joined_bytes (drop (k + 1) fs) text level)) e

pub other_first : (fs : List ControlField) (k : ℕ) (d : ControlField) (text rest : List ℕ) (level : ℕ) → k < length fs →
    rest_following (at_level text level (get_or fs k d)) rest ≡ None → same_bytes rest (joined_bytes (drop k fs) text level) ≡ false
other_first fs k d text rest level h e =
    ap (λ (x : List ControlField). same_bytes rest (joined_bytes x text level)) (drop_more fs k d h)
    ∙ same_after (at_level text level (get_or fs k d)) rest (joined_bytes (drop (k + 1) fs) text level)
    ∙ ap (λ o. same_rest o (joined_bytes (drop (k + 1) fs) text level)) e

-- nothing is left
pub same_none : (rest : List ℕ) → same_bytes rest [] ≡ eqb (length rest) 0
same_none [] = refl
same_none (x ∷ xs) = sym (ne_eqb (length (x ∷ xs)) 0 (λ e. omega arith))

pub both : (b c : Bool) → (b && c) ≡ true → (b ≡ true) × (c ≡ true)
both true c h = (refl, h)
both false c h = cc

-- what compares as the same is the same
pub same_bytes-true : (xs ys : List ℕ) → same_bytes xs ys ≡ true → xs ≡ ys
same_bytes-true [] [] h = refl
same_bytes-true [] (y ∷ ys) h = cc
same_bytes-true (x ∷ xs) [] h = cc
same_bytes-true (x ∷ xs) (y ∷ ys) h =
    let t = both (eqb x y) (same_bytes xs ys) h in
    ap (λ z. z ∷ xs) (eqb-true x y t.0) ∙ ap (λ zs. y ∷ zs) (same_bytes-true xs ys t.1)

-- levels from the n-th on are as they were
pub renewed_beyond : (fs : List ControlField) (text : List ℕ) (n k : ℕ) (xs : List (Option (List ℕ))) → n ≤ k → get_or (renewed fs text n xs) k None ≡ get_or xs k None
renewed_beyond fs text zero k xs h = refl
renewed_beyond fs text (suc n) k xs h =
    get_or-set_other (renewed fs text n xs) n k (or_before (get_or xs n None) (level_bytes fs text (n + 1))) None (λ e. omega arith)
    ∙ renewed_beyond fs text n k xs (omega arith)

abbrev test : List ControlField → List ℕ → List (Option (List ℕ)) → ℕ → Bool
test fs text old k = differs (get_or old (k - 1) None) (level_bytes fs text k)

-- what a level's bytes were
was_at : (fs : List ControlField) (text : List ℕ) (levels : List LastBytes) (old : List (Option (List ℕ))) (i : ℕ) (d : LastBytes) → i < length levels →
    seen_levels levels ≡ renewed fs text i old → seen_bytes (get_or levels i d) ≡ get_or old i None
was_at fs text levels old i d h kept =
    sym (get_or-map seen_bytes levels i d None h)
    ∙ ap (λ (xs : List (Option (List ℕ))). get_or xs i None) kept ∙ renewed_beyond fs text i i old (omega arith)

-- one level more is kept
pub kept_more : (fs : List ControlField) (text : List ℕ) (levels : List LastBytes) (old : List (Option (List ℕ))) (i : ℕ) (d now : LastBytes) → i < length levels →
    seen_levels levels ≡ renewed fs text i old → seen_bytes now ≡ or_before (seen_bytes (get_or levels i d)) (level_bytes fs text (i + 1)) →
    seen_levels (set levels i now) ≡ renewed fs text (i + 1) old
kept_more fs text levels old i d now h kept e =
    map-set seen_bytes levels i now
    ∙ ap (λ (xs : List (Option (List ℕ))). set xs i (seen_bytes now)) kept
    ∙ ap (λ (x : Option (List ℕ)). set (renewed fs text i old) i x) (e ∙ ap (λ o. or_before o (level_bytes fs text (i + 1))) (was_at fs text levels old i d h kept))
    ∙ ap (λ n. renewed fs text n old) (sym (add-one i))

-- one level more is compared
pub broken_more : (fs : List ControlField) (text : List ℕ) (levels : List LastBytes) (old : List (Option (List ℕ))) (i broken higher : ℕ) (d : LastBytes) (b : Bool) → i < length levels →
    seen_levels levels ≡ renewed fs text i old → b ≡ differs (seen_bytes (get_or levels i d)) (level_bytes fs text (i + 1)) →
    broken ≡ highest_broken (test fs text old) i → higher ≡ cond b (i + 1) broken → higher ≡ highest_broken (test fs text old) (i + 1)
broken_more fs text levels old i broken higher d b h kept e so_far up =
    up ∙ ap (λ n. cond b (i + 1) n) so_far
    ∙ ap (λ x. cond x (i + 1) (highest_broken (test fs text old) i))
    (e ∙ ap (λ o. differs o (level_bytes fs text (i + 1))) (was_at fs text levels old i d h kept ∙ ap (λ k. get_or old k None) back))
    ∙ ap (highest_broken (test fs text old)) (sym (add-one i))
  where
    back : i ≡ i + 1 - 1
    back = omega arith

pub still_low : (i broken higher : ℕ) (b : Bool) → broken ≤ i → higher ≡ cond b (i + 1) broken → higher ≤ i + 1
still_low i broken higher true h e = omega arith
still_low i broken higher false h e = omega arith

-- ---- levels above the highest that the fields have

pub none_above : (fs : List ControlField) (k : ℕ) → ((i : ℕ) (d : ControlField) → i < length fs → (get_or fs i d).level < k) → has_level fs k ≡ false
none_above [] k low = refl
none_above (f ∷ fs) k low =
    rw (ne_eqb f.level k (λ e. let first = low 0 f (omega arith) in omega (arith, e, first))) (none_above fs k (λ i d h. low (suc i) d (omega (arith, h))))

differs_none : (last : Option (List ℕ)) → differs last None ≡ false
differs_none None = refl
differs_none (Some x) = refl

above : (fs : List ControlField) (text : List ℕ) (k : ℕ) → has_level fs k ≡ false → level_bytes fs text k ≡ None
above fs text k none = rw none refl

-- none of these levels is broken
pub broken_stays : (fs : List ControlField) (text : List ℕ) (old : List (Option (List ℕ))) (n h : ℕ) → h ≤ n → ((k : ℕ) → h < k → k ≤ n → has_level fs k ≡ false) →
    highest_broken (test fs text old) n ≡ highest_broken (test fs text old) h
broken_stays fs text old zero zero le none = refl
broken_stays fs text old zero (suc h) le none = absurd (omega (arith, le))
broken_stays fs text old (suc n) h le none = by_test (λ lower. broken_stays fs text old n h lower (λ k more most. none k more (omega (arith, most)))) (leb h n) refl
  where
    by_test : (h ≤ n → highest_broken (test fs text old) n ≡ highest_broken (test fs text old) h) → (b : Bool) → leb h n ≡ b → highest_broken (test fs text old) (suc n) ≡ highest_broken (test fs text old) h
    by_test go true t =
        let lower = leb-true h n t in
        ap (λ b. cond b (n + 1) (highest_broken (test fs text old) n)) (ap (differs (get_or old (n + 1 - 1) None)) (above fs text (n + 1) (none (n + 1) (omega (arith, lower)) (omega arith))) ∙ differs_none (get_or old (n + 1 - 1) None))
        ∙ go lower
    by_test go false t =
        let higher = leb-false h n t in
        let same : suc n ≡ h = omega (arith, higher, le) in
        ap (highest_broken (test fs text old)) same

-- they stay as they were
pub renewed_stays : (fs : List ControlField) (text : List ℕ) (old : List (Option (List ℕ))) (n h : ℕ) → h ≤ n → ((k : ℕ) → h < k → k ≤ n → has_level fs k ≡ false) →
    renewed fs text n old ≡ renewed fs text h old
renewed_stays fs text old zero zero le none = refl
renewed_stays fs text old zero (suc h) le none = absurd (omega (arith, le))
renewed_stays fs text old (suc n) h le none = by_test (λ lower. renewed_stays fs text old n h lower (λ k more most. none k more (omega (arith, most)))) (leb h n) refl
  where
    same : h ≤ n → set (renewed fs text n old) n (or_before (get_or old n None) (level_bytes fs text (n + 1))) ≡ renewed fs text n old
    same lower =
        ap (λ o. set (renewed fs text n old) n (or_before (get_or old n None) o)) (above fs text (n + 1) (none (n + 1) (omega (arith, lower)) (omega arith)))
        ∙ ap (set (renewed fs text n old) n) (sym (renewed_beyond fs text n n old (omega arith)))
        ∙ set-get_or (renewed fs text n old) n None

    by_test : (h ≤ n → renewed fs text n old ≡ renewed fs text h old) → (b : Bool) → leb h n ≡ b → renewed fs text (suc n) old ≡ renewed fs text h old
    by_test go true t = let lower = leb-true h n t in same lower ∙ go lower
    by_test go false t =
        let higher = leb-false h n t in
        let as_one : suc n ≡ h = omega (arith, higher, le) in
        ap (λ k. renewed fs text k old) as_one
