-- Control fields whose bytes are the last ones of their levels.
use Rattle.std.proofs.Common.{◌≡◌, ◌∙◌, ℕ, ◌+◌, ◌-◌, ◌<◌, ◌≤◌, zero, suc, Bool, true, false, cond, ◌&&◌, ◌||◌, not, eqb, eqb-true, eq-eqb, ne_eqb, leb, List, [], ◌∷◌, ◌++◌, length, map, get_or, Option, None, Some, refl, sym, ap, subst, append-nil, arith}
use Rattle.std.proofs.Math.ListN.{set}
use Rattle.std.proofs.lemmas.Bool.{le-leb}
use Rattle.std.proofs.lemmas.List.{length-map, set-get_or}
use Rattle.std.specs.Cmp.Lexicographic.{pointwise}
use Rattle.std.specs.List.{slice_range}
use Rattle.rpg_program.specs.declared.input.ControlField.{ControlField}
use Rattle.rpg_cycle_records.specs.Earlier.{or_before}
use Rattle.rpg_cycle_records.specs.Keeping.{renewed}
use Rattle.rpg_cycle_records.specs.Lasting.{are_last, had, is_last}
use Rattle.rpg_cycle_records.specs.Levels.{same_bytes, compared_byte, compared, joined_bytes, has_level, level_bytes, differs, highest_broken}
use Rattle.rpg_cycle_records.proofs.Joining.{both, broken_stays, renewed_stays, same_bytes-true}

-- ---- two texts

-- what `==` says of them
pub same_by_pairs : (xs ys : List ℕ) → pointwise eqb xs ys ≡ same_bytes xs ys
same_by_pairs [] [] = refl
same_by_pairs [] (y ∷ ys) = refl
same_by_pairs (x ∷ xs) [] = refl
same_by_pairs (x ∷ xs) (y ∷ ys) = ap (λ b. eqb x y && b) (same_by_pairs xs ys)

-- those of two lengths aren't the same
pub other_lengths : (xs ys : List ℕ) → (length xs ≡ length ys → ⊥) → same_bytes xs ys ≡ false
other_lengths [] [] h = absurd (h refl)
other_lengths [] (y ∷ ys) h = refl
other_lengths (x ∷ xs) [] h = refl
other_lengths (x ∷ xs) (y ∷ ys) h = ap (λ b. eqb x y && b) (other_lengths xs ys (λ e. h (omega (arith, e)))) ∙ no_more (eqb x y)
  where
    no_more : (b : Bool) → (b && false) ≡ false
    no_more true = refl
    no_more false = refl

same_itself : (xs : List ℕ) → same_bytes xs xs ≡ true
same_itself [] = refl
same_itself (x ∷ xs) = ap (λ b. b && same_bytes xs xs) (eq-eqb x x refl) ∙ same_itself xs

-- bytes that aren't numeric are compared as they are
pub as_they_are : (xs : List ℕ) → map (compared_byte false) xs ≡ xs
as_they_are [] = refl
as_they_are (x ∷ xs) = ap (λ ys. x ∷ ys) (as_they_are xs)

-- the bytes of a control field that is numeric, beside others of another length
pub unlike : (bytes columns text : List ℕ) (f : ControlField) → columns ≡ slice_range text (f.from - 1) f.to → (length bytes ≡ length columns → ⊥) →
    eqb (length bytes) (length columns) ≡ same_bytes bytes (compared text f)
unlike bytes columns text f e other =
    ne_eqb (length bytes) (length columns) other
    ∙ sym (other_lengths bytes (compared text f) (λ same. other (same ∙ length-map (slice_range text (f.from - 1) f.to) (compared_byte f.is_numeric) ∙ ap length (sym e))))

-- those of one that isn't
pub plain_columns : (columns text : List ℕ) (f : ControlField) → columns ≡ slice_range text (f.from - 1) f.to → f.is_numeric ≡ false → compared text f ≡ columns
plain_columns columns text f e plain =
    ap (λ b. map (compared_byte b) (slice_range text (f.from - 1) f.to)) plain ∙ as_they_are (slice_range text (f.from - 1) f.to) ∙ sym e

pub plainly : (bytes columns text : List ℕ) (f : ControlField) → columns ≡ slice_range text (f.from - 1) f.to → f.is_numeric ≡ false →
    pointwise eqb bytes columns ≡ same_bytes bytes (compared text f)
plainly bytes columns text f e plain = same_by_pairs bytes columns ∙ ap (same_bytes bytes) (sym (plain_columns columns text f e plain))

-- ---- fields that are alone of their levels

no_bytes : (fs : List ControlField) (text : List ℕ) (k : ℕ) → has_level fs k ≡ false → joined_bytes fs text k ≡ []
no_bytes [] text k h = refl
no_bytes (f ∷ fs) text k h = by_first (eqb f.level k) h (no_bytes fs text k)
  where
    by_first : (b : Bool) → (b || has_level fs k) ≡ false → (has_level fs k ≡ false → joined_bytes fs text k ≡ []) → cond b (compared text f) [] ++ joined_bytes fs text k ≡ []
    by_first true e go = cc
    by_first false e go = go e

-- each level that the fields have has its last bytes
abbrev pub AreLast : List (Option (List ℕ)) → List ℕ → List ControlField → Type 0
AreLast last text fs = (k : ℕ) → has_level fs k ≡ true → get_or last (k - 1) None ≡ Some (joined_bytes fs text k)

had_these : (o : Option (List ℕ)) (bytes : List ℕ) → had o bytes ≡ true → o ≡ Some bytes
had_these None bytes h = cc
had_these (Some last) bytes h = ap Some (same_bytes-true last bytes h)

not_so : (b : Bool) → not b ≡ true → b ≡ false
not_so true h = cc
not_so false h = refl

pub all_last : (last : List (Option (List ℕ))) (text : List ℕ) (fs : List ControlField) → are_last last text fs ≡ true → AreLast last text fs
all_last last text [] all = λ k there. cc
all_last last text (f ∷ fs) all = λ k there. by_first k (all_last last text fs rest.1 k) (eqb f.level k) refl there
  where
    alone : (not (has_level fs f.level) ≡ true) × ((is_last last text f && are_last last text fs) ≡ true)
    alone = both (not (has_level fs f.level)) (is_last last text f && are_last last text fs) all

    rest : (is_last last text f ≡ true) × (are_last last text fs ≡ true)
    rest = both (is_last last text f) (are_last last text fs) alone.1

    first : get_or last (f.level - 1) None ≡ Some (compared text f)
    first = had_these (get_or last (f.level - 1) None) (compared text f) (both (leb 1 f.level) (had (get_or last (f.level - 1) None) (compared text f)) rest.0).1

    Holds : ℕ → Type 0
    Holds k = has_level fs k ≡ true → get_or last (k - 1) None ≡ Some (joined_bytes fs text k)

    by_first : (k : ℕ) → Holds k → (b : Bool) → eqb f.level k ≡ b → (b || has_level fs k) ≡ true → get_or last (k - 1) None ≡ Some (cond b (compared text f) [] ++ joined_bytes fs text k)
    by_first k others true e there =
        let own : f.level ≡ k = eqb-true f.level k e in
        ap (λ n. get_or last (n - 1) None) (sym own)
        ∙ first
        ∙ ap Some (sym (ap (λ (bs : List ℕ). compared text f ++ bs) (no_bytes fs text k (ap (has_level fs) (sym own) ∙ not_so (has_level fs f.level) alone.0)) ∙ append-nil (compared text f)))
    by_first k others false e there = others there

-- no level is broken then, and none is renewed
last_level : (last : List (Option (List ℕ))) (text : List ℕ) (fs : List ControlField) (k : ℕ) → AreLast last text fs →
    (differs (get_or last (k - 1) None) (level_bytes fs text k) ≡ false) × (or_before (get_or last (k - 1) None) (level_bytes fs text k) ≡ get_or last (k - 1) None)
last_level last text fs k are = by_level (has_level fs k) refl
  where
    stays : (o : Option (List ℕ)) → (differs o None ≡ false) × (or_before o None ≡ o)
    stays None = (refl, refl)
    stays (Some x) = (refl, refl)

    Stays : Option (List ℕ) → Option (List ℕ) → Type 0
    Stays o now = (differs o now ≡ false) × (or_before o now ≡ o)

    by_level : (b : Bool) → has_level fs k ≡ b → Stays (get_or last (k - 1) None) (cond b (Some (joined_bytes fs text k)) None)
    by_level false none = stays (get_or last (k - 1) None)
    by_level true there = subst (λ o. Stays o (Some (joined_bytes fs text k))) (sym (are k there)) (ap not (same_itself (joined_bytes fs text k)), refl)

pub none_broken : (last : List (Option (List ℕ))) (text : List ℕ) (fs : List ControlField) (n : ℕ) → AreLast last text fs →
    highest_broken (λ k. differs (get_or last (k - 1) None) (level_bytes fs text k)) n ≡ 0
none_broken last text fs zero are = refl
none_broken last text fs (suc n) are =
    ap (λ b. cond b (n + 1) (highest_broken (λ k. differs (get_or last (k - 1) None) (level_bytes fs text k)) n)) (last_level last text fs (n + 1) are).0
    ∙ none_broken last text fs n are

pub none_renewed : (last : List (Option (List ℕ))) (text : List ℕ) (fs : List ControlField) (n : ℕ) → AreLast last text fs → renewed fs text n last ≡ last
none_renewed last text fs zero are = refl
none_renewed last text fs (suc n) are =
    let back : n + 1 - 1 ≡ n = omega arith in
    let kept : or_before (get_or last n None) (level_bytes fs text (n + 1)) ≡ get_or last n None =
    subst (λ m. or_before (get_or last m None) (level_bytes fs text (n + 1)) ≡ get_or last m None) back (last_level last text fs (n + 1) are).1 in
    ap (λ (xs : List (Option (List ℕ))). set xs n (or_before (get_or last n None) (level_bytes fs text (n + 1)))) (none_renewed last text fs n are)
    ∙ ap (set last n) kept
    ∙ set-get_or last n None

-- ---- one control field, whose level is renewed

only_bytes : (f : ControlField) (text : List ℕ) (k : ℕ) → f.level ≡ k → level_bytes (f ∷ []) text k ≡ Some (compared text f)
only_bytes f text k e = let own : eqb f.level k ≡ true = eq-eqb f.level k e in rw own (ap Some (append-nil (compared text f)))

only_level : (f : ControlField) (k : ℕ) → (f.level ≡ k → ⊥) → has_level (f ∷ []) k ≡ false
only_level f k other = rw (ne_eqb f.level k other) refl

not_had : (low had : Bool) → low ≡ true → ((low && had) && true) ≡ false → had ≡ false
not_had true true e h = cc
not_had true false e h = refl
not_had false had e h = cc

breaks : (o : Option (List ℕ)) (bytes : List ℕ) → had o bytes ≡ false → differs o (Some bytes) ≡ true
breaks None bytes h = refl
breaks (Some last) bytes h = ap not h

-- the levels above and below it are as they were
only_renewed : (f : ControlField) (text : List ℕ) (old : List (Option (List ℕ))) → 1 ≤ f.level → f.level ≤ 9 →
    renewed (f ∷ []) text 9 old ≡ set old (f.level - 1) (Some (compared text f))
only_renewed f text old low high =
    let n = f.level - 1 in
    let next : n + 1 ≡ f.level = omega (arith, low) in
    let own : suc n ≡ f.level = omega (arith, low) in
    renewed_stays (f ∷ []) text old 9 f.level high (λ k more most. only_level f k (λ e. omega (arith, e, more)))
    ∙ ap (λ (k : ℕ). renewed (f ∷ []) text k old) (sym own)
    ∙ ap (λ (o : Option (List ℕ)). set (renewed (f ∷ []) text n old) n (or_before (get_or old n None) o)) (only_bytes f text (n + 1) (sym next))
    ∙ ap (λ (xs : List (Option (List ℕ))). set xs n (Some (compared text f))) (renewed_stays (f ∷ []) text old n 0 (omega arith) (λ k more most. only_level f k (λ e. omega (arith, e, more, most, low))))

-- and it is the highest level that is broken
only_broken : (f : ControlField) (text : List ℕ) (old : List (Option (List ℕ))) → 1 ≤ f.level → f.level ≤ 9 → are_last old text (f ∷ []) ≡ false →
    highest_broken (λ k. differs (get_or old (k - 1) None) (level_bytes (f ∷ []) text k)) 9 ≡ f.level
only_broken f text old low high changed =
    let n = f.level - 1 in
    let next : n + 1 ≡ f.level = omega (arith, low) in
    let own : suc n ≡ f.level = omega (arith, low) in
    let lower = highest_broken (λ k. differs (get_or old (k - 1) None) (level_bytes (f ∷ []) text k)) n in
    let broken : differs (get_or old (f.level - 1) None) (level_bytes (f ∷ []) text f.level) ≡ true =
    ap (differs (get_or old n None)) (only_bytes f text f.level refl)
    ∙ breaks (get_or old n None) (compared text f) (not_had (leb 1 f.level) (had (get_or old n None) (compared text f)) (le-leb 1 f.level low) changed) in
    broken_stays (f ∷ []) text old 9 f.level high (λ k more most. only_level f k (λ e. omega (arith, e, more)))
    ∙ ap (highest_broken (λ k. differs (get_or old (k - 1) None) (level_bytes (f ∷ []) text k))) (sym own)
    ∙ ap (λ (b : Bool). cond b (n + 1) lower) (ap (λ (k : ℕ). differs (get_or old (k - 1) None) (level_bytes (f ∷ []) text k)) next ∙ broken)
    ∙ next

pub alone_broken : (fs : List ControlField) (d : ControlField) (text : List ℕ) (old : List (Option (List ℕ))) → 1 ≤ length fs → length fs < 2 →
    1 ≤ (get_or fs 0 d).level → (get_or fs 0 d).level ≤ 9 → are_last old text fs ≡ false →
    (get_or fs 0 d).level ≡ highest_broken (λ k. differs (get_or old (k - 1) None) (level_bytes fs text k)) 9
alone_broken [] d text old some few low high changed = absurd (omega (arith, some))
alone_broken (f ∷ []) d text old some few low high changed = sym (only_broken f text old low high changed)
alone_broken (f ∷ g ∷ fs) d text old some few low high changed = absurd (omega (arith, few))

pub alone_renewed : (fs : List ControlField) (d : ControlField) (text : List ℕ) (old : List (Option (List ℕ))) → 1 ≤ length fs → length fs < 2 →
    1 ≤ (get_or fs 0 d).level → (get_or fs 0 d).level ≤ 9 → set old ((get_or fs 0 d).level - 1) (Some (compared text (get_or fs 0 d))) ≡ renewed fs text 9 old
alone_renewed [] d text old some few low high = absurd (omega (arith, some))
alone_renewed (f ∷ []) d text old some few low high = sym (only_renewed f text old low high)
alone_renewed (f ∷ g ∷ fs) d text old some few low high = absurd (omega (arith, few))
