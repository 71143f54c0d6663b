-- The characters of a part are characters of the whole.
use Rattle.std.proofs.Common.{◌≡◌, ℕ, zero, suc, ◌-◌, ◌≤◌, Bool, true, false, List, [], ◌∷◌, length, take, drop, Some, refl, ap, ◌∙◌, arith}
use Rattle.std.specs.Prelude.{if◌then◌else◌, ◌&&◌, slice_range}
use Rattle.std.specs.List.{list_all, suffix_len}
use Rattle.std.proofs.lemmas.Bool.{eqb-true}
use Rattle.rpg_text.specs.Texts.{is_character, is_blank, trimmed}
use Rattle.rpg_sheet_specs.specs.Values.{is_apostrophe, doubled, undoubled, is_enclosed}
use Rattle.rpg_sheet_values.proofs.LiteralLemmas.{enclosed_is, doubled-undoubled}

both : (a b : Bool) → (a && b) ≡ true → (a ≡ true) × (b ≡ true)
both true b e = (refl, e)
both false b e = absurd cc

pub all-take : (p : ℕ → Bool) (n : ℕ) (xs : List ℕ) → list_all p xs ≡ true → list_all p (take n xs) ≡ true
all-take p zero xs e = refl
all-take p (suc n) [] e = refl
all-take p (suc n) (x ∷ xs) e = let h = both (p x) (list_all p xs) e in rw h.0 (all-take p n xs h.1)

pub all-drop : (p : ℕ → Bool) (n : ℕ) (xs : List ℕ) → list_all p xs ≡ true → list_all p (drop n xs) ≡ true
all-drop p zero xs e = e
all-drop p (suc n) [] e = refl
all-drop p (suc n) (x ∷ xs) e = all-drop p n xs (both (p x) (list_all p xs) e).1

all-undoubled : (p : ℕ → Bool) (t : List ℕ) → list_all p (doubled t) ≡ true → list_all p t ≡ true
all-undoubled p [] e = refl
all-undoubled p (c ∷ cs) e = by (is_apostrophe c) refl (all-undoubled p cs) e
  where
    by : (b : Bool) → is_apostrophe c ≡ b → (list_all p (doubled cs) ≡ true → list_all p cs ≡ true) → list_all p (if b then 39 ∷ 39 ∷ doubled cs else c ∷ doubled cs) ≡ true → list_all p (c ∷ cs) ≡ true
    by true h more e =
        let is = eqb-true c 39 h in
        let first = both (p 39) (list_all p (39 ∷ doubled cs)) e in
        let second = both (p 39) (list_all p (doubled cs)) first.1 in
        rw (is, first.0) (more second.1)
    by false h more e = let first = both (p c) (list_all p (doubled cs)) e in rw first.0 (more first.1)

pub trimmed_characters : (text : List ℕ) → list_all is_character text ≡ true → list_all is_character (trimmed text) ≡ true
trimmed_characters text all = all-take is_character (length text - suffix_len is_blank text) text all

-- what stands between apostrophes
pub quoted_characters : (text t : List ℕ) → list_all is_character text ≡ true → undoubled (slice_range text 1 (length text - 1)) ≡ Some t → list_all is_character t ≡ true
quoted_characters text t all e =
    let inner = doubled-undoubled (slice_range text 1 (length text - 1)) t e in
    all-undoubled is_character t (rw inner at (all-take is_character (length text - 1 - 1) (drop 1 text) (all-drop is_character 1 text all)))

-- at least one
pub quoted_some : (text t : List ℕ) → is_enclosed text ≡ true → undoubled (slice_range text 1 (length text - 1)) ≡ Some t → 1 ≤ length t
quoted_some text t closed e = by t refl
  where
    inner : slice_range text 1 (length text - 1) ≡ doubled t
    inner = doubled-undoubled (slice_range text 1 (length text - 1)) t e

    by : (u : List ℕ) → t ≡ u → 1 ≤ length u
    by [] is = absurd (let some = (enclosed_is text closed).1 in let none : length (slice_range text 1 (length text - 1)) ≡ 0 = ap length (inner ∙ ap doubled is) in omega arith)
    by (c ∷ cs) is = omega arith
