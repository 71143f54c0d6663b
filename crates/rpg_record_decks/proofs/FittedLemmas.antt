-- A deck by its lines.
use Rattle.std.proofs.Common.{◌≡◌, ℕ, ◌+◌, ◌-◌, ◌<◌, ◌≤◌, ◌==◌, ◌++◌, ◌⊎◌, inl, inr, not, List, [], ◌∷◌, length, take, drop, find, position, refl, sym, ap, ◌∙◌, arith, append_assoc, length-drop, take_all, Some, None}
use Rattle.std.specs.List.{join_with_byte, position_or_len, slice_split}
use Rattle.std.proofs.lemmas.Bool.{cases_lt, not-true}
use Rattle.std.proofs.lemmas.Grind.{common_steps}
use Rattle.std.proofs.lemmas.List.Splits.{length-slice_split, slice_split_first, slice_split_none}
use Rattle.std.proofs.lemmas.List.Sums.{prefix_len_passes}
use Rattle.rpg_text.specs.Lines.{is_line_feed}
use Rattle.rpg_record_decks.specs.Fitted.{changed, fitted_from}
use Rattle.rpg_record_decks.specs.declared.fitted.CardChange.{CardChange}

first_line : (text : List ℕ) (i : ℕ) → position is_line_feed text ≡ Some i → slice_split is_line_feed text ≡ take i text ∷ slice_split is_line_feed (drop (i + 1) text)
first_line text i h = by (cases_lt (position_or_len is_line_feed text) (length text))
  where
    by : (position_or_len is_line_feed text < length text) ⊎ (length text ≤ position_or_len is_line_feed text) → slice_split is_line_feed text ≡ take i text ∷ slice_split is_line_feed (drop (i + 1) text)
    by (inl lt) =
        let e : position is_line_feed text ≡ Some (position_or_len is_line_feed text) = grind (arith, common_steps) in
        let k : position_or_len is_line_feed text ≡ i = cc in
        rw (slice_split_first is_line_feed text 0 lt, k) refl
    by (inr le) = let e : position is_line_feed text ≡ None = grind (arith, common_steps) in absurd cc

last_line : (text : List ℕ) → position is_line_feed text ≡ None → slice_split is_line_feed text ≡ text ∷ []
last_line text h = by (cases_lt (position_or_len is_line_feed text) (length text))
  where
    by : (position_or_len is_line_feed text < length text) ⊎ (length text ≤ position_or_len is_line_feed text) → slice_split is_line_feed text ≡ text ∷ []
    by (inl lt) = let e : position is_line_feed text ≡ Some (position_or_len is_line_feed text) = grind (arith, common_steps) in absurd cc
    by (inr le) = slice_split_none is_line_feed text (λ k d lt. not-true _ (prefix_len_passes (λ b. not (is_line_feed b)) text k d (omega arith)))

joined : (changes : List CardChange) (n : ℕ) (line : List ℕ) (lines : List (List ℕ)) → 0 < length lines
    → join_with_byte 10 (fitted_from changes n (line ∷ lines)) ≡ changed (find (λ (c : CardChange). c.card == n) changes) line ++ 10 ∷ join_with_byte 10 (fitted_from changes (n + 1) lines)
joined changes n line [] h = absurd (omega arith)
joined changes n line (next ∷ more) h = refl

pub first_fitted : (changes : List CardChange) (n i : ℕ) (text : List ℕ) → position is_line_feed text ≡ Some i
    → join_with_byte 10 (fitted_from changes n (slice_split is_line_feed text))
    ≡ changed (find (λ (c : CardChange). c.card == n) changes) (take i text) ++ 10 ∷ join_with_byte 10 (fitted_from changes (n + 1) (slice_split is_line_feed (drop (i + 1) text)))
first_fitted changes n i text h =
    let rest = slice_split is_line_feed (drop (i + 1) text) in
    ap (λ (lines : List (List ℕ)). join_with_byte 10 (fitted_from changes n lines)) (first_line text i h)
    ∙ joined changes n (take i text) (slice_split is_line_feed (drop (i + 1) text)) (omega (arith, length-slice_split is_line_feed (drop (i + 1) text)))

pub last_fitted : (changes : List CardChange) (n : ℕ) (text : List ℕ) → position is_line_feed text ≡ None
    → join_with_byte 10 (fitted_from changes n (slice_split is_line_feed text)) ≡ changed (find (λ (c : CardChange). c.card == n) changes) text
last_fitted changes n text h = ap (λ (lines : List (List ℕ)). join_with_byte 10 (fitted_from changes n lines)) (last_line text h)

-- what follows a line feed
pub rest_following : (text : List ℕ) (i : ℕ) → take (length text - i) (drop i text) ≡ drop i text
rest_following text i = take_all (length text - i) (drop i text) (omega (arith, length-drop i text))

-- one more line of the new deck, with its line feed
pub next_fitted : (changes : List CardChange) (n i : ℕ) (text deck more pushed all : List ℕ) → position is_line_feed text ≡ Some i
    → deck ++ join_with_byte 10 (fitted_from changes n (slice_split is_line_feed text)) ≡ all → more ≡ deck ++ changed (find (λ (c : CardChange). c.card == n) changes) (take i text) → pushed ≡ more ++ 10 ∷ []
    → pushed ++ join_with_byte 10 (fitted_from changes (n + 1) (slice_split is_line_feed (drop (i + 1) text))) ≡ all
next_fitted changes n i text deck more pushed all h e f g =
    let tail = join_with_byte 10 (fitted_from changes (n + 1) (slice_split is_line_feed (drop (i + 1) text))) in
    let line = changed (find (λ (c : CardChange). c.card == n) changes) (take i text) in
    ap (λ (l : List ℕ). l ++ tail) (g ∙ ap (λ (l : List ℕ). l ++ 10 ∷ []) f) ∙ append_assoc (deck ++ line) (10 ∷ []) tail ∙ append_assoc deck line (10 ∷ tail)
    ∙ ap (λ (l : List ℕ). deck ++ l) (sym (first_fitted changes n i text h)) ∙ e
