-- The lines of a text.
use Rattle.std.proofs.Common.{◌≡◌, ℕ, ◌+◌, ◌<◌, ◌≤◌, true, false, List, [], ◌∷◌, ◌++◌, length, Some, None, refl, ap, ◌∙◌, arith, inl, inr, take, append_assoc}
use Rattle.std.specs.Prelude.{position, ◌⊎◌, drop, ◌-◌, not, All}
use Rattle.std.specs.List.{slice_split, position_or_len, before_first, after_first, flat_map}
use Rattle.std.specs.Str.Lines.{lines, lines_of_parts, strip_carriage_return}
use Rattle.std.proofs.lemmas.List.Splits.{length-slice_split, slice_split_first, slice_split_at, slice_split_none}
use Rattle.std.proofs.lemmas.List.Sums.{AllPass-from_list_all, prefix_len_passes}
use Rattle.std.proofs.lemmas.Bool.{cases_lt, and_parts, not-true}
use Rattle.std.proofs.lemmas.Grind.{common_steps}
use Rattle.std.proofs.lemmas.List.{take_all, length-drop}
use Rattle.rpg_text.specs.Lines.{is_line_feed, is_line, with_line_feed, unless_empty, LinesEndAtLineFeeds}

parts : (x : List ℕ) (ps : List (List ℕ)) → 0 < length ps → lines_of_parts (x ∷ ps) ≡ strip_carriage_return x ∷ lines_of_parts ps
parts x [] h = absurd (omega arith)
parts x (p ∷ ps) h = refl

some : (ys : List ℕ) → 0 < length (slice_split is_line_feed ys)
some ys = omega (arith, length-slice_split is_line_feed ys)

pub lines_at_line_feed : (text : List ℕ) (i : ℕ) → position is_line_feed text ≡ Some i → lines text ≡ strip_carriage_return (take i text) ∷ lines (drop (i + 1) text)
lines_at_line_feed text i h =
    let n = position_or_len is_line_feed text in
    by (cases_lt n (length text))
  where
    by : (position_or_len is_line_feed text < length text) ⊎ (length text ≤ position_or_len is_line_feed text) → lines text ≡ strip_carriage_return (take i text) ∷ lines (drop (i + 1) text)
    by (inl lt) =
        let e : position is_line_feed text ≡ Some (position_or_len is_line_feed text) = grind (arith, common_steps) in
        let k : position_or_len is_line_feed text ≡ i = cc in
        rw (slice_split_first is_line_feed text 0 lt, parts (before_first is_line_feed text) (slice_split is_line_feed (after_first is_line_feed text)) (some (after_first is_line_feed text)), k) refl
    by (inr le) = let e : position is_line_feed text ≡ None = grind (arith, common_steps) in absurd cc

one : (part : List ℕ) → 0 < length part → lines_of_parts (part ∷ []) ≡ part ∷ []
one [] some = absurd (omega arith)
one (b ∷ bytes) some = grind (arith, common_steps)

none_split : (text : List ℕ) → length text ≤ position_or_len is_line_feed text → slice_split is_line_feed text ≡ text ∷ []
none_split text none = slice_split_none is_line_feed text (λ k d lt. not-true _ (prefix_len_passes (λ b. not (is_line_feed b)) text k d (omega arith)))

pub lines_last : (text : List ℕ) → 0 < length text → position is_line_feed text ≡ None → lines text ≡ text ∷ []
lines_last text more h = by (cases_lt (position_or_len is_line_feed text) (length text))
  where
    by : (position_or_len is_line_feed text < length text) ⊎ (length text ≤ position_or_len is_line_feed text) → lines text ≡ text ∷ []
    by (inl lt) = let e : position is_line_feed text ≡ Some (position_or_len is_line_feed text) = grind (arith, common_steps) in absurd cc
    by (inr le) = rw (none_split text le) (one text more)

-- the rest of a text, up to its end
pub lines_following : (text : List ℕ) (i : ℕ) → lines (take (length text - i) (drop i text)) ≡ lines (drop i text)
lines_following text i = rw (take_all (length text - i) (drop i text) (omega (arith, length-drop i text))) refl

-- ---- a text that is put together of lines

no_line_feed : (part : List ℕ) → is_line part ≡ true → All (λ b. is_line_feed b ≡ false) part
no_line_feed part other = λ k d lt. not-true _ (AllPass-from_list_all (λ b. not (is_line_feed b)) part other k d lt)

one_line : (part rest : List ℕ) → is_line part ≡ true → lines (part ++ 10 ∷ rest) ≡ strip_carriage_return part ∷ lines rest
one_line part rest other = rw (slice_split_at is_line_feed part 10 rest (no_line_feed part other) refl) (parts part (slice_split is_line_feed rest) (some rest))

no_line : (rest : List ℕ) → is_line rest ≡ true → lines rest ≡ unless_empty rest
no_line [] other = refl
no_line (b ∷ bytes) other = rw (slice_split_none is_line_feed (b ∷ bytes) (no_line_feed (b ∷ bytes) other)) (one (b ∷ bytes) (omega arith))

pub by_lines : LinesEndAtLineFeeds
by_lines [] rest all other = no_line rest other
by_lines (part ∷ more) rest all other =
    let both = and_parts _ _ all in
    let following : List ℕ = flat_map with_line_feed more ++ rest in
    let regrouped : flat_map with_line_feed (part ∷ more) ++ rest ≡ part ++ 10 ∷ following = append_assoc (part ++ 10 ∷ []) (flat_map with_line_feed more) rest ∙ append_assoc part (10 ∷ []) following in
    ap lines regrouped ∙ one_line part following both.0 ∙ ap (λ (later : List (List ℕ)). strip_carriage_return part ∷ later) (by_lines more rest both.1 other)
