-- The place of the first line feed, sixteen bytes at a time.
use Rattle.std.proofs.Common.{◌≡◌, ℕ, zero, suc, ◌+◌, ◌-◌, ◌<◌, ◌≤◌, true, List, [], ◌∷◌, length, Some, None, ap, ◌∙◌, arith, inl, inr, take, drop}
use Rattle.std.specs.Prelude.{◌⊎◌, position}
use Rattle.std.specs.List.{prefix_len}
use Rattle.std.specs.Option.{option_map}
use Rattle.std.proofs.lemmas.Bool.{and_parts, cases_lt}
use Rattle.std.proofs.lemmas.Grind.{common_steps}
use Rattle.std.proofs.lemmas.List.{drop-drop, length-drop}
use Rattle.rpg_text.specs.Lines.{is_line, is_line_feed, is_no_line_feed}

none_in_front : (n : ℕ) (text : List ℕ) → n ≤ length text → is_line (take n text) ≡ true → prefix_len is_no_line_feed text ≡ n + prefix_len is_no_line_feed (drop n text)
none_in_front zero text within none = omega arith
none_in_front (suc n) [] within none = absurd (omega arith)
none_in_front (suc n) (b ∷ bytes) within none =
    let both = and_parts (is_no_line_feed b) (is_line (take n bytes)) none in
    let more = none_in_front n bytes (omega arith) both.1 in
    rw both.0 (omega arith)

-- sixteen more
pub none_before : (text : List ℕ) (at : ℕ) → at + 16 ≤ length text → prefix_len is_no_line_feed text ≡ at + prefix_len is_no_line_feed (drop at text)
    → is_line (take (at + 16 - at) (drop at text)) ≡ true → prefix_len is_no_line_feed text ≡ at + 16 + prefix_len is_no_line_feed (drop (at + 16) text)
none_before text at within before none =
    let sixteen : at + 16 - at ≡ 16 = omega arith in
    let more = none_in_front 16 (drop at text) (omega (arith, length-drop at text)) (rw sixteen at none) in
    let following : prefix_len is_no_line_feed (drop 16 (drop at text)) ≡ prefix_len is_no_line_feed (drop (at + 16) text) = ap (prefix_len is_no_line_feed) (drop-drop 16 at text) in
    omega arith

pub first_after : (text : List ℕ) (at : ℕ) → at ≤ length text → prefix_len is_no_line_feed text ≡ at + prefix_len is_no_line_feed (drop at text)
    → position is_line_feed text ≡ option_map (λ i. at + i) (position is_line_feed (drop at text))
first_after text at within before = by (cases_lt (prefix_len is_no_line_feed (drop at text)) (length (drop at text)))
  where
    size : length (drop at text) ≡ length text - at
    size = length-drop at text

    by : (prefix_len is_no_line_feed (drop at text) < length (drop at text)) ⊎ (length (drop at text) ≤ prefix_len is_no_line_feed (drop at text)) → position is_line_feed text ≡ option_map (λ i. at + i) (position is_line_feed (drop at text))
    by (inl lt) =
        let far : prefix_len is_no_line_feed text < length text = omega (arith, size) in
        let there : position is_line_feed (drop at text) ≡ Some (prefix_len is_no_line_feed (drop at text)) = grind (arith, common_steps) in
        let here : position is_line_feed text ≡ Some (prefix_len is_no_line_feed text) = grind (arith, common_steps) in
        rw there (here ∙ ap Some before)
    by (inr le) =
        let far : length text ≤ prefix_len is_no_line_feed text = omega (arith, size) in
        let there : position is_line_feed (drop at text) ≡ None = grind (arith, common_steps) in
        let here : position is_line_feed text ≡ None = grind (arith, common_steps) in
        rw there here
