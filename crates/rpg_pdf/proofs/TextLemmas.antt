-- Texts that grow.
use Rattle.std.proofs.Common.{◌≡◌, refl, ◌==◌, ◌+◌, ◌-◌, ◌<◌, ◌≤◌, ℕ, true, false, List, [], ◌∷◌, ◌++◌, length, take, drop, get_or, Some, None, sym, ap, ◌∙◌, subst, arith, inl, inr, append_assoc, append-nil}
use Rattle.std.proofs.lemmas.Bool.{cases_lt, cond-false, cond-true}
use Rattle.std.proofs.lemmas.Grind.{common_steps}
use Rattle.std.proofs.lemmas.List.{at_drop_all, at_drop_more, flat_map_more, take_all, take_more, take_rest}
use Rattle.std.proofs.lemmas.List.Quantifiers.{position-Some}
use Rattle.std.proofs.lemmas.List.Splits.{slice_split_first, slice_split_none}
use Rattle.std.proofs.lemmas.List.Sums.{fails_before_first, position_or_len_is}
use Rattle.std.specs.List.{position_or_len, slice_split}
use Rattle.std.specs.Prelude.{position, ◌⊎◌}
use Rattle.rpg_pdf.specs.Contents.{escaped, escaped_byte}
use Rattle.rpg_pdf.specs.Texts.{filled, is_mark, number_by}

-- one more text
pub put_more : (whole old new one later : List ℕ) → whole ≡ old ++ (one ++ later) → new ≡ old ++ one → whole ≡ new ++ later
put_more whole old new one later e is = e ∙ sym (append_assoc old one later) ∙ ap (λ t. t ++ later) (sym is)

-- one more byte of a text with numbers: a mark, which the next number replaces
pub mark_filled : (whole old new text numbers : List ℕ) (i used : ℕ) → i < length text → used < length numbers → is_mark (get_or text i 0) ≡ true
    → whole ≡ old ++ filled (drop i text) (drop used numbers) → new ≡ old ++ number_by (get_or text i 0) (get_or numbers used 0) → whole ≡ new ++ filled (drop (i + 1) text) (drop (used + 1) numbers)
unfolding filled
mark_filled whole old new text numbers i used lt few mark e is =
    let next : filled (drop i text) (drop used numbers) ≡ number_by (get_or text i 0) (get_or numbers used 0) ++ filled (drop (i + 1) text) (drop (used + 1) numbers) =
    at_drop_more (λ t. filled t (drop used numbers)) text i 0 lt ∙ at_drop_more (λ ns. filled (get_or text i 0 ∷ drop (i + 1) text) ns) numbers used 0 few ∙ cond-true _ _ _ mark in
    put_more whole old new (number_by (get_or text i 0) (get_or numbers used 0)) (filled (drop (i + 1) text) (drop (used + 1) numbers)) (e ∙ ap (λ t. old ++ t) next) is

-- any other byte
kept : (b : ℕ) (text numbers : List ℕ) → is_mark b ≡ false → filled (b ∷ text) numbers ≡ b ∷ filled text numbers
unfolding filled
kept b text [] e = refl
kept b text (n ∷ numbers) e = cond-false _ _ _ e

pub byte_kept : (whole old new text numbers : List ℕ) (i used : ℕ) → i < length text → is_mark (get_or text i 0) ≡ false
    → whole ≡ old ++ filled (drop i text) (drop used numbers) → new ≡ old ++ get_or text i 0 ∷ [] → whole ≡ new ++ filled (drop (i + 1) text) (drop used numbers)
byte_kept whole old new text numbers i used lt mark e is =
    put_more whole old new (get_or text i 0 ∷ []) (filled (drop (i + 1) text) (drop used numbers))
    (e ∙ ap (λ t. old ++ t) (at_drop_more (λ t. filled t (drop used numbers)) text i 0 lt ∙ kept (get_or text i 0) (drop (i + 1) text) (drop used numbers) mark)) is

-- a byte after the last number
pub rest_kept : (whole old new text numbers : List ℕ) (i used : ℕ) → i < length text → length numbers ≤ used
    → whole ≡ old ++ filled (drop i text) (drop used numbers) → new ≡ old ++ get_or text i 0 ∷ [] → whole ≡ new ++ filled (drop (i + 1) text) (drop used numbers)
unfolding filled
rest_kept whole old new text numbers i used lt past e is =
    let none : drop used numbers ≡ [] = at_drop_all (λ ns. ns) numbers used past in
    rw none (put_more whole old new (get_or text i 0 ∷ []) (drop (i + 1) text) (rw none at e ∙ ap (λ t. old ++ t) (at_drop_more (λ t. t) text i 0 lt)) is)

-- all bytes
none_filled : (numbers : List ℕ) → filled [] numbers ≡ []
unfolding filled
none_filled [] = refl
none_filled (n ∷ numbers) = refl

pub all_filled : (whole old text numbers : List ℕ) (i : ℕ) → length text ≤ i → whole ≡ old ++ filled (drop i text) numbers → old ≡ whole
all_filled whole old text numbers i le e =
    sym (e ∙ ap (λ (t : List _). old ++ t) (at_drop_all (λ t. filled t numbers) text i le ∙ none_filled numbers) ∙ append-nil old)

-- one more byte between parentheses
pub escaped_more : (start old new text : List ℕ) (i : ℕ) → i < length text → old ≡ start ++ escaped (take i text) → new ≡ old ++ escaped_byte (get_or text i 0) → new ≡ start ++ escaped (take (i + 1) text)
escaped_more start old new text i lt e is =
    is ∙ ap (λ t. t ++ escaped_byte (get_or text i 0)) e ∙ flat_map_more escaped_byte start (take i text) (get_or text i 0) ∙ ap (λ (t : List _). start ++ escaped t) (sym (take_more text i 0 lt))

pub escaped_all : (start old text : List ℕ) (i : ℕ) → length text ≤ i → old ≡ start ++ escaped (take i text) → old ≡ start ++ escaped text
escaped_all start old text i le e = e ∙ ap (λ (t : List _). start ++ escaped t) (take_all i text le)

-- ---- the first part of a text

pub cut_found : (end : ℕ) (text : List ℕ) (i : ℕ) → position (λ b. b == end) text ≡ Some i
    → slice_split (λ b. b == end) text ≡ take i text ∷ slice_split (λ b. b == end) (take (length text - (i + 1)) (drop (i + 1) text))
cut_found end text i e =
    let some = position-Some (λ b. b == end) text i 0 e in
    let at : position_or_len (λ b. b == end) text ≡ i = position_or_len_is (λ b. b == end) text i 0 (omega (arith, some.0)) some.2 (λ h. some.1) in
    let lt : position_or_len (λ b. b == end) text < length text = omega (arith, at, some.0) in
    rw (take_rest text (i + 1)) (subst (λ (n : ℕ). slice_split (λ b. b == end) text ≡ take n text ∷ slice_split (λ b. b == end) (drop (n + 1) text)) at (slice_split_first (λ b. b == end) text 0 lt))

pub cut_last : (end : ℕ) (text : List ℕ) → position (λ b. b == end) text ≡ None → slice_split (λ b. b == end) text ≡ text ∷ []
cut_last end text e = by (cases_lt (position_or_len (λ b. b == end) text) (length text))
  where
    by : (position_or_len (λ b. b == end) text < length text) ⊎ (length text ≤ position_or_len (λ b. b == end) text) → slice_split (λ b. b == end) text ≡ text ∷ []
    by (inl lt) = let found : position (λ b. b == end) text ≡ Some (position_or_len (λ b. b == end) text) = grind (arith, common_steps) in absurd cc
    by (inr le) = slice_split_none (λ b. b == end) text (λ k d h. fails_before_first (λ b. b == end) text k d (omega (arith, h, le)))
