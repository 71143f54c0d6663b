-- What stands at the front of bytes whose first ones are characters.
use Rattle.std.proofs.Common.{◌≡◌, ◌≢◌, ℕ, zero, suc, ◌+◌, ◌-◌, ◌<◌, ◌≤◌, true, false, not, ◌&&◌, nat_eq, List, [], ◌∷◌, ◌++◌, length, take, drop, get_or, refl, sym, ap, subst, ◌∙◌, arith, length-drop, add-one, inl, inr}
use Rattle.std.specs.List.{list_all}
use Rattle.std.proofs.lemmas.Bool.{and_from, and_parts, and_left, and_right, le-leb, ne_eqb}
use Rattle.std.proofs.lemmas.List.{length-take-le, append-nil, drop_all, take_all, take_rest}
use Rattle.std.proofs.lemmas.List.Folds.{list_all-append}
use Rattle.std.proofs.Math.Seq.{take-add}
use Rattle.rpg_text.specs.Lines.{is_line, is_line_feed}
use Rattle.rpg_text.specs.Texts.{is_character}
use Rattle.rpg_files.specs.Records.{records, begins_with_line_feed, is_valid, BeginsBad}
use Rattle.rpg_files.specs.FirstLine.{IsFirstRecord, IsIncomplete}
use Rattle.rpg_files.specs.NextLine.{CanFollow, IsNextRecord}
use Rattle.rpg_files.proofs.Characters.{not_ten, line_first, return_first, long_begins_bad, other_begins_bad, whole_first}

-- bytes cut at one of them
cut_at : (xs more : List ℕ) (n : ℕ) → n < length xs → xs ++ more ≡ take n xs ++ get_or xs n 0 ∷ (drop (suc n) xs ++ more)
cut_at [] more n lt = absurd (omega arith)
cut_at (x ∷ xs) more zero lt = refl
cut_at (x ∷ xs) more (suc n) lt = ap (λ (ys : List ℕ). x ∷ ys) (cut_at xs more n (omega arith))

-- bytes cut before one of them
cut_before : (xs more : List ℕ) (n : ℕ) → xs ++ more ≡ take n xs ++ (drop n xs ++ more)
cut_before xs more zero = refl
cut_before [] more (suc n) = refl
cut_before (x ∷ xs) more (suc n) = ap (λ (ys : List ℕ). x ∷ ys) (cut_before xs more n)

after_cut : (xs more : List ℕ) (n : ℕ) → n < length xs → drop n xs ++ more ≡ get_or xs n 0 ∷ (drop (suc n) xs ++ more)
after_cut [] more n lt = absurd (omega arith)
after_cut (x ∷ xs) more zero lt = refl
after_cut (x ∷ xs) more (suc n) lt = after_cut xs more n (omega arith)

valid_front : (limit : ℕ) (xs : List ℕ) (n : ℕ) → n ≤ length xs → n ≤ limit → list_all is_character (take n xs) ≡ true → is_valid limit (take n xs) ≡ true
valid_front limit xs n within short all = and_from _ _ (le-leb _ _ (omega (arith, length-take-le n xs within))) all

pub line_feed_ends : (limit : ℕ) (xs : List ℕ) (n : ℕ) → n < length xs → n ≤ limit → list_all is_character (take n xs) ≡ true → get_or xs n 0 ≡ 10 → IsFirstRecord limit xs n (n + 1)
line_feed_ends limit xs n lt short all feed = record {
  ordered = omega arith;
  within = omega arith;
  valid = valid_front limit xs n (omega arith) short all;
  first = λ more.
      let at : get_or xs n 0 ∷ (drop (suc n) xs ++ more) ≡ 10 ∷ (drop (suc n) xs ++ more) = ap (λ (b : ℕ). b ∷ (drop (suc n) xs ++ more)) feed in
      ap records (cut_at xs more n lt ∙ ap (λ (ys : List ℕ). take n xs ++ ys) at) ∙ line_first (take n xs) (drop (suc n) xs ++ more) all
      ∙ ap (λ (k : ℕ). take n xs ∷ records (drop k xs ++ more)) (sym (add-one n));
}

pub return_ends : (limit : ℕ) (xs : List ℕ) (n : ℕ) → n + 1 < length xs → n ≤ limit → list_all is_character (take n xs) ≡ true → get_or xs n 0 ≡ 13 → get_or xs (n + 1) 0 ≡ 10
    → IsFirstRecord limit xs n (n + 2)
return_ends limit xs n lt short all return feed' = let feed : get_or xs (suc n) 0 ≡ 10 = rw add-one at feed' in record {
  ordered = omega arith;
  within = omega arith;
  valid = valid_front limit xs n (omega arith) short all;
  first = λ more.
      let following = drop (suc (suc n)) xs ++ more in
      let at : get_or xs n 0 ∷ (drop (suc n) xs ++ more) ≡ 13 ∷ 10 ∷ following =
      ap (λ (b : ℕ). b ∷ (drop (suc n) xs ++ more)) return ∙ ap (λ (ys : List ℕ). 13 ∷ ys) (after_cut xs more (suc n) (omega arith) ∙ ap (λ (b : ℕ). b ∷ following) feed) in
      let two : suc (suc n) ≡ n + 2 = omega arith in
      ap records (cut_at xs more n (omega arith) ∙ ap (λ (ys : List ℕ). take n xs ++ ys) at) ∙ return_first (take n xs) following all
      ∙ ap (λ (k : ℕ). take n xs ∷ records (drop k xs ++ more)) two;
}

pub other_ends : (limit : ℕ) (xs : List ℕ) (n : ℕ) → n < length xs → list_all is_character (take n xs) ≡ true → is_character (get_or xs n 0) ≡ false → get_or xs n 0 ≢ 10
    → ((more : List ℕ) → (nat_eq (get_or xs n 0) 13 && begins_with_line_feed (drop (suc n) xs ++ more)) ≡ false) → (more : List ℕ) → BeginsBad limit (xs ++ more)
other_ends limit xs n lt all other no_feed no_end more =
    subst (BeginsBad limit) (sym (cut_at xs more n lt))
    (other_begins_bad limit (take n xs) (get_or xs n 0) (drop (suc n) xs ++ more) all other (ne_eqb _ _ no_feed) (no_end more))

pub neither_ends : (limit : ℕ) (xs : List ℕ) (n : ℕ) → n < length xs → list_all is_character (take n xs) ≡ true → is_character (get_or xs n 0) ≡ false → get_or xs n 0 ≢ 10 → get_or xs n 0 ≢ 13
    → (more : List ℕ) → BeginsBad limit (xs ++ more)
neither_ends limit xs n lt all other no_feed no_return more = other_ends limit xs n lt all other no_feed (λ m. and_left _ _ (ne_eqb _ _ no_return)) more

pub lone_return_ends : (limit : ℕ) (xs : List ℕ) (n : ℕ) → n + 1 < length xs → list_all is_character (take n xs) ≡ true → is_character (get_or xs n 0) ≡ false → get_or xs n 0 ≢ 10 → get_or xs (n + 1) 0 ≢ 10
    → (more : List ℕ) → BeginsBad limit (xs ++ more)
lone_return_ends limit xs n lt all other no_feed no_feed_at more =
    let no_feed_after : get_or xs (suc n) 0 ≢ 10 = rw add-one at no_feed_at in
    other_ends limit xs n (omega arith) all other no_feed
    (λ m. and_right _ _ (subst (λ (ys : List ℕ). begins_with_line_feed ys ≡ false) (sym (after_cut xs m (suc n) (omega arith))) (ne_eqb _ _ no_feed_after))) more

pub too_long : (limit : ℕ) (xs : List ℕ) (n : ℕ) → n ≤ length xs → limit < n → list_all is_character (take n xs) ≡ true → (more : List ℕ) → BeginsBad limit (xs ++ more)
too_long limit xs n within long all more =
    subst (BeginsBad limit) (sym (cut_before xs more n)) (long_begins_bad limit (take n xs) (drop n xs ++ more) all (omega (arith, length-take-le n xs within)))

pub open_whole : (limit : ℕ) (xs : List ℕ) (n : ℕ) → n ≡ length xs → n ≤ limit → list_all is_character (take n xs) ≡ true → IsIncomplete limit xs n
open_whole limit xs n whole short all = record { short = short; within = omega arith; characters = all; following = inl (drop_all n xs (omega arith)) }

-- characters, and characters after them
pub joined : (xs : List ℕ) (a n : ℕ) → list_all is_character (take a xs) ≡ true → list_all is_character (take n (take (length xs - a) (drop a xs))) ≡ true → list_all is_character (take (a + n) xs) ≡ true
joined xs a n first following =
    let all_after : list_all is_character (take n (drop a xs)) ≡ true = rw (take_rest xs a) at following in
    rw (take-add a n xs, list_all-append is_character (take a xs) (take n (drop a xs))) (and_from _ _ first all_after)

-- the same of a slice after them
pub joined_slice : (xs : List ℕ) (a n : ℕ) → list_all is_character (take a xs) ≡ true → list_all is_character (take (a + n - a) (drop a xs)) ≡ true → list_all is_character (take (a + n) xs) ≡ true
joined_slice xs a n first following =
    let count : a + n - a ≡ n = omega arith in
    rw (take-add a n xs, list_all-append is_character (take a xs) (take n (drop a xs))) (and_from _ _ first (ap (λ k. list_all is_character (take k (drop a xs))) (sym count) ∙ following))

-- ---- a line without an end has no line feed

characters_line : (xs : List ℕ) → list_all is_character xs ≡ true → is_line xs ≡ true
characters_line [] all = refl
characters_line (b ∷ xs) all = let parts = and_parts _ _ all in rw (not_ten b parts.0) (characters_line xs parts.1)

pub open_line : (limit : ℕ) (xs : List ℕ) (n : ℕ) → IsIncomplete limit xs n → is_line xs ≡ true
open_line limit xs n is =
    let cut : xs ≡ take n xs ++ drop n xs = sym (append-nil xs) ∙ cut_before xs [] n ∙ ap (λ (ys : List ℕ). take n xs ++ ys) (append-nil (drop n xs)) in
    let back : is_line (drop n xs) ≡ true = elim is.following [ inl none ↦ ap is_line none | inr one ↦ ap is_line one ] in
    ap is_line cut ∙ list_all-append (λ b. not (is_line_feed b)) (take n xs) (drop n xs) ∙ and_from _ _ (characters_line (take n xs) is.characters) back

-- ---- at the end of the input

pub whole_at_end : (limit : ℕ) (xs : List ℕ) (n : ℕ) → IsIncomplete limit xs n → n ≡ length xs → 0 < length xs → IsNextRecord limit xs true (length xs) (length xs)
whole_at_end limit xs n is whole some =
    let all : take (length xs) xs ≡ xs = take_all (length xs) xs (omega arith) in
    let characters : list_all is_character xs ≡ true = subst (λ (ys : List ℕ). list_all is_character ys ≡ true) (ap (λ (k : ℕ). take k xs) whole ∙ all) is.characters in
    record {
      ordered = omega arith;
      within = omega arith;
      valid = valid_front limit xs (length xs) (omega arith) (omega (arith, is.short)) (rw all characters);
      first = λ more can.
          ap (λ (ys : List ℕ). records (xs ++ ys)) (can refl) ∙ ap records (append-nil xs) ∙ whole_first xs characters some
          ∙ ap (λ (ys : List ℕ). ys ∷ []) (sym all) ∙ ap (λ (ys : List ℕ). take (length xs) xs ∷ records ys) (sym (ap (λ (ys : List ℕ). ys ++ more) (drop_all (length xs) xs (omega arith)) ∙ can refl));
    }

pub return_at_end : (limit : ℕ) (xs : List ℕ) (n : ℕ) → IsIncomplete limit xs n → (n ≡ length xs → ⊥) → (more : List ℕ) → CanFollow true more → BeginsBad limit (xs ++ more)
return_at_end limit xs n is part more can = elim is.following [
  | inl none ↦ let rest : length (drop n xs) ≡ 0 = ap length none in absurd (part (omega (arith, is.within, length-drop n xs, rest)))
  | inr one ↦
      let cut : xs ++ more ≡ take n xs ++ 13 ∷ [] = ap (λ (ys : List ℕ). xs ++ ys) (can refl) ∙ cut_before xs [] n ∙ ap (λ (ys : List ℕ). take n xs ++ ys) (append-nil (drop n xs) ∙ one) in
      subst (BeginsBad limit) (sym cut) (other_begins_bad limit (take n xs) 13 [] is.characters refl refl refl)
]
