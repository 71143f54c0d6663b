-- The marks of an edit word without making them: as many as the word has characters, with a place for each blank and for the stop.
use Rattle.std.proofs.Common.{◌≡◌, ℕ, suc, ◌+◌, ◌-◌, ◌≤◌, Bool, true, false, not, cond, eqb, ltb, List, [], ◌∷◌, ◌++◌, map, length, take, drop, refl, sym, ap, subst, inl, inr, ◌∙◌, arith, length-append, length-drop}
use Rattle.std.proofs.lemmas.Bool.{and_parts, cases_lt, lt-ltb, le-ltb}
use Rattle.std.proofs.lemmas.Bool.Decides.{nat_tests}
use Rattle.std.proofs.lemmas.Grind.{reverse_onto}
use Rattle.std.proofs.lemmas.List.{length-map, length-set, length-reverse, length-take-le, reverse-reverse, take-append-le, take_all}
use Rattle.std.proofs.lemmas.List.Sums.{sum_by-append, sum_by-cons, sum_by_push}
use Rattle.std.specs.Int.{from_bool}
use Rattle.std.specs.Bool.{if◌then◌else◌}
use Rattle.std.specs.List.{count_by, prefix_len, suffix_len}
use Rattle.std.specs.Prelude.{reverse, slice_set}
use Rattle.rpg_edit_marks.specs.declared.mark.Mark.{Mark}
use Rattle.rpg_edit_marks.specs.declared.mark.Mark.TheVariants.{Digit, Insert, Always, Sign}
use Rattle.rpg_edit_marks.specs.Edited.{is_digit_place, places}
use Rattle.rpg_edit_marks.specs.Word.{always_mark, begins_credit, begins_with_character, first_dollar, is_stop, mark_of, marks_of, places_end, shown_character, sign_part, stop_of, word_marks}

abbrev is_blank : ℕ → Bool
is_blank c = eqb c 32

abbrev is_between : Mark → Bool
is_between m = not (is_digit_place m)

abbrev one_if : Bool → ℕ
one_if b = cond b 1 0

-- ---- as many marks as characters

marked_length : (b : Bool) (c : ℕ) (rest : List ℕ) → length (marks_of rest) ≡ length rest → length (if b then Digit ∷ map mark_of rest else mark_of c ∷ marks_of rest) ≡ suc (length rest)
marked_length true c rest h = ap suc (length-map rest mark_of)
marked_length false c rest h = ap suc h

length-marks_of : (word : List ℕ) → length (marks_of word) ≡ length word
length-marks_of [] = refl
length-marks_of (c ∷ rest) = marked_length (is_stop c) c rest (length-marks_of rest)

dollar_length : (b : Bool) (marks : List Mark) → length (if b then slice_set marks 0 (Always 36) else marks) ≡ length marks
dollar_length true marks = length-set marks 0 (Always 36)
dollar_length false marks = refl

length-first_dollar : (word : List ℕ) → length (first_dollar word (marks_of word)) ≡ length word
length-first_dollar word = dollar_length (begins_with_character 36 word) (marks_of word) ∙ length-marks_of word

credit_length : (rest : List ℕ) → begins_with_character 82 rest ≡ true → suc (length (map always_mark (drop 1 rest))) ≡ length rest
credit_length [] h = cc
credit_length (d ∷ rest) h = ap suc (length-map rest always_mark)

sign_length : (minus credit : Bool) (c : ℕ) (rest : List ℕ) → (credit ≡ true → begins_with_character 82 rest ≡ true) → length (sign_part rest) ≡ length rest →
    length (if minus then Sign 45 ∷ map always_mark rest else (if credit then Sign 67 ∷ Sign 82 ∷ map always_mark (drop 1 rest) else always_mark c ∷ sign_part rest)) ≡ suc (length rest)
sign_length true credit c rest r h = ap suc (length-map rest always_mark)
sign_length false true c rest r h = ap suc (credit_length rest (r refl))
sign_length false false c rest r h = ap suc h

length-sign_part : (part : List ℕ) → length (sign_part part) ≡ length part
length-sign_part [] = refl
length-sign_part (c ∷ rest) =
    sign_length (eqb c 45) (begins_credit (c ∷ rest)) c rest (λ h. (and_parts (eqb c 67) (begins_with_character 82 rest) h).1) (length-sign_part rest)

places_end-le : (marks : List Mark) → places_end marks ≤ length marks
places_end-le marks = omega arith

pub length-word_marks : (word : List ℕ) → length (word_marks word) ≡ length word
length-word_marks word =
    let marks = first_dollar word (marks_of word) in
    let end = places_end marks in
    let within = places_end-le marks in
    let both = length-append (take end marks) (sign_part (drop end word)) in
    let same : length marks ≡ length word = length-first_dollar word in
    let front : length (take end marks) ≡ end = length-take-le end marks within in
    let back : length (sign_part (drop end word)) ≡ length word - end = length-sign_part (drop end word) ∙ length-drop end word in
    omega (arith, both, within, same, front, back)

pub ruleset word_widths = (length-word_marks)

-- ---- the places of the marks up to the last of them

ends_between : (m : Mark) (rest : List Mark) → is_digit_place m ≡ false → places (take (length rest - prefix_len is_between rest) (reverse rest)) ≡ places (reverse rest) →
    places (take (suc (length rest) - (1 + prefix_len is_between rest)) (reverse (m ∷ rest))) ≡ places (reverse (m ∷ rest))
ends_between m rest between h =
    let n = length rest - prefix_len is_between rest in
    let same : suc (length rest) - (1 + prefix_len is_between rest) ≡ n = omega arith in
    let within : n ≤ length (reverse rest) = omega (arith, length-reverse rest) in
    let onto : reverse (m ∷ rest) ≡ reverse rest ++ m ∷ [] = reverse_onto rest m [] in
    let none : one_if (is_digit_place m) ≡ 0 = ap one_if between in
    let pushed : places (reverse rest ++ m ∷ []) ≡ places (reverse rest) + one_if (is_digit_place m) = sum_by_push _ (reverse rest) m in
    let as_many : places (reverse rest ++ m ∷ []) ≡ places (reverse rest) = omega (arith, none, pushed) in
    ap (λ i. places (take i (reverse (m ∷ rest)))) same ∙ ap (λ xs. places (take n xs)) onto ∙ ap places (take-append-le n (reverse rest) (m ∷ []) within)
    ∙ h ∙ sym (ap places onto ∙ as_many)

ends : (marks : List Mark) → places (take (length marks - prefix_len is_between marks) (reverse marks)) ≡ places (reverse marks)
ends [] = refl
ends (Digit ∷ rest) = ap places (take_all (length (Digit ∷ rest) - 0) (reverse (Digit ∷ rest)) (omega (arith, length-reverse (Digit ∷ rest))))
ends (Insert c ∷ rest) = ends_between (Insert c) rest refl (ends rest)
ends (Always c ∷ rest) = ends_between (Always c) rest refl (ends rest)
ends (Sign c ∷ rest) = ends_between (Sign c) rest refl (ends rest)

places-take_end : (marks : List Mark) → places (take (places_end marks) marks) ≡ places marks
places-take_end marks =
    let twice = reverse-reverse marks in
    ap (λ n. places (take (n - suffix_len is_between marks) marks)) (sym (length-reverse marks))
    ∙ ap (λ xs. places (take (length (reverse marks) - suffix_len is_between marks) xs)) (sym twice) ∙ ends (reverse marks) ∙ ap places twice

-- ---- the places of the parts

places-always : (part : List ℕ) → places (map always_mark part) ≡ 0
places-always [] = refl
places-always (c ∷ rest) = places-always rest

sign_places : (minus credit : Bool) (c : ℕ) (rest : List ℕ) → places (sign_part rest) ≡ 0 →
    places (if minus then Sign 45 ∷ map always_mark rest else (if credit then Sign 67 ∷ Sign 82 ∷ map always_mark (drop 1 rest) else always_mark c ∷ sign_part rest)) ≡ 0
sign_places true credit c rest h = places-always rest
sign_places false true c rest h = places-always (drop 1 rest)
sign_places false false c rest h = h

places-sign_part : (part : List ℕ) → places (sign_part part) ≡ 0
places-sign_part [] = refl
places-sign_part (c ∷ rest) = sign_places (eqb c 45) (begins_credit (c ∷ rest)) c rest (places-sign_part rest)

is_dollar : (c : ℕ) → eqb c 36 ≡ true → c ≡ 36
is_dollar c h = grind (arith, nat_tests)

dollar_places : (b : Bool) (c : ℕ) (rest : List ℕ) → (b ≡ true → c ≡ 36) → places (if b then slice_set (marks_of (c ∷ rest)) 0 (Always 36) else marks_of (c ∷ rest)) ≡ places (marks_of (c ∷ rest))
dollar_places true c rest is = subst (λ d. places (slice_set (marks_of (d ∷ rest)) 0 (Always 36)) ≡ places (marks_of (d ∷ rest))) (sym (is refl)) refl
dollar_places false c rest is = refl

places-first_dollar : (word : List ℕ) → places (first_dollar word (marks_of word)) ≡ places (marks_of word)
places-first_dollar [] = refl
places-first_dollar (c ∷ rest) = dollar_places (eqb c 36) c rest (is_dollar c)

-- ---- a place for each blank and for the stop

mark_place : (b : Bool) (c : ℕ) → is_digit_place (if b then Digit else Insert (shown_character c)) ≡ b
mark_place true c = refl
mark_place false c = refl

places-mark_of : (c : ℕ) → is_digit_place (mark_of c) ≡ is_blank c
places-mark_of c = mark_place (is_blank c) c

marks_places : (c : ℕ) (marks : List Mark) (rest : List ℕ) (more : ℕ) → places marks ≡ count_by is_blank rest + more → places (mark_of c ∷ marks) ≡ count_by is_blank (c ∷ rest) + more
marks_places c marks rest more h =
    let marked : places (mark_of c ∷ marks) ≡ one_if (is_digit_place (mark_of c)) + places marks = sum_by-cons _ (mark_of c) marks in
    let counted : count_by is_blank (c ∷ rest) ≡ one_if (is_blank c) + count_by is_blank rest = sum_by-cons _ c rest in
    let same : one_if (is_digit_place (mark_of c)) ≡ one_if (is_blank c) = ap one_if (places-mark_of c) in
    omega (arith, h, marked, counted, same)

places-mapped : (rest : List ℕ) → places (map mark_of rest) ≡ count_by is_blank rest + 0
places-mapped [] = refl
places-mapped (c ∷ rest) = marks_places c (map mark_of rest) rest 0 (places-mapped rest)

ltb_suc : (m n : ℕ) → ltb (1 + m) (suc n) ≡ ltb m n
ltb_suc m n =
    elim (cases_lt m n) [
      | inl h ↦ lt-ltb (1 + m) (suc n) (omega (arith, h)) ∙ sym (lt-ltb m n h)
      | inr h ↦ le-ltb (1 + m) (suc n) (omega (arith, h)) ∙ sym (le-ltb m n h)
    ]

stop_not_blank : (c : ℕ) → is_stop c ≡ true → is_blank c ≡ false
stop_not_blank c h = grind (arith, nat_tests)

stop_places : (b : Bool) (c : ℕ) (rest : List ℕ) → (b ≡ true → is_blank c ≡ false) → places (marks_of rest) ≡ count_by is_blank rest + one_if (ltb (stop_of rest) (length rest)) →
    places (if b then Digit ∷ map mark_of rest else mark_of c ∷ marks_of rest) ≡ count_by is_blank (c ∷ rest) + one_if (ltb (cond (not b) (1 + stop_of rest) 0) (suc (length rest)))
stop_places true c rest other h =
    let marked : places (Digit ∷ map mark_of rest) ≡ 1 + places (map mark_of rest) = sum_by-cons _ Digit (map mark_of rest) in
    let counted : count_by is_blank (c ∷ rest) ≡ one_if (is_blank c) + count_by is_blank rest = sum_by-cons _ c rest in
    let none : one_if (is_blank c) ≡ 0 = ap one_if (other refl) in
    let first : one_if (ltb 0 (suc (length rest))) ≡ 1 = ap one_if (lt-ltb 0 (suc (length rest)) (omega arith)) in
    omega (arith, places-mapped rest, marked, counted, none, first)
stop_places false c rest other h =
    let later : one_if (ltb (1 + stop_of rest) (suc (length rest))) ≡ one_if (ltb (stop_of rest) (length rest)) = ap one_if (ltb_suc (stop_of rest) (length rest)) in
    marks_places c (marks_of rest) rest _ h ∙ ap (λ n. count_by is_blank (c ∷ rest) + n) (sym later)

places-marks_of : (word : List ℕ) → places (marks_of word) ≡ count_by is_blank word + one_if (ltb (stop_of word) (length word))
places-marks_of [] = refl
places-marks_of (c ∷ rest) = stop_places (is_stop c) c rest (stop_not_blank c) (places-marks_of rest)

places-word_marks : (word : List ℕ) → places (word_marks word) ≡ count_by is_blank word + one_if (ltb (stop_of word) (length word))
places-word_marks word =
    let marks = first_dollar word (marks_of word) in
    let end = places_end marks in
    let both : places (word_marks word) ≡ places (take end marks) + places (sign_part (drop end word)) = sum_by-append _ (take end marks) (sign_part (drop end word)) in
    omega (arith, both, places-take_end marks, places-first_dollar word, places-marks_of word, places-sign_part (drop end word))

from_bool_is : (b : Bool) → from_bool b ≡ one_if b
from_bool_is true = refl
from_bool_is false = refl

-- blanks are counted, and one more where there is a stop
pub counted_places : (word : List ℕ) (stop blanks more : ℕ) → stop ≡ stop_of word → blanks ≡ count_by is_blank word → more ≡ from_bool (ltb stop (length word)) → blanks + more ≡ places (word_marks word)
counted_places word stop blanks more is_stop are_blanks is_more =
    let one : more ≡ one_if (ltb (stop_of word) (length word)) = is_more ∙ from_bool_is (ltb stop (length word)) ∙ ap (λ n. one_if (ltb n (length word))) is_stop in
    omega (arith, places-word_marks word, are_blanks, one)
