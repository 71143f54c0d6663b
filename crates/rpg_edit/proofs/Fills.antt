-- Once a number is used up, what is in front of it is one fill.
use Rattle.std.proofs.Common.{◌≡◌, ℕ, zero, suc, ◌+◌, ◌-◌, ◌/◌, ◌%◌, ◌^◌, ◌<◌, ◌≤◌, Bool, true, false, not, ◌&&◌, ◌||◌, eqb, ltb, List, [], ◌∷◌, ◌++◌, length, take, drop, replicate, refl, sym, ap, subst, ◌∙◌, arith, append_assoc, append-nil, length-append, length-drop}
use borrow.Rule.Slice.PartMut.{put_mid, mid_of, post_of}
use Rattle.std.proofs.lemmas.Bool.{and_parts, le-ltb}
use borrow.Author.Tests.{ltb-true}
use Rattle.std.proofs.lemmas.Bool.Decides.{nat_tests}
use Rattle.std.specs.Prelude.{nat_le, nat_lt}
use Rattle.std.proofs.lemmas.List.{drop-drop, drop_all, drop_at, length-replicate, length-take-le, replicate-append-replicate, take-append-le, take-replicate}
use Rattle.std.proofs.lemmas.List.Folds.{list_all-append}
use Rattle.std.proofs.lemmas.List.Sums.{count_by-le-length, sum_by-append}
use Rattle.std.proofs.lemmas.Slice.{take-put_mid_below}
use Rattle.std.specs.Bool.{if◌then◌else◌}
use Rattle.std.specs.List.{list_all}
use Rattle.rpg_edit_marks.specs.declared.mark.Mark.{Mark}
use Rattle.rpg_edit_marks.specs.declared.mark.Mark.TheVariants.{Digit, Insert, Always, Sign}
use Rattle.rpg_edit.specs.declared.suppression.Pass.{Pass}
use Rattle.rpg_edit_marks.specs.Code.{comma_marks, whole_marks}
use Rattle.rpg_edit_marks.specs.Edited.{character, is_begun, is_digit_place, places}
use Rattle.rpg_edit.proofs.Written.{places-append, quotient_next, writes-more}
use Rattle.rpg_edit.specs.Written.{characters_before, is_digit_last, is_suppressed, IsUsedUp, marks_before, Writes}

-- ---- what shows in front of a number that is used up

pub none_left : (size j k : ℕ) → size / 10 ^ k ≡ 0 → size / 10 ^ (j + k) ≡ 0
none_left size zero k h = let same : 0 + k ≡ k = omega arith in rw same h
none_left size (suc j) k h =
    let same : suc j + k ≡ (j + k) + 1 = omega arith in
    rw same (sym (quotient_next size (j + k)) ∙ ap (λ n. n / 10) (none_left size j k h))

shown : (begun after : Bool) (c fill : ℕ) → begun ≡ false → after ≡ false → (if begun || after then c else fill) ≡ fill
shown false false c fill b a = refl
shown false true c fill b a = cc
shown true after c fill b a = cc

not_begun : (size k : ℕ) → size / 10 ^ k ≡ 0 → is_begun size k ≡ false
not_begun size k h = ap (λ n. not (eqb n 0)) h

is_over : (k kept : ℕ) → kept < k → nat_le k kept ≡ false
is_over k kept h = grind (arith, nat_tests)

hidden : (negative : Bool) (size kept fill : ℕ) (m : Mark) (k : ℕ) → size / 10 ^ k ≡ 0 → kept < k → is_suppressed m ≡ true → character negative size kept fill m k ≡ fill
hidden negative size kept fill Digit k none more is = shown (is_begun size k) (ltb k kept) _ fill (not_begun size k none) (le-ltb k kept (omega (arith, more)))
hidden negative size kept fill (Insert c) k none more is = shown (is_begun size k) (nat_le k kept) c fill (not_begun size k none) (is_over k kept more)
hidden negative size kept fill (Always c) k none more is = cc
hidden negative size kept fill (Sign c) k none more is = cc

all_hidden : (negative : Bool) (size kept fill : ℕ) (marks : List Mark) (k : ℕ) → size / 10 ^ k ≡ 0 → kept < k → list_all is_suppressed marks ≡ true →
    characters_before negative size kept fill marks k ≡ replicate (length marks) fill
all_hidden negative size kept fill [] k none more are = refl
all_hidden negative size kept fill (m ∷ rest) k none more are =
    let each = and_parts (is_suppressed m) (list_all is_suppressed rest) are in
    ap (λ c. c ∷ characters_before negative size kept fill rest k)
    (hidden negative size kept fill m (places rest + k) (none_left size (places rest) k none) (omega (arith, more)) each.0)
    ∙ ap (λ cs. fill ∷ cs) (all_hidden negative size kept fill rest k none more each.1)

-- the last mark, where it is a digit, may stand right in front of those that always show
some_place : (m : Mark) (rest : List Mark) → is_digit_last (m ∷ rest) ≡ true → 0 < places (m ∷ rest)
some_place Digit rest last = let first : places (Digit ∷ rest) ≡ 1 + places rest = places-append (Digit ∷ []) rest in omega (arith, first)
some_place (Insert c) [] last = cc
some_place (Always c) [] last = cc
some_place (Sign c) [] last = cc
some_place (Insert c) (n ∷ rest) last = some_place n rest last
some_place (Always c) (n ∷ rest) last = some_place n rest last
some_place (Sign c) (n ∷ rest) last = some_place n rest last

rest_last : (m : Mark) (rest : List Mark) → is_digit_last (m ∷ rest) ≡ true → is_digit_last rest ≡ true
rest_last m [] last = refl
rest_last m (n ∷ rest) last = last

hidden_digit : (negative : Bool) (size kept fill k : ℕ) → size / 10 ^ k ≡ 0 → kept ≤ k → character negative size kept fill Digit k ≡ fill
hidden_digit negative size kept fill k none more = shown (is_begun size k) (ltb k kept) _ fill (not_begun size k none) (le-ltb k kept more)

hidden_last : (negative : Bool) (size kept fill : ℕ) (m : Mark) (rest : List Mark) (k : ℕ) → size / 10 ^ k ≡ 0 → kept ≤ k → is_suppressed m ≡ true → is_digit_last (m ∷ rest) ≡ true →
    character negative size kept fill m (places rest + k) ≡ fill
hidden_last negative size kept fill Digit rest k none more is last = hidden_digit negative size kept fill (places rest + k) (none_left size (places rest) k none) (omega (arith, more))
hidden_last negative size kept fill (Insert c) [] k none more is last = cc
hidden_last negative size kept fill (Insert c) (n ∷ rest) k none more is last =
    hidden negative size kept fill (Insert c) (places (n ∷ rest) + k) (none_left size (places (n ∷ rest)) k none) (omega (arith, more, some_place n rest last)) is
hidden_last negative size kept fill (Always c) rest k none more is last = cc
hidden_last negative size kept fill (Sign c) rest k none more is last = cc

all_hidden_last : (negative : Bool) (size kept fill : ℕ) (marks : List Mark) (k : ℕ) → size / 10 ^ k ≡ 0 → kept ≤ k → list_all is_suppressed marks ≡ true → is_digit_last marks ≡ true →
    characters_before negative size kept fill marks k ≡ replicate (length marks) fill
all_hidden_last negative size kept fill [] k none more are last = refl
all_hidden_last negative size kept fill (m ∷ rest) k none more are last =
    let each = and_parts (is_suppressed m) (list_all is_suppressed rest) are in
    ap (λ c. c ∷ characters_before negative size kept fill rest k) (hidden_last negative size kept fill m rest k none more each.0 last)
    ∙ ap (λ cs. fill ∷ cs) (all_hidden_last negative size kept fill rest k none more each.1 (rest_last m rest last))

hidden_by : (over last : Bool) (negative : Bool) (size kept fill : ℕ) (marks : List Mark) (k : ℕ) → over ≡ ltb kept k → last ≡ is_digit_last marks → size / 10 ^ k ≡ 0 → kept ≤ k →
    list_all is_suppressed marks ≡ true → (over || last) ≡ true → characters_before negative size kept fill marks k ≡ replicate (length marks) fill
hidden_by true last negative size kept fill marks k is_over is_last none more are h = all_hidden negative size kept fill marks k none (ltb-true kept k (sym is_over)) are
hidden_by false true negative size kept fill marks k is_over is_last none more are h = all_hidden_last negative size kept fill marks k none more are (sym is_last)
hidden_by false false negative size kept fill marks k is_over is_last none more are h = cc

-- ---- the marks in front of some digits

add_suc : (n left : ℕ) → suc n + left ≡ suc (n + left)
add_suc n left = omega arith

before_whole : (commas : Bool) (left n : ℕ) → marks_before commas left n ++ whole_marks commas left ≡ whole_marks commas (n + left)
before_whole commas left zero = let same : 0 + left ≡ left = omega arith in ap (whole_marks commas) (sym same)
before_whole commas left (suc n) =
    append_assoc (Digit ∷ comma_marks commas (n + left)) (marks_before commas left n) (whole_marks commas left)
    ∙ ap (λ ms. (Digit ∷ comma_marks commas (n + left)) ++ ms) (before_whole commas left n) ∙ ap (whole_marks commas) (sym (add_suc n left))

comma_hidden : (b : Bool) → list_all is_suppressed (Digit ∷ (if b then Insert 44 ∷ [] else [])) ≡ true
comma_hidden true = refl
comma_hidden false = refl

pub before_hidden : (commas : Bool) (left n : ℕ) → list_all is_suppressed (marks_before commas left n) ≡ true
before_hidden commas left zero = refl
before_hidden commas left (suc n) =
    list_all-append is_suppressed (Digit ∷ comma_marks commas (n + left)) (marks_before commas left n)
    ∙ ap (λ b. b && list_all is_suppressed (marks_before commas left n)) (comma_hidden (commas && ltb 0 (n + left) && eqb ((n + left) % 3) 0)) ∙ before_hidden commas left n

comma_places : (b : Bool) → places (Digit ∷ (if b then Insert 44 ∷ [] else [])) ≡ 1
comma_places true = refl
comma_places false = refl

pub before_places : (commas : Bool) (left n : ℕ) → places (marks_before commas left n) ≡ n
before_places commas left zero = refl
before_places commas left (suc n) =
    let both : places (marks_before commas left (suc n)) ≡ places (Digit ∷ comma_marks commas (n + left)) + places (marks_before commas left n) =
    sum_by-append _ (Digit ∷ comma_marks commas (n + left)) (marks_before commas left n) in
    let one : places (Digit ∷ comma_marks commas (n + left)) ≡ 1 = comma_places (commas && ltb 0 (n + left) && eqb ((n + left) % 3) 0) in
    omega (arith, both, one, before_places commas left n)

pub whole_places : (commas : Bool) (digits : ℕ) → places (whole_marks commas digits) ≡ digits
whole_places commas zero = refl
whole_places commas (suc left) =
    let both : places (whole_marks commas (suc left)) ≡ places (Digit ∷ comma_marks commas left) + places (whole_marks commas left) =
    sum_by-append _ (Digit ∷ comma_marks commas left) (whole_marks commas left) in
    let one : places (Digit ∷ comma_marks commas left) ≡ 1 = comma_places (commas && ltb 0 left && eqb (left % 3) 0) in
    omega (arith, both, one, whole_places commas left)

before_all : (commas : Bool) (left digits : ℕ) → left ≤ digits → marks_before commas left (digits - left) ++ whole_marks commas left ≡ whole_marks commas digits
before_all commas left digits less = let same : (digits - left) + left ≡ digits = omega (arith, less) in before_whole commas left (digits - left) ∙ ap (whole_marks commas) same

-- they and those after them are all marks of the digits
pub before_length : (commas : Bool) (left digits : ℕ) → left ≤ digits → length (marks_before commas left (digits - left)) + length (whole_marks commas left) ≡ length (whole_marks commas digits)
before_length commas left digits less = sym (length-append (marks_before commas left (digits - left)) (whole_marks commas left)) ∙ ap length (before_all commas left digits less)

-- they have the places in front of those that are written
pub before_start : (commas : Bool) (left digits end start : ℕ) → left ≤ digits → length (whole_marks commas digits) ≤ end → start + length (whole_marks commas left) ≡ end →
    start ≡ (end - length (whole_marks commas digits)) + length (marks_before commas left (digits - left))
before_start commas left digits end start less room is = omega (arith, room, is, before_length commas left digits less)

pub before_many : (commas : Bool) (left n : ℕ) → n ≤ length (marks_before commas left n)
before_many commas left n = omega (arith, before_places commas left n, count_by-le-length is_digit_place (marks_before commas left n))

pub writes_before : (commas : Bool) (left digits : ℕ) (p q s : Pass) (o r t : List ℕ) → left ≤ digits → Writes (whole_marks commas left) p o q r → Writes (marks_before commas left (digits - left)) q r s t →
    Writes (whole_marks commas digits) p o s t
writes_before commas left digits p q s o r t less one more =
    subst (λ ms. Writes ms p o s t) (before_all commas left digits less) (writes-more (whole_marks commas left) (marks_before commas left (digits - left)) p q s o r t one more)

-- where a digit is the first of them, or there is no comma in front of `left`
commas_none : (commas : Bool) (left : ℕ) → comma_marks commas left ≡ [] → is_digit_last (Digit ∷ comma_marks commas left) ≡ true
commas_none commas left none = rw none refl

digit_last-append : (xs ys : List Mark) (y : Mark) → is_digit_last (y ∷ ys) ≡ true → is_digit_last (xs ++ (y ∷ ys)) ≡ true
digit_last-append [] ys y last = last
digit_last-append (x ∷ []) ys y last = last
digit_last-append (x ∷ z ∷ xs) ys y last = digit_last-append (z ∷ xs) ys y last

pub before_last : (commas : Bool) (left n : ℕ) → comma_marks commas left ≡ [] → is_digit_last (marks_before commas left n) ≡ true
before_last commas left zero none = refl
before_last commas left (suc zero) none =
    let same : 0 + left ≡ left = omega arith in
    rw (append-nil (Digit ∷ comma_marks commas (0 + left)), same) (commas_none commas left none)
before_last commas left (suc (suc n)) none =
    digit_last-append (Digit ∷ comma_marks commas (suc n + left)) (comma_marks commas (n + left) ++ marks_before commas left n) Digit (before_last commas left (suc n) none)

or_right : (a b : Bool) → b ≡ true → (a || b) ≡ true
or_right true b e = refl
or_right false b e = e

or_left : (a b : Bool) → a ≡ true → (a || b) ≡ true
or_left true b e = refl
or_left false b e = cc

-- with commas at most one digit is written, or more than always show
pub whole_over : (commas : Bool) (left n old kept after : ℕ) → kept ≤ old + 1 → after ≡ old + left → (nat_lt kept after || is_digit_last (marks_before commas left n)) ≡ true
whole_over false left n old kept after few is = or_right (nat_lt kept after) _ (before_last false left n refl)
whole_over true zero n old kept after few is = or_right (nat_lt kept after) _ (before_last true 0 n refl)
whole_over true (suc zero) n old kept after few is = or_right (nat_lt kept after) _ (before_last true 1 n refl)
whole_over true (suc (suc left)) n old kept after few is = or_left (nat_lt kept after) _ (grind (arith, nat_tests))

-- ---- one fill is what these marks show

pub length-mid : (o : List ℕ) (n start : ℕ) → n ≤ start → start ≤ length o → length (mid_of (start - n) (start - (start - n)) o) ≡ n
length-mid o n start room within =
    let few : start - (start - n) ≡ n = omega (arith, room) in
    length-take-le (start - (start - n)) (drop (start - n) o) (omega (arith, length-drop (start - n) o, room, within)) ∙ few

pub writes_fill : (ms : List Mark) (n : ℕ) (p q : Pass) (o r : List ℕ) → IsUsedUp p → n ≤ p.start → p.start ≤ length o → length ms ≡ n → list_all is_suppressed ms ≡ true →
    (ltb p.suppression.kept p.after || is_digit_last ms) ≡ true → q.start ≡ p.start - n → q.after ≡ p.after + places ms → q.number ≡ p.number → q.suppression ≡ p.suppression →
    r ≡ put_mid (p.start - n) (p.start - (p.start - n)) o (replicate n p.suppression.fill) → Writes ms p o q r
writes_fill ms n p q o r used room within are_n are last start after number suppression made =
    let at = p.start - n in
    let fills = replicate n p.suppression.fill in
    let none : p.number.size / 10 ^ p.after ≡ 0 = sym p.is_rest ∙ used.rest in
    let shows : characters_before p.number.negative p.number.size p.suppression.kept p.suppression.fill ms p.after ≡ fills =
    hidden_by (ltb p.suppression.kept p.after) (is_digit_last ms) p.number.negative p.number.size p.suppression.kept p.suppression.fill ms p.after refl refl none used.kept are last ∙ ap (λ k. replicate k p.suppression.fill) are_n in
    let front : length (take at o) ≡ at = length-take-le at o (omega (arith, within)) in
    let following : post_of at (p.start - at) o ≡ drop p.start o = drop-drop (p.start - at) at o ∙ ap (λ k. drop k o) (omega (arith, room)) in
    let few : length fills ≡ n = length-replicate n p.suppression.fill in
    record {
      text = ap (λ i. drop i r) start ∙ ap (drop at) made ∙ drop_at (take at o) (fills ++ post_of at (p.start - at) o) at front
          ∙ ap (λ xs. fills ++ xs) following ∙ ap (λ xs. xs ++ drop p.start o) (sym shows);
      front = ap (take q.start) made ∙ take-put_mid_below at (p.start - at) o fills q.start (omega (arith, start)) (omega (arith, within));
      same_length = omega (
        arith,
        ap length made,
        length-append (take at o) (fills ++ post_of at (p.start - at) o),
        length-append fills (post_of at (p.start - at) o),
        ap length following,
        length-drop p.start o,
        front,
        few,
        within,
        room,
      );
      start = omega (arith, start, room, are_n);
      after = after;
      number = number;
      suppression = suppression;
    }

-- two fills that meet or overlap are one
pub ends_filled : (n count c : ℕ) (o first last : List ℕ) → length o ≡ n → count ≤ n → n ≤ count + count → first ≡ replicate (length (take count o)) c →
    last ≡ replicate (length (mid_of (n - count) (length (first ++ drop count o) - (n - count)) (first ++ drop count o))) c →
    put_mid (n - count) (length (first ++ drop count o) - (n - count)) (first ++ drop count o) last ≡ replicate n c
ends_filled n count c o first last is within enough is_first is_last =
    let at = n - count in
    let whole = first ++ drop count o in
    let front : first ≡ replicate count c = is_first ∙ ap (λ k. replicate k c) (length-take-le count o (omega (arith, is, within))) in
    let long : length whole ≡ n = omega (arith, length-append first (drop count o), ap length front, length-replicate count c, length-drop count o, is, within) in
    let back : length (mid_of at (length whole - at) whole) ≡ count =
    ap (λ k. length (mid_of at (k - at) whole)) long ∙ length-mid whole count n within (omega (arith, long)) in
    let end : last ≡ replicate count c = is_last ∙ ap (λ k. replicate k c) back in
    let none : post_of at (length whole - at) whole ≡ [] = drop_all (length whole - at) (drop at whole) (omega (arith, length-drop at whole)) in
    let before : take at whole ≡ replicate at c =
    take-append-le at first (drop count o) (omega (arith, ap length front, length-replicate count c, enough)) ∙ ap (take at) front ∙ take-replicate at count c (omega (arith, enough)) in
    ap (λ xs. take at whole ++ (last ++ xs)) none ∙ ap (λ xs. take at whole ++ xs) (append-nil last ∙ end)
    ∙ ap (λ xs. xs ++ replicate count c) before ∙ replicate-append-replicate at count c ∙ ap (λ k. replicate k c) (omega (arith, within))
