-- The marks of edit codes are written part by part.
use Rattle.std.proofs.Common.{◌≡◌, ℕ, zero, suc, ◌+◌, ◌-◌, ◌%◌, ◌<◌, ◌≤◌, ◌≢◌, Bool, false, true, ◌&&◌, ◌||◌, eqb, sym, subst, append_assoc, length-append, ◌∙◌, List, [], ◌∷◌, ◌++◌, length, refl, ap, arith, replicate}
use Rattle.rpg_edit.proofs.Written.{places-append, writes-more}
use Rattle.rpg_edit.specs.Written.{group_marks, is_at_whole, Writes}
use Rattle.std.proofs.lemmas.Bool.Decides.{nat_tests}
use Rattle.std.specs.Bool.{if◌then◌else◌}
use Rattle.std.specs.Prelude.{max, nat_le, nat_lt, not}
use Rattle.rpg_edit.specs.declared.suppression.Pass.{Pass}
use Rattle.rpg_edit_marks.specs.Code.{comma_marks, decimal_marks, kept_digits, whole_marks}
use Rattle.rpg_edit_marks.specs.Edited.{places}
use Rattle.rpg_edit_marks.specs.declared.code.EditCode.{EditCode}
use Rattle.rpg_edit_marks.specs.declared.code.EditCode.TheVariants.{Combination}
use Rattle.rpg_edit_marks.specs.declared.code.Ending.{Ending}
use Rattle.rpg_edit_marks.specs.declared.mark.Mark.{Mark}
use Rattle.rpg_edit_marks.specs.declared.mark.Mark.TheVariants.{Digit, Insert}
use Rattle.rpg_edit_widths.proofs.Codes.{whole-more}

-- fewer digits have fewer marks
fewer-by : (commas : Bool) (left d : ℕ) → 1 + d + length (comma_marks commas left) + length (whole_marks commas left) ≤ length (whole_marks commas (d + suc left))
fewer-by commas left zero =
    let more = whole-more commas left in
    let same : 0 + suc left ≡ suc left = omega arith in
    rw same (omega (arith, more))
fewer-by commas left (suc d) =
    let before = fewer-by commas left d in
    let more = whole-more commas (d + suc left) in
    let same : suc d + suc left ≡ suc (d + suc left) = omega arith in
    rw same (omega (arith, before, more))

whole-fewer : (commas : Bool) (left digits : ℕ) → left < digits → (digits - left) + length (comma_marks commas left) + length (whole_marks commas left) ≤ length (whole_marks commas digits)
whole-fewer commas left digits h =
    let d = digits - suc left in
    let all : d + suc left ≡ digits = omega (arith, h) in
    omega (arith, h, fewer-by commas left d, ap (λ n. length (whole_marks commas n)) all)

pub digit_places : (n : ℕ) → places (replicate n Digit) ≡ n
digit_places zero = refl
digit_places (suc n) = let first : places (replicate (suc n) Digit) ≡ 1 + places (replicate n Digit) = places-append (Digit ∷ []) (replicate n Digit) in omega (arith, first, digit_places n)

-- the point in front of the decimals
pub writes-decimals : (dec : ℕ) (p q s : Pass) (o r t : List ℕ) → 0 < dec → Writes (replicate dec Digit) p o q r → Writes (Insert 46 ∷ []) q r s t → Writes (decimal_marks dec) p o s t
writes-decimals zero p q s o r t h digits point = absurd (omega arith)
writes-decimals (suc d) p q s o r t h digits point = writes-more (replicate (suc d) Digit) (Insert 46 ∷ []) p q s o r t digits point

-- the parts of a combination, from the last to the first
pub writes-parts : (first second third last : List Mark) (p q r s t : Pass) (o1 o2 o3 o4 o5 : List ℕ) →
    Writes last p o1 q o2 → Writes third q o2 r o3 → Writes second r o3 s o4 → Writes first s o4 t o5 → Writes (first ++ second ++ third ++ last) p o1 t o5
writes-parts first second third last p q r s t o1 o2 o3 o4 o5 a b c d =
    writes-more last (first ++ second ++ third) p q t o1 o2 o5 a
    (writes-more third (first ++ second) q r t o2 o3 o5 b (writes-more second first r s t o3 o4 o5 c d))

-- between two digits of one group there is no comma
no_comma : (b : Bool) → b ≡ false → (if b then Insert 44 ∷ [] else []) ≡ []
no_comma false e = refl
no_comma true e = cc

none_between : (commas : Bool) (left : ℕ) → left % 3 ≢ 0 → comma_marks commas left ≡ []
none_between true left h = no_comma (nat_lt 0 left && eqb (left % 3) 0) (grind (arith, nat_tests))
none_between false left h = refl

none_front : (commas : Bool) → comma_marks commas 0 ++ whole_marks commas 0 ≡ []
none_front true = refl
none_front false = refl

-- at most three digits in front of full groups, and of the comma before these
group_front : (commas : Bool) (written n : ℕ) → written % 3 ≡ 0 → n ≤ 3 → (n ≡ 0 → written ≡ 0) →
    replicate n Digit ++ (comma_marks commas written ++ whole_marks commas written) ≡ whole_marks commas (written + n)
group_front commas written zero full few none = let first = none refl in rw first (none_front commas)
group_front commas written (suc zero) full few none = let same : written + 1 ≡ suc written = omega arith in rw same refl
group_front commas written (suc (suc zero)) full few none =
    let same : written + 2 ≡ suc (suc written) = omega arith in
    let second : comma_marks commas (suc written) ≡ [] = none_between commas (suc written) (λ e. omega (arith, e, full)) in
    rw (same, second) refl
group_front commas written (suc (suc (suc zero))) full few none =
    let same : written + 3 ≡ suc (suc (suc written)) = omega arith in
    let second : comma_marks commas (suc written) ≡ [] = none_between commas (suc written) (λ e. omega (arith, e, full)) in
    let third : comma_marks commas (suc (suc written)) ≡ [] = none_between commas (suc (suc written)) (λ e. omega (arith, e, full)) in
    rw (same, third, second) refl
group_front commas written (suc (suc (suc (suc n)))) full few none = absurd (omega arith)

-- a comma is one mark
comma_one : (b : Bool) → b ≡ true → (if b then Insert 44 ∷ [] else []) ≡ Insert 44 ∷ []
comma_one true e = refl
comma_one false e = cc

comma_front : (commas : Bool) (written : ℕ) → written % 3 ≡ 0 → (if commas then Insert 44 ∷ [] else []) ≡ comma_marks commas (written + 3)
comma_front true written full = sym (comma_one (nat_lt 0 (written + 3) && eqb ((written + 3) % 3) 0) (grind (arith, nat_tests)))
comma_front false written full = refl

-- one more full group, and the comma before it
group_more : (commas : Bool) (written : ℕ) → written % 3 ≡ 0 →
    group_marks commas ++ (comma_marks commas written ++ whole_marks commas written) ≡ comma_marks commas (written + 3) ++ whole_marks commas (written + 3)
group_more commas written full =
    append_assoc (if commas then Insert 44 ∷ [] else []) (replicate 3 Digit) (comma_marks commas written ++ whole_marks commas written)
    ∙ ap (λ ms. (if commas then Insert 44 ∷ [] else []) ++ ms) (group_front commas written 3 full (omega arith) (λ e. omega (arith, e)))
    ∙ ap (λ ms. ms ++ whole_marks commas (written + 3)) (comma_front commas written full)

pub writes_none : (commas : Bool) (written : ℕ) (p : Pass) (o : List ℕ) → written ≡ 0 → Writes (comma_marks commas written ++ whole_marks commas written) p o p o
writes_none commas written p o none =
    let marks : [] ≡ comma_marks commas written ++ whole_marks commas written = sym (ap (λ n. comma_marks commas n ++ whole_marks commas n) none ∙ none_front commas) in
    subst (λ ms. Writes ms p o p o) marks (record { text = refl; front = refl; same_length = refl; start = omega arith; after = omega arith; number = refl; suppression = refl })

pub writes_group : (commas : Bool) (written : ℕ) (p q s : Pass) (o r t : List ℕ) → written % 3 ≡ 0 → Writes (comma_marks commas written ++ whole_marks commas written) p o q r →
    Writes (group_marks commas) q r s t → Writes (comma_marks commas (written + 3) ++ whole_marks commas (written + 3)) p o s t
writes_group commas written p q s o r t full before group =
    subst (λ ms. Writes ms p o s t) (group_more commas written full)
    (writes-more (comma_marks commas written ++ whole_marks commas written) (group_marks commas) p q s o r t before group)

pub writes_front : (commas : Bool) (written n : ℕ) (p q s : Pass) (o r t : List ℕ) → written % 3 ≡ 0 → n ≤ 3 → (n ≡ 0 → written ≡ 0) →
    Writes (comma_marks commas written ++ whole_marks commas written) p o q r → Writes (replicate n Digit) q r s t → Writes (whole_marks commas (written + n)) p o s t
writes_front commas written n p q s o r t full few none before digits =
    subst (λ ms. Writes ms p o s t) (group_front commas written n full few none)
    (writes-more (comma_marks commas written ++ whole_marks commas written) (replicate n Digit) p q s o r t before digits)

-- there is room for them
pub group_room : (commas : Bool) (written digits : ℕ) → written % 3 ≡ 0 → written + 3 < digits →
    length (group_marks commas) + length (comma_marks commas written ++ whole_marks commas written) ≤ length (whole_marks commas digits)
group_room commas written digits full more =
    omega (
      arith,
      length-append (group_marks commas) (comma_marks commas written ++ whole_marks commas written),
      ap length (group_more commas written full),
      length-append (comma_marks commas (written + 3)) (whole_marks commas (written + 3)),
      whole-fewer commas (written + 3) digits more,
    )

pub front_room : (commas : Bool) (left written digits : ℕ) → written + left ≡ digits → (0 < written → 0 < left) →
    left + length (comma_marks commas written ++ whole_marks commas written) ≤ length (whole_marks commas digits)
front_room commas zero zero digits all some = rw (none_front commas) (omega arith)
front_room commas zero (suc written) digits all some = absurd (omega (arith, some (omega arith)))
front_room commas (suc left) written digits all some =
    omega (arith, all, length-append (comma_marks commas written) (whole_marks commas written), whole-fewer commas written digits (omega (arith, all)))

-- once the decimals are written, no more digits always show, or one and there are no decimals
most_kept : (b : Bool) (dec after : ℕ) → dec ≤ after →
    (nat_le (if b then 0 else max dec 1) after || (eqb after 0 && nat_le (if b then 0 else max dec 1) 1)) ≡ true
most_kept true dec after h = grind (arith, nat_tests)
most_kept false dec after h = grind (arith, nat_tests)

pub kept_whole : (code : EditCode) (commas zeros : Bool) (ending : Ending) (len dec size after : ℕ) → code ≡ Combination commas zeros ending → dec ≤ after →
    (nat_le (kept_digits code len dec size) after || (eqb after 0 && nat_le (kept_digits code len dec size) 1)) ≡ true
kept_whole code commas zeros ending len dec size after is h = rw is (most_kept (eqb size 0 && not zeros) dec after h)

-- and so after more digits
whole_by : (kept after more : ℕ) → 0 < more → (nat_le kept after || (eqb after 0 && nat_le kept 1)) ≡ true →
    (nat_le kept (after + more) || (eqb (after + more) 0 && nat_le kept 1)) ≡ true
whole_by kept after more some h = grind (arith, nat_tests)

pub still_whole : (p q : Pass) → is_at_whole p ≡ true → q.after ≡ p.after + 3 → q.suppression ≡ p.suppression → is_at_whole q ≡ true
still_whole p q h after same =
    ap (λ s. nat_le s.kept q.after || (eqb q.after 0 && nat_le s.kept 1)) same
    ∙ ap (λ k. nat_le p.suppression.kept k || (eqb k 0 && nat_le p.suppression.kept 1)) after
    ∙ whole_by p.suppression.kept p.after 3 (omega arith) h

kept_by : (kept after : ℕ) → (nat_le kept after || (eqb after 0 && nat_le kept 1)) ≡ true → kept ≤ after + 1
kept_by kept after h = grind (arith, nat_tests)

pub kept_next : (p : Pass) → is_at_whole p ≡ true → p.suppression.kept ≤ p.after + 1
kept_next p h = kept_by p.suppression.kept p.after h

pub group_places : (commas : Bool) → places (group_marks commas) ≡ 3
group_places true = refl
group_places false = refl

pub decimal_places : (dec : ℕ) → places (decimal_marks dec) ≡ dec
decimal_places zero = refl
decimal_places (suc d) = digit_places (suc d)
