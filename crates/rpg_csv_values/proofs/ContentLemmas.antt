-- The content of columns is read back as these columns.
use Rattle.std.proofs.Common.{◌≡◌, ℕ, zero, suc, ◌+◌, ◌-◌, ◌*◌, ◌/◌, ◌%◌, ◌^◌, ◌<◌, ◌≤◌, ◌==◌, ◌&&◌, ◌||◌, not, nat_le, nat_lt, min, Bool, true, false, cond, if◌then◌else◌, List, [], ◌∷◌, ◌++◌, length, map, take, take_all, drop, replicate, get_or, ◌⊎◌, refl, sym, ap, ap₂, ◌∙◌, arith, length-append, length-take, div-add-mod', mod-eq_of_lt, add_comm, Option, None, Some, option_map, Result, Ok, Err, inl, inr, ℤ, pos, negsuc, neg_ℤ, unsigned_abs}
use Rattle.std.proofs.Math.Nat.{div-div-eq-div-mul, le-mul_of_pos_right, mul-le-mul_right, one-le-pow}
use Rattle.std.proofs.Math.Seq.{drop-append_seam, take-append_seam}
use Rattle.std.proofs.lemmas.Bool.{and_from, and_left, and_parts, and_right, or_from, eq-eqb, eqb-true, le-ltb, lt-leb, leb-true, ltb-true, cases_lt, false_from_ne_true, true≢false}
use Rattle.std.proofs.lemmas.List.{length-map, length-replicate, map-append}
use Rattle.std.proofs.lemmas.List.Folds.{list_all-append}
use Rattle.std.proofs.lemmas.List.Sums.{suffix_len-le-length}
use Rattle.std.proofs.lemmas.Nat.{pow-add}
use Rattle.std.specs.Int.{is_negative}
use Rattle.std.specs.List.{list_all, list_any}
use Rattle.rpg_text.specs.Texts.{all_blank, is_blank, trimmed}
use Rattle.rpg_decimal_words.specs.Place.{lowest_digits, place_value}
use Rattle.rpg_decimal_words.specs.Zoned.{digit_of, is_digit, last_character, last_of, number_in, zoned_text}
use Rattle.rpg_decimal.proofs.PlaceLemmas.{length-digits, place_value-append, place_value-digits}
use Rattle.rpg_decimal.proofs.LawLemmas.{length-zoned, read_back}
use Rattle.rpg_decimal.proofs.WholeLemmas.{ten_le}
use Rattle.rpg_decimal.proofs.ZonedLemmas.{digit_of-plain, digit_stands, written_plus}
use Rattle.rpg_records.proofs.Again.{last_filled}
use Rattle.rpg_records.proofs.Ends.{ends_in, kept_and_end, trimmed_again}
use Rattle.rpg_csv_values.specs.Cells.{number_columns, padded, zoned_columns}
use Rattle.rpg_csv_values.specs.Contents.{AreDigits, ContentsAreReadBack, columns_number, minus_of, number_content, pointed, without_leading_zeros}
use Rattle.rpg_csv_values.specs.Numbers.{after_point, before_point, cell_number, counted, digits_number, digits_with_point, has_minus, number_size, parts_number, signed_size, ungrouped, whole_number, without_blanks, without_sign, without_zeros}
use Rattle.rpg_csv_values.specs.declared.cell.CellFault.{CellFault}
use Rattle.rpg_csv_values.specs.declared.cell.CellFault.TheVariants as faults
use Rattle.rpg_csv_values.specs.declared.cell.CellKind.TheVariants as kinds
use Rattle.rpg_csv_values.specs.declared.number.NumberFormat.{NumberFormat}

-- ---- texts

padded_back : (width : ℕ) (text : List ℕ) → length text ≡ width → padded width (trimmed text) ≡ text
padded_back width text long =
    let n = ends_in 32 text in
    let rest : width - length (trimmed text) ≡ n = omega (arith, long, length-take (length text - n) text, suffix_len-le-length is_blank text) in
    ap (λ (k : ℕ). trimmed text ++ replicate k 32) rest ∙ kept_and_end 32 text

trimmed_within : (text : List ℕ) → length (trimmed text) ≤ length text
trimmed_within text = omega (arith, length-take (length text - ends_in 32 text) text)

blanks_alone : (text : List ℕ) → all_blank text ≡ true → replicate (length text) 32 ≡ text
blanks_alone [] h = refl
blanks_alone (c ∷ cs) h = let p = and_parts (is_blank c) (all_blank cs) h in ap₂ (λ (c : ℕ) (cs : List ℕ). c ∷ cs) (sym (eqb-true c 32 p.0)) (blanks_alone cs p.1)

-- ---- characters of digits

differs : (c v : ℕ) → is_digit c ≡ true → v < 48 → (c == v) ≡ false
differs c v d low =
    let high : 48 ≤ c = leb-true 48 c (and_parts (nat_le 48 c) (nat_le c 57) d).0 in
    false_from_ne_true (c == v) (λ e. let same = eqb-true c v e in omega (arith, same, high, low))

-- a text without this character
abbrev lacks : ℕ → List ℕ → Bool
lacks v xs = list_all (λ c. not (c == v)) xs

digits_lack : (v : ℕ) (ws : List ℕ) → v < 48 → list_all is_digit ws ≡ true → lacks v ws ≡ true
digits_lack v [] low h = refl
digits_lack v (c ∷ cs) low h =
    let p = and_parts (is_digit c) (list_all is_digit cs) h in
    and_from (not (c == v)) (lacks v cs) (ap not (differs c v p.0 low)) (digits_lack v cs low p.1)

un_not : (b : Bool) → not b ≡ true → b ≡ false
un_not true h = absurd (true≢false (sym h))
un_not false h = refl

last_lacks : (v c : ℕ) (cs : List ℕ) → lacks v (c ∷ cs) ≡ true → (last_of (c ∷ cs) == v) ≡ false
last_lacks v c [] h = un_not (c == v) (and_parts (not (c == v)) true h).0
last_lacks v c (d ∷ ds) h =
    let e : suc (suc (length ds)) - 1 ≡ suc (suc (length ds) - 1) = omega arith in
    ap (λ (k : ℕ). get_or (c ∷ d ∷ ds) k 0 == v) e ∙ last_lacks v d ds (and_parts (not (c == v)) (lacks v (d ∷ ds)) h).1

no_blanks : (n : ℕ) → lacks 32 (replicate n 32) ≡ true → n ≡ 0
no_blanks zero h = refl
no_blanks (suc n) h = absurd (true≢false (sym h))

trimmed_whole : (xs : List ℕ) → lacks 32 xs ≡ true → trimmed xs ≡ xs
trimmed_whole xs h =
    let n = ends_in 32 xs in
    let kept = take (length xs - n) xs in
    let both : (lacks 32 kept && lacks 32 (replicate n 32)) ≡ true = sym (list_all-append (λ c. not (c == 32)) kept (replicate n 32)) ∙ ap (lacks 32) (kept_and_end 32 xs) ∙ h in
    let none : n ≡ 0 = no_blanks n (and_parts (lacks 32 kept) (lacks 32 (replicate n 32)) both).1 in
    take_all (length xs - n) xs (omega (arith, none))

-- ---- the digits of a number

abbrev plain : ℕ → ℕ → List ℕ
plain k m = map (λ d. 48 + d) (lowest_digits k m)

plain_stands : (k m : ℕ) → list_all is_digit (plain k m) ≡ true
plain_stands zero m = refl
plain_stands (suc k) m = and_from (is_digit (48 + m / 10 ^ k % 10)) (list_all is_digit (plain k m)) (digit_stands (m / 10 ^ k % 10) (omega arith)) (plain_stands k m)

plain_digits : (k m : ℕ) → map digit_of (plain k m) ≡ lowest_digits k m
plain_digits zero m = refl
plain_digits (suc k) m = ap₂ (λ (d : ℕ) (ds : List ℕ). d ∷ ds) (digit_of-plain (m / 10 ^ k % 10) (omega arith)) (plain_digits k m)

plain_value : (k m : ℕ) → place_value (map digit_of (plain k m)) ≡ m % 10 ^ k
plain_value k m = ap place_value (plain_digits k m) ∙ place_value-digits k m

plain_long : (k m : ℕ) → length (plain k m) ≡ k
plain_long k m = length-map (lowest_digits k m) (λ d. 48 + d) ∙ length-digits k m

plain_split : (j k m : ℕ) → plain (j + k) m ≡ plain j (m / 10 ^ k) ++ plain k m
plain_split zero k m = let e : 0 + k ≡ k = omega arith in ap (λ (n : ℕ). plain n m) e
plain_split (suc j) k m =
    let e : m / 10 ^ (j + k) ≡ m / 10 ^ k / 10 ^ j = ap (λ (p : ℕ). m / p) (ap (λ (n : ℕ). 10 ^ n) (add_comm j k) ∙ pow-add 10 k j) ∙ sym (div-div-eq-div-mul m (10 ^ k) (10 ^ j)) in
    let next : suc j + k ≡ suc (j + k) = omega arith in
    ap (λ (n : ℕ). plain n m) next ∙ ap₂ (λ (q : ℕ) (cs : List ℕ). (48 + q % 10) ∷ cs) e (plain_split j k m)

zoned_is : (m : ℕ) → zoned_text 15 (pos m) ≡ plain 15 m
zoned_is m = sym (written_plus 15 (pos m) m (plain 15 m) (omega arith) refl (le-ltb m 0 (omega arith)) refl)

record IsLead (xs ws : List ℕ) : Type 0 where
  digits : list_all is_digit ws ≡ true
  value : place_value (map digit_of ws) ≡ place_value (map digit_of xs)
  some : 0 < length ws

lead : (xs : List ℕ) → list_all is_digit xs ≡ true → 0 < length xs → IsLead xs (without_leading_zeros xs)
lead [] h some = absurd (omega (arith, some))
lead (c ∷ cs) h some = at (c == 48) (nat_lt 0 (length cs)) refl refl (lead cs (and_parts (is_digit c) (list_all is_digit cs) h).1)
  where
    at : (b t : Bool) → (c == 48) ≡ b → nat_lt 0 (length cs) ≡ t → (0 < length cs → IsLead cs (without_leading_zeros cs)) → IsLead (c ∷ cs) (cond (b && t) (without_leading_zeros cs) (c ∷ cs))
    at true true e f rest =
        let more = rest (ltb-true 0 (length cs) f) in
        let zero_first : digit_of c * 10 ^ length (map digit_of cs) ≡ 0 * 10 ^ length (map digit_of cs) = ap (λ (d : ℕ). digit_of d * 10 ^ length (map digit_of cs)) (eqb-true c 48 e) in
        record { digits = more.digits; value = omega (arith, more.value, zero_first); some = more.some }
    at true false e f rest = record { digits = h; value = refl; some = some }
    at false t e f rest = record { digits = h; value = refl; some = some }

zeros_value : (n : ℕ) → place_value (map digit_of (replicate n 48)) ≡ 0
zeros_value zero = refl
zeros_value (suc n) = omega (arith, zeros_value n)

tail_value : (ps : List ℕ) → place_value (map digit_of (without_zeros ps)) * 10 ^ (length ps - length (without_zeros ps)) ≡ place_value (map digit_of ps)
tail_value ps =
    let n = ends_in 48 ps in
    let kept = without_zeros ps in
    let zeros = map digit_of (replicate n 48) in
    let v = place_value (map digit_of kept) in
    let long : length ps - length kept ≡ n = omega (arith, length-take (length ps - n) ps, suffix_len-le-length (λ c. c == 48) ps) in
    let whole : place_value (map digit_of ps) ≡ v * 10 ^ length zeros + place_value zeros =
    sym (ap (λ (cs : List ℕ). place_value (map digit_of cs)) (kept_and_end 48 ps)) ∙ ap place_value (map-append digit_of kept (replicate n 48)) ∙ place_value-append (map digit_of kept) zeros in
    let zeros_long : v * 10 ^ length zeros ≡ v * 10 ^ n = ap (λ (k : ℕ). v * 10 ^ k) (length-map (replicate n 48) digit_of ∙ length-replicate n 48) in
    ap (λ (k : ℕ). v * 10 ^ k) long ∙ omega (arith, whole, zeros_long, zeros_value n)

kept_digits : (ps : List ℕ) → list_all is_digit ps ≡ true → list_all is_digit (without_zeros ps) ≡ true
kept_digits ps h =
    let kept = without_zeros ps in
    let rest = replicate (ends_in 48 ps) 48 in
    (and_parts (list_all is_digit kept) (list_all is_digit rest) (sym (list_all-append is_digit kept rest) ∙ ap (list_all is_digit) (kept_and_end 48 ps) ∙ h)).0

-- ---- digits with a point

before_is : (v : ℕ) (ws rest : List ℕ) → v < 48 → list_all is_digit ws ≡ true → before_point v (ws ++ v ∷ rest) ≡ ws
before_is v [] rest low h = ap (λ (b : Bool). cond b [] (v ∷ before_point v rest)) (eq-eqb v v refl)
before_is v (c ∷ cs) rest low h =
    let p = and_parts (is_digit c) (list_all is_digit cs) h in
    ap (λ (b : Bool). cond b [] (c ∷ before_point v (cs ++ v ∷ rest))) (differs c v p.0 low) ∙ ap (λ (l : List ℕ). c ∷ l) (before_is v cs rest low p.1)

after_is : (v : ℕ) (ws rest : List ℕ) → v < 48 → list_all is_digit ws ≡ true → after_point v (ws ++ v ∷ rest) ≡ rest
after_is v [] rest low h = ap (λ (b : Bool). cond b rest (after_point v rest)) (eq-eqb v v refl)
after_is v (c ∷ cs) rest low h =
    let p = and_parts (is_digit c) (list_all is_digit cs) h in
    ap (λ (b : Bool). cond b (cs ++ v ∷ rest) (after_point v (cs ++ v ∷ rest))) (differs c v p.0 low) ∙ after_is v cs rest low p.1

before_none : (v : ℕ) (ws : List ℕ) → v < 48 → list_all is_digit ws ≡ true → before_point v ws ≡ ws
before_none v [] low h = refl
before_none v (c ∷ cs) low h =
    let p = and_parts (is_digit c) (list_all is_digit cs) h in
    ap (λ (b : Bool). cond b [] (c ∷ before_point v cs)) (differs c v p.0 low) ∙ ap (λ (l : List ℕ). c ∷ l) (before_none v cs low p.1)

after_none : (v : ℕ) (ws : List ℕ) → v < 48 → list_all is_digit ws ≡ true → after_point v ws ≡ []
after_none v [] low h = refl
after_none v (c ∷ cs) low h =
    let p = and_parts (is_digit c) (list_all is_digit cs) h in
    ap (λ (b : Bool). cond b cs (after_point v cs)) (differs c v p.0 low) ∙ after_none v cs low p.1

all_kept : (ws : List ℕ) → ungrouped None ws ≡ ws
all_kept [] = refl
all_kept (c ∷ cs) = ap (λ (l : List ℕ). c ∷ l) (all_kept cs)

number_of_digits : (ws : List ℕ) → list_all is_digit ws ≡ true → digits_number None ws ≡ Some (counted (place_value (map digit_of ws)))
number_of_digits ws h =
    ap (λ (us : List ℕ). cond (list_all is_digit us) (Some (counted (place_value (map digit_of us)))) None) (all_kept ws)
    ∙ ap (λ (b : Bool). cond b (Some (counted (place_value (map digit_of ws)))) None) h

not_zero : (n : ℕ) → 0 < n → (n == 0) ≡ false
not_zero n h = false_from_ne_true (n == 0) (λ e. let same = eqb-true n 0 e in omega (arith, same, h))

-- how a text is read whose parts these are
abbrev read_parts : ℕ → ℕ → Bool → Option ℕ → List ℕ → List ℕ → Result ℤ CellFault
read_parts d width minus g a b =
    cond (length a == 0 && length b == 0) (Err faults.NoNumber) (parts_number d width minus (whole_number g a) (length (without_zeros b)) (digits_number None (without_zeros b)))

reads : (f : NumberFormat) (d width : ℕ) (minus : Bool) (text ws ps : List ℕ) → before_point f.decimal text ≡ ws → after_point f.decimal text ≡ ps → f.group ≡ None
    → 0 < length ws → list_all is_digit ws ≡ true → list_all is_digit ps ≡ true
    → digits_with_point f d width minus text
    ≡ parts_number d width minus (Some (counted (place_value (map digit_of ws)))) (length (without_zeros ps)) (Some (counted (place_value (map digit_of (without_zeros ps)))))
reads f d width minus text ws ps before after none some hw hp =
    ap₂ (read_parts d width minus f.group) before after ∙ ap (λ (g : Option ℕ). read_parts d width minus g ws ps) none
    ∙ ap (λ (b : Bool). cond (b && length ps == 0) (Err faults.NoNumber) (parts_number d width minus (digits_number None ws) (length (without_zeros ps)) (digits_number None (without_zeros ps))))
    (not_zero (length ws) some)
    ∙ ap₂ (λ (a b : Option ℕ). parts_number d width minus a (length (without_zeros ps)) b) (number_of_digits ws hw) (number_of_digits (without_zeros ps) (kept_digits ps hp))

sized : (d width m q l z : ℕ) → d ≤ width → width ≤ 15 → m < 10 ^ width → q ≡ m / 10 ^ d → l ≤ d → z * 10 ^ (d - l) ≡ m % 10 ^ d
    → number_size (width - d) d (counted q) l (counted z) ≡ Ok m
sized d width m q l z few high fits q_is short z_is =
    let p = 10 ^ d in
    let one : 1 ≤ p = one-le-pow d 10 (omega arith) in
    let most = ten_le width 15 high in
    let split = div-add-mod' m p in
    let times : q * p ≡ m / p * p = ap (λ (k : ℕ). k * p) q_is in
    let grown = le-mul_of_pos_right q one in
    let grown_z = le-mul_of_pos_right z (one-le-pow (d - l) 10 (omega arith)) in
    let q_in : counted q ≡ q = omega (arith, times, split, grown, most, fits) in
    let z_in : counted z ≡ z = omega (arith, z_is, split, grown_z, most, fits) in
    let power : 10 ^ (width - d) * p ≡ 10 ^ width = let e : width - d + d ≡ width = omega (arith, few) in sym (pow-add 10 (width - d) d) ∙ ap (λ (k : ℕ). 10 ^ k) e in
    let below : q < 10 ^ (width - d) =
    elim (cases_lt q (10 ^ (width - d))) [
      | inl low ↦ low
      | inr above ↦ let over = mul-le-mul_right p above in absurd (omega (arith, over, power, times, split, fits))
    ] in
    let sum : counted (q * p + z * 10 ^ (d - l)) ≡ m = omega (arith, times, split, z_is, most, fits) in
    ap₂ (λ (a b : ℕ). number_size (width - d) d a l b) q_in z_in
    ∙ ap (λ (b : Bool). cond b (Err (faults.Decimals d)) (cond (nat_le (10 ^ (width - d)) q) (Err (faults.Digits (width - d))) (Ok (counted (q * p + z * 10 ^ (d - l)))))) (le-ltb d l short)
    ∙ ap (λ (b : Bool). cond b (Err (faults.Digits (width - d))) (Ok (counted (q * p + z * 10 ^ (d - l))))) (lt-leb (10 ^ (width - d)) q below)
    ∙ ap (λ (k : ℕ). Ok k) sum

signed_is : (before width : ℕ) (n : ℤ) → unsigned_abs n < 10 ^ width → signed_size before width (is_negative n) (Ok (unsigned_abs n)) ≡ Ok n
signed_is before width (pos a) h =
    ap (λ (b : Bool). cond b (Err (faults.Digits before)) (Ok (cond (is_negative (pos a)) (neg_ℤ (pos a)) (pos a)))) (lt-leb (10 ^ width) a h)
    ∙ ap (λ (b : Bool). Ok (cond b (neg_ℤ (pos a)) (pos a))) (le-ltb a 0 (omega arith))
signed_is before width (negsuc a) h = ap (λ (b : Bool). cond b (Err (faults.Digits before)) (Ok (negsuc a))) (lt-leb (10 ^ width) (suc a) h)

-- ---- what is written for a number

abbrev whole_of : ℕ → ℕ → List ℕ
whole_of d m = without_leading_zeros (plain (15 - d) (m / 10 ^ d))

abbrev body : ℕ → ℕ → ℕ → List ℕ
body d v m = if d == 0 then whole_of d m else whole_of d m ++ v ∷ plain d m

pointed_is : (d v m : ℕ) → d ≤ 14 → pointed d v (zoned_text 15 (pos m)) ≡ body d v m
pointed_is d v m few =
    let at : 15 - min d 14 ≡ 15 - d = omega (arith, few) in
    let all : 15 ≡ 15 - d + d = omega (arith, few) in
    let a = plain (15 - d) (m / 10 ^ d) in
    let parts : zoned_text 15 (pos m) ≡ a ++ plain d m = zoned_is m ∙ ap (λ (k : ℕ). plain k m) all ∙ plain_split (15 - d) d m in
    let long : 15 - min d 14 ≡ length a = at ∙ sym (plain_long (15 - d) (m / 10 ^ d)) in
    let front : take (15 - min d 14) (zoned_text 15 (pos m)) ≡ a = ap₂ (λ (k : ℕ) (l : List ℕ). take k l) long parts ∙ take-append_seam a (plain d m) in
    let rest : drop (15 - min d 14) (zoned_text 15 (pos m)) ≡ plain d m = ap₂ (λ (k : ℕ) (l : List ℕ). drop k l) long parts ∙ drop-append_seam a (plain d m) in
    ap₂ (λ (a b : List ℕ). cond (d == 0) (without_leading_zeros a) (without_leading_zeros a ++ v ∷ b)) front rest

whole_is : (d m : ℕ) → d ≤ 14 → m < 10 ^ 15 → IsLead (plain (15 - d) (m / 10 ^ d)) (whole_of d m)
whole_is d m few fits = lead (plain (15 - d) (m / 10 ^ d)) (plain_stands (15 - d) (m / 10 ^ d)) (omega (arith, few, plain_long (15 - d) (m / 10 ^ d)))

whole_value : (d m : ℕ) → d ≤ 14 → m < 10 ^ 15 → place_value (map digit_of (whole_of d m)) ≡ m / 10 ^ d
whole_value d m few fits =
    let p = 10 ^ d in
    let power : 10 ^ (15 - d) * p ≡ 10 ^ 15 = let e : 15 - d + d ≡ 15 = omega (arith, few) in sym (pow-add 10 (15 - d) d) ∙ ap (λ (k : ℕ). 10 ^ k) e in
    let split = div-add-mod' m p in
    let below : m / p < 10 ^ (15 - d) =
    elim (cases_lt (m / p) (10 ^ (15 - d))) [
      | inl low ↦ low
      | inr above ↦ let over = mul-le-mul_right p above in absurd (omega (arith, over, power, split, fits))
    ] in
    (whole_is d m few fits).value ∙ plain_value (15 - d) (m / p) ∙ mod-eq_of_lt below

body_number : (f : NumberFormat) (d width : ℕ) (n : ℤ) → f.group ≡ None → f.decimal < 48 → d ≤ width → width ≤ 15 → d ≤ 14 → unsigned_abs n < 10 ^ width
    → digits_with_point f d width (is_negative n) (body d f.decimal (unsigned_abs n)) ≡ Ok n
body_number f d width n none low few high some fits =
    let m = unsigned_abs n in
    let v = f.decimal in
    let ws = whole_of d m in
    let most = ten_le width 15 high in
    let fifteen : m < 10 ^ 15 = omega (arith, most, fits) in
    let l = whole_is d m some fifteen in
    let number : (ps : List ℕ) → list_all is_digit ps ≡ true → length ps ≡ d → place_value (map digit_of ps) ≡ m % 10 ^ d
    → before_point v (body d v m) ≡ ws → after_point v (body d v m) ≡ ps → digits_with_point f d width (is_negative n) (body d v m) ≡ Ok n =
    λ ps hp long value before after.
    let kept = without_zeros ps in
    let z = place_value (map digit_of kept) in
    let short : length kept ≤ d = omega (arith, long, length-take (length ps - ends_in 48 ps) ps) in
    let z_is : z * 10 ^ (d - length kept) ≡ m % 10 ^ d = ap (λ (k : ℕ). z * 10 ^ (k - length kept)) (sym long) ∙ tail_value ps ∙ value in
    reads f d width (is_negative n) (body d v m) ws ps before after none l.some l.digits hp
    ∙ ap (signed_size (width - d) width (is_negative n)) (sized d width m (place_value (map digit_of ws)) (length kept) z few high fits (whole_value d m some fifteen) short z_is)
    ∙ signed_is (width - d) width n fits in
    let parts : (b : Bool) → (d == 0) ≡ b → digits_with_point f d width (is_negative n) (body d v m) ≡ Ok n =
    λ b. elim b as (λ k. (d == 0) ≡ k → digits_with_point f d width (is_negative n) (body d v m) ≡ Ok n) [
      | true ↦ λ e.
          let zero_is = eqb-true d 0 e in
          let text : body d v m ≡ ws = ap (λ (t : Bool). cond t ws (ws ++ v ∷ plain d m)) e in
          number [] refl (sym zero_is) (sym (ap (λ (k : ℕ). place_value (map digit_of (plain k m))) zero_is) ∙ plain_value d m)
          (ap (before_point v) text ∙ before_none v ws low l.digits) (ap (after_point v) text ∙ after_none v ws low l.digits)
      | false ↦ λ e.
          let text : body d v m ≡ ws ++ v ∷ plain d m = ap (λ (t : Bool). cond t ws (ws ++ v ∷ plain d m)) e in
          number (plain d m) (plain_stands d m) (plain_long d m) (plain_value d m)
          (ap (before_point v) text ∙ before_is v ws (plain d m) low l.digits) (ap (after_point v) text ∙ after_is v ws (plain d m) low l.digits)
    ] in
    parts (d == 0) refl

body_lacks : (d v m x : ℕ) → d ≤ 14 → m < 10 ^ 15 → x < 48 → (v == x) ≡ false → lacks x (body d v m) ≡ true
body_lacks d v m x few fits low other = at (d == 0)
  where
    ws : List ℕ
    ws = whole_of d m

    front : lacks x ws ≡ true
    front = digits_lack x ws low (whole_is d m few fits).digits

    rest : lacks x (v ∷ plain d m) ≡ true
    rest = and_from (not (v == x)) (lacks x (plain d m)) (ap not other) (digits_lack x (plain d m) low (plain_stands d m))

    at : (b : Bool) → lacks x (cond b ws (ws ++ v ∷ plain d m)) ≡ true
    at true = front
    at false = list_all-append (λ c. not (c == x)) ws (v ∷ plain d m) ∙ and_from (lacks x ws) (lacks x (v ∷ plain d m)) front rest

body_some : (d v m : ℕ) → d ≤ 14 → m < 10 ^ 15 → 0 < length (body d v m)
body_some d v m few fits = at (d == 0)
  where
    some : 0 < length (whole_of d m)
    some = (whole_is d m few fits).some

    at : (b : Bool) → 0 < length (cond b (whole_of d m) (whole_of d m ++ v ∷ plain d m))
    at true = some
    at false = omega (arith, some, length-append (whole_of d m) (v ∷ plain d m))

-- ---- signs and blanks

plain_sign : (ws : List ℕ) → 0 < length ws → lacks 45 ws ≡ true → lacks 43 ws ≡ true → (has_minus ws ≡ false) × (without_sign ws ≡ ws)
plain_sign [] some m p = absurd (omega (arith, some))
plain_sign (c ∷ cs) some m p =
    let no_minus = un_not (c == 45) (and_parts (not (c == 45)) (lacks 45 cs) m).0 in
    let no_plus = un_not (c == 43) (and_parts (not (c == 43)) (lacks 43 cs) p).0 in
    let no_end = last_lacks 45 c cs m in (
      or_from (c == 45) (not (c == 43) && last_of (c ∷ cs) == 45) no_minus (and_right (not (c == 43)) (last_of (c ∷ cs) == 45) no_end),
      ap (λ (b : Bool). cond b cs (cond (last_of (c ∷ cs) == 45) (take (length cs) (c ∷ cs)) (c ∷ cs))) (or_from (c == 45) (c == 43) no_minus no_plus)
          ∙ ap (λ (b : Bool). cond b (take (length cs) (c ∷ cs)) (c ∷ cs)) no_end,
    )

abbrev signed : Bool → List ℕ → List ℕ
signed b ws = cond b (45 ∷ []) [] ++ ws

sign_read : (b : Bool) (ws : List ℕ) → 0 < length ws → lacks 45 ws ≡ true → lacks 43 ws ≡ true → (has_minus (signed b ws) ≡ b) × (without_sign (signed b ws) ≡ ws)
sign_read true ws some m p = (refl, refl)
sign_read false ws some m p = plain_sign ws some m p

signed_lacks : (b : Bool) (ws : List ℕ) → lacks 32 ws ≡ true → lacks 32 (signed b ws) ≡ true
signed_lacks true ws h = h
signed_lacks false ws h = h

signed_some : (b : Bool) (ws : List ℕ) → 0 < length ws → 0 < length (signed b ws)
signed_some true ws h = omega (arith, h)
signed_some false ws h = h

without_none : (xs : List ℕ) → lacks 32 xs ≡ true → without_blanks xs ≡ xs
without_none [] h = refl
without_none (c ∷ cs) h =
    ap (λ (b : Bool). cond b (without_blanks cs) (trimmed (c ∷ cs))) (un_not (c == 32) (and_parts (not (c == 32)) (lacks 32 cs) h).0) ∙ trimmed_whole (c ∷ cs) h

-- ---- columns of digits

zoned_lacks : (width : ℕ) (n : ℤ) → lacks 32 (zoned_text width n) ≡ true
zoned_lacks width n =
    let front = plain (width - 1) (unsigned_abs n / 10) in
    list_all-append (λ c. not (c == 32)) front (last_character n ∷ [])
    ∙ and_from (lacks 32 front) (lacks 32 (last_character n ∷ [])) (digits_lack 32 front (omega arith) (plain_stands (width - 1) (unsigned_abs n / 10)))
    (and_from (not (last_character n == 32)) true (ap not (last_filled n)) refl)

lacks_any : (xs : List ℕ) → lacks 32 xs ≡ true → list_any is_blank xs ≡ false
lacks_any [] h = refl
lacks_any (c ∷ cs) h = let p = and_parts (not (c == 32)) (lacks 32 cs) h in or_from (c == 32) (list_any is_blank cs) (un_not (c == 32) p.0) (lacks_any cs p.1)

lacks_all : (xs : List ℕ) → 0 < length xs → lacks 32 xs ≡ true → all_blank xs ≡ false
lacks_all [] some h = absurd (omega (arith, some))
lacks_all (c ∷ cs) some h = and_left (c == 32) (all_blank cs) (un_not (c == 32) (and_parts (not (c == 32)) (lacks 32 cs) h).0)

point_is : (v : ℕ) → (v == 46 || v == 44) ≡ true → (v ≡ 46) ⊎ (v ≡ 44)
point_is v h = at (v == 46) refl h
  where
    at : (b : Bool) → (v == 46) ≡ b → (b || v == 44) ≡ true → (v ≡ 46) ⊎ (v ≡ 44)
    at true e h = inl (eqb-true v 46 e)
    at false e h = inr (eqb-true v 44 h)

other_than : (v x : ℕ) → (v == 46 || v == 44) ≡ true → (46 == x) ≡ false → (44 == x) ≡ false → (v == x) ≡ false
other_than v x h a b = elim (point_is v h) [
  | inl e ↦ ap (λ (k : ℕ). k == x) e ∙ a
  | inr e ↦ ap (λ (k : ℕ). k == x) e ∙ b
]

low_point : (v : ℕ) → (v == 46 || v == 44) ≡ true → v < 48
low_point v h = elim (point_is v h) [
  | inl e ↦ omega (arith, e)
  | inr e ↦ omega (arith, e)
]

-- what is known of digits and their content
record AreRead (f : NumberFormat) (d width : ℕ) (columns : List ℕ) : Type 0 where
  content : List ℕ
  of_number : option_map (number_content d f.decimal) (columns_number columns) ≡ Some content
  no_blank : list_any is_blank columns ≡ false
  not_all : all_blank columns ≡ false
  filled : (length (without_blanks content) == 0) ≡ false
  back : number_columns f d width (without_blanks content) ≡ Ok columns

digits_read : (f : NumberFormat) → f.group ≡ None → (f.decimal == 46 || f.decimal == 44) ≡ true → (d width : ℕ) (columns : List ℕ) → AreDigits d width columns → AreRead f d width columns
digits_read f none point d width columns a =
    let n = a.number in
    let m = unsigned_abs n in
    let v = f.decimal in
    let most = ten_le width 15 a.high in
    let fifteen : m < 10 ^ 15 = omega (arith, most, a.fits) in
    let content = number_content d v n in
    let ws = body d v m in
    let text : content ≡ signed (is_negative n) ws = ap (λ (l : List ℕ). minus_of n ++ l) (pointed_is d v m a.some_whole) in
    let some = body_some d v m a.some_whole fifteen in
    let sign = sign_read (is_negative n) ws some (body_lacks d v m 45 a.some_whole fifteen (omega arith) (other_than v 45 point refl refl)) (body_lacks d v m 43 a.some_whole fifteen (omega arith) (other_than v 43 point refl refl)) in
    let clear = signed_lacks (is_negative n) ws (body_lacks d v m 32 a.some_whole fifteen (omega arith) (other_than v 32 point refl refl)) in
    let same : without_blanks content ≡ signed (is_negative n) ws = ap without_blanks text ∙ without_none (signed (is_negative n) ws) clear in
    let number : cell_number f d width (signed (is_negative n) ws) ≡ Ok n =
    ap₂ (digits_with_point f d width) sign.0 sign.1 ∙ body_number f d width n none (low_point v point) a.few a.high a.some_whole a.fits in
    let long : length (zoned_text width n) ≡ width = length-zoned width n a.low in
    let guard : (width == 0 || nat_lt 15 width || nat_lt width d) ≡ false =
    ap₂ (λ (p q : Bool). p || q || nat_lt width d) (not_zero width a.low) (le-ltb 15 width a.high) ∙ le-ltb width d a.few in
    let wide : (length (zoned_text width n) == 0 || nat_lt 15 (length (zoned_text width n))) ≡ false =
    ap (λ (k : ℕ). k == 0 || nat_lt 15 k) long ∙ or_from (width == 0) (nat_lt 15 width) (not_zero width a.low) (le-ltb 15 width a.high) in
    let known : columns_number columns ≡ Some n =
    ap columns_number a.written ∙ ap (λ (b : Bool). cond b None (number_in (zoned_text width n))) wide ∙ read_back width n a.low a.fits in
    record {
      content = content;
      of_number = ap (option_map (number_content d v)) known;
      no_blank = ap (list_any is_blank) a.written ∙ lacks_any (zoned_text width n) (zoned_lacks width n);
      not_all = ap all_blank a.written ∙ lacks_all (zoned_text width n) (omega (arith, long, a.low)) (zoned_lacks width n);
      filled = ap (λ (l : List ℕ). length l == 0) same ∙ not_zero (length (signed (is_negative n) ws)) (signed_some (is_negative n) ws some);
      back = ap (number_columns f d width) same ∙ ap (λ (b : Bool). cond b (Err (faults.Digits 0)) (zoned_columns width (cell_number f d width (signed (is_negative n) ws)))) guard ∙ ap (zoned_columns width) number ∙ ap (λ (l : List ℕ). Ok l) (sym a.written);
    }

pub read_again : ContentsAreReadBack
read_again f none point kinds.Code width columns h = (
  trimmed columns,
  refl,
  ap (λ (b : Bool). cond b (Err faults.LongCode) (Ok (padded width (trimmed columns)))) (le-ltb 1 (length (trimmed columns)) h.1) ∙ ap (λ (l : List ℕ). Ok l) (padded_back width columns h.0),
)
read_again f none point kinds.Text width columns h = (
  trimmed columns,
  refl,
  ap (λ (l : List ℕ). cond (nat_lt width (length l)) (Err (faults.LongText (length l) width)) (Ok (padded width l))) (trimmed_again columns)
      ∙ ap (λ (b : Bool). cond b (Err (faults.LongText (length (trimmed columns)) width)) (Ok (padded width (trimmed columns)))) (le-ltb width (length (trimmed columns)) (omega (arith, h, trimmed_within columns)))
      ∙ ap (λ (l : List ℕ). Ok l) (padded_back width columns h),
)
read_again f none point (kinds.Number d) width columns (inl blank) =
    let wide : width - 0 ≡ length columns = omega (arith, blank.0) in (
      [],
      ap (λ (b : Bool). cond b (Some []) (option_map (number_content d f.decimal) (columns_number columns))) blank.1,
      ap (λ (k : ℕ). Ok (replicate k 32)) wide ∙ ap (λ (l : List ℕ). Ok l) (blanks_alone columns blank.1),
    )
read_again f none point (kinds.Number d) width columns (inr a) =
    let r = digits_read f none point d width columns a in (
      r.content,
      ap (λ (b : Bool). cond b (Some []) (option_map (number_content d f.decimal) (columns_number columns))) r.not_all ∙ r.of_number,
      ap (λ (b : Bool). cond b (Ok (padded width [])) (number_columns f d width (without_blanks r.content))) r.filled ∙ r.back,
    )
read_again f none point (kinds.Digits d) width columns a =
    let r = digits_read f none point d width columns a in (
      r.content,
      ap (λ (b : Bool). cond b None (option_map (number_content d f.decimal) (columns_number columns))) r.no_blank ∙ r.of_number,
      ap (λ (b : Bool). cond b (Err faults.Empty) (number_columns f d width (without_blanks r.content))) r.filled ∙ r.back,
    )
