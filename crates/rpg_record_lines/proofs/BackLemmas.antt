-- A record whose line is that record again.
use Rattle.std.proofs.Common.{◌≡◌, ℕ, suc, ◌+◌, ◌-◌, ◌^◌, ◌<◌, ◌≤◌, ◌==◌, ◌&&◌, ◌||◌, ◌⊎◌, not, nat_le, Bool, true, false, cond, List, [], ◌∷◌, ◌++◌, length, map, take, drop, replicate, get_or, refl, sym, ap, ap₂, subst, ◌∙◌, arith, append_assoc, append-nil, inl, inr, Option, Result, None, Some, IfSome, Ok, Err, position, length-append, length-drop, length-take, sum_by}
use Rattle.std.proofs.Math.Seq.{drop-append_seam}
use Rattle.std.proofs.lemmas.Bool.{and_left, and_parts, and_right, cases_Bool, cases_lt, eq-eqb, eqb-true, false_from_ne_true, le-ltb, leb-true, le-leb, lt-leb}
use Rattle.std.proofs.lemmas.List.{drop_all, ext_get_or, get_or-append_right, get_or-drop, get_or-map, get_or-take, get_or_append_left, get_or_default, get_or_past, length-map, length-replicate, take_at}
use Rattle.std.proofs.lemmas.List.Folds.{list_any_at}
use Rattle.std.proofs.lemmas.List.Sums.{sum_by-cons}
use Rattle.std.specs.List.{All, Contains, list_any}
use Rattle.rpg_text.specs.Texts.{all_blank, is_blank, is_character, trimmed}
use Rattle.rpg_records.proofs.Again.{AreBytes, AreDigitsFor, binary_back_again, in_bytes, packed_back_again}
use Rattle.rpg_records.proofs.Ends.{ends_in, padded_at, trimmed_at, trimmed_more}
use Rattle.rpg_records.proofs.Images.{IsCharacterOf, column_back, get_or-image, length-image, number_column}
use Rattle.rpg_records.specs.Columns.{column_character, image, is_number_column, page_byte}
use Rattle.rpg_records.specs.Sizes.{counted, field_digits, field_size}
use Rattle.rpg_records.specs.Unpacked.{binary_text, packed_fault, packed_text}
use Rattle.rpg_records.specs.declared.column.Column.{Column}
use Rattle.rpg_records.specs.declared.column.Column.TheVariants as columns
use Rattle.rpg_records.specs.declared.digits.NumberFault.{NumberFault}
use Rattle.rpg_records.specs.declared.layout.NumberField.{NumberField}
use Rattle.rpg_records.specs.declared.layout.NumberForm.{NumberForm}
use Rattle.rpg_records.specs.declared.layout.NumberForm.TheVariants as forms
use Rattle.rpg_records.specs.declared.layout.RecordType.{RecordType}
use Rattle.rpg_records.specs.declared.translation.Page.{Page}
use Rattle.rpg_records.specs.declared.translation.Page.TheVariants as pages
use Rattle.rpg_record_lines.proofs.LineLemmas.{none_passes}
use Rattle.rpg_record_lines.specs.Back.{AreLaidOut, IsLaidOut, IsWrittenAgain, RecordsComeBack, has_column, is_number_again}
use Rattle.rpg_record_lines.specs.Lines.{line_after, other_line, record_characters, type_and_then, unless_bad, whole_line_of}
use Rattle.rpg_record_lines.specs.Numbers.{bytes_of_digits, bytes_of_field, covered_by, digits_at, digits_in, digits_of_fields, field_bytes, field_outcome, field_text, filled, unless_left, with_bytes, with_digits, with_number, with_numbers}
use Rattle.rpg_record_lines.specs.Outcomes.{TextOrFault, joined_texts, some_or, text_and_then}
use Rattle.rpg_record_lines.specs.Records.{bytes_of_characters, checked_record, other_record, record_of_line, typed_record, widened}
use Rattle.rpg_records.specs.Types.{first_type, fits_type, is_card}
use Rattle.rpg_record_lines.specs.declared.fault.RecordFault.TheVariants as faults

-- ---- texts that are there

pub text_some : (x : TextOrFault) (next : List ℕ → TextOrFault) (out : List ℕ) → text_and_then x next ≡ Ok out → (text : List ℕ) × (x ≡ Ok text) × (next text ≡ Ok out)
text_some (Ok text) next out e = (text, refl, e)
text_some (Err fault) next out e = cc

pub joined_some : (x y : TextOrFault) (out : List ℕ) → joined_texts x y ≡ Ok out → (text : List ℕ) × (more : List ℕ) × (x ≡ Ok text) × (y ≡ Ok more) × (text ++ more ≡ out)
joined_some (Ok text) (Ok more) out e = let same : text ++ more ≡ out = cc in (text, more, refl, refl, same)
joined_some (Ok text) (Err fault) out e = cc
joined_some (Err fault) y out e = cc

-- ---- columns in which blanks follow a text

pub length-filled : (n : ℕ) (text : List ℕ) → length (filled n text) ≡ n
length-filled n text = omega (arith, length-append (take n text) (replicate (n - length text) 32), length-take n text, length-replicate {A = ℕ} (n - length text) 32)

pub filled_at : (n i : ℕ) (text : List ℕ) → i < n → get_or (filled n text) i 32 ≡ get_or text i 32
filled_at n i text h = padded_at (take n text) (n - length text) i ∙ get_or-take n text i 32 h

filled_same : (n : ℕ) (a b : List ℕ) → ((i : ℕ) → i < n → get_or a i 32 ≡ get_or b i 32) → filled n a ≡ filled n b
filled_same n a b same =
    ext_get_or 32 (filled n a) (filled n b) (length-filled n a ∙ sym (length-filled n b)) (λ i h.
    let inside : i < n = omega (arith, length-filled n a) in
    filled_at n i a inside ∙ same i inside ∙ sym (filled_at n i b inside))

pub filled_trimmed : (n p : ℕ) (x : List ℕ) → filled n (drop p (trimmed x)) ≡ filled n (drop p x)
filled_trimmed n p x = filled_same n (drop p (trimmed x)) (drop p x) (λ i h. get_or-drop p (trimmed x) i 32 ∙ trimmed_at x (p + i) ∙ sym (get_or-drop p x i 32))

filled_first : (n : ℕ) (u v : List ℕ) → length u ≡ n → filled n (u ++ v) ≡ u
filled_first n u v long =
    let none : n - length (u ++ v) ≡ 0 = omega (arith, long, length-append u v) in
    ap₂ (λ (a : List ℕ) (k : ℕ). a ++ replicate k 32) (take_at u v n long) none ∙ append-nil u

blank_columns : (text : List ℕ) → ((i : ℕ) → i < length text → get_or text i 32 ≡ 32) → all_blank text ≡ true
blank_columns [] h = refl
blank_columns (c ∷ cs) h = ap₂ (λ (a b : Bool). a && b) (eq-eqb c 32 (h 0 (omega arith))) (blank_columns cs (λ i l. h (suc i) (omega arith)))

-- a line with blanks is cut, and widened again
pub front_again : (n : ℕ) (x : List ℕ) → n ≤ length x → take n (widened n (trimmed x)) ≡ take n x
front_again n x h =
    let y = trimmed x in
    let wide = widened n y in
    let long : n ≤ length wide = omega (arith, length-append y (replicate (n - length y) 32), length-replicate {A = ℕ} (n - length y) 32) in
    ext_get_or 32 (take n wide) (take n x) (omega (arith, length-take n wide, length-take n x)) (λ i l.
    let inside : i < n = omega (arith, length-take n wide) in
    get_or-take n wide i 32 inside ∙ padded_at y (n - length y) i ∙ trimmed_at x i ∙ sym (get_or-take n x i 32 inside))

-- ---- a field's bytes in a record

pub in_field : (p : ℕ) (f : NumberField) → f.first - 1 ≤ p → p < f.last → has_column p f ≡ true
in_field p f low high = ap₂ (λ (a b : Bool). a && b) (le-leb f.first (p + 1) (omega arith)) (le-leb (p + 1) f.last (omega arith))

before_field : (p : ℕ) (f : NumberField) → p < f.first - 1 → has_column p f ≡ false
before_field p f h = and_left (nat_le f.first (p + 1)) (nat_le (p + 1) f.last) (lt-leb f.first (p + 1) (omega arith))

after_field : (p : ℕ) (f : NumberField) → f.last ≤ p → has_column p f ≡ false
after_field p f h = and_right (nat_le f.first (p + 1)) (nat_le (p + 1) f.last) (lt-leb (p + 1) f.last (omega arith))

-- bytes instead of those from a place to another one
abbrev pub replaced : ℕ → ℕ → List ℕ → List ℕ → List ℕ
replaced start end bytes rec = (take start rec ++ bytes) ++ drop end rec

module _ (start end : ℕ) (bytes rec : List ℕ) (ordered : start ≤ end) (inside : end ≤ length rec) (long : length bytes ≡ end - start) where
  front_is : length (take start rec ++ bytes) ≡ end
  front_is = omega (arith, length-append (take start rec) bytes, length-take start rec)

  pub length-replaced : length (replaced start end bytes rec) ≡ length rec
  length-replaced = omega (arith, length-append (take start rec ++ bytes) (drop end rec), front_is, length-drop end rec)

  pub replaced_before : (q : ℕ) → q < start → get_or (replaced start end bytes rec) q 0 ≡ get_or rec q 0
  replaced_before q h =
      let short : length (take start rec) ≡ start = omega (arith, length-take start rec) in
      get_or_append_left (take start rec ++ bytes) (drop end rec) 0 q (omega (arith, front_is)) ∙ get_or_append_left (take start rec) bytes 0 q (omega (arith, short)) ∙ get_or-take start rec q 0 h

  pub replaced_in : (q : ℕ) → start ≤ q → q < end → get_or (replaced start end bytes rec) q 0 ≡ get_or bytes (q - start) 0
  replaced_in q low high =
      let short : length (take start rec) ≡ start = omega (arith, length-take start rec) in
      get_or_append_left (take start rec ++ bytes) (drop end rec) 0 q (omega (arith, front_is)) ∙ get_or-append_right (take start rec) bytes start q 0 short low

  pub replaced_after : (q : ℕ) → end ≤ q → get_or (replaced start end bytes rec) q 0 ≡ get_or rec q 0
  replaced_after q h =
      let at : end + (q - end) ≡ q = omega arith in
      get_or-append_right (take start rec ++ bytes) (drop end rec) end q 0 front_is h ∙ get_or-drop end rec (q - end) 0 ∙ ap (λ (k : ℕ). get_or rec k 0) at

field_long : (f : NumberField) (r : List ℕ) → f.last ≤ length r → length (bytes_of_field f r) ≡ f.last - (f.first - 1)
field_long f r h = omega (arith, length-take (f.last - (f.first - 1)) (drop (f.first - 1) r), length-drop (f.first - 1) r)

field_at : (f : NumberField) (r : List ℕ) (q : ℕ) → f.first - 1 ≤ q → q < f.last → get_or (bytes_of_field f r) (q - (f.first - 1)) 0 ≡ get_or r q 0
field_at f r q low high =
    let a = f.first - 1 in
    let at : a + (q - a) ≡ q = omega arith in
    get_or-take (f.last - a) (drop a r) (q - a) 0 (omega arith) ∙ get_or-drop a r (q - a) 0 ∙ ap (λ (k : ℕ). get_or r k 0) at

-- a field's bytes are bytes
field_bytes_are : (f : NumberField) (r : List ℕ) → AreBytes r → AreBytes (bytes_of_field f r)
field_bytes_are f r h i =
    let a = f.first - 1 in
    elim (cases_lt i (f.last - a)) [
      | inl inside ↦ (let e = get_or-take (f.last - a) (drop a r) i 0 inside ∙ get_or-drop a r i 0 in omega (arith, e, h (a + i)))
      | inr past ↦ (let e : get_or (bytes_of_field f r) i 0 ≡ 0 = get_or_past (bytes_of_field f r) i 0 (omega (arith, length-take (f.last - a) (drop a r))) in omega (arith, e))
    ]

-- ---- digits and bytes of a field

-- a record has the field, and these are its digits
record IsRead (r : List ℕ) (f : NumberField) (u : List ℕ) : Type 0 where
  inside : f.last ≤ length r
  digits : digits_in f.form (field_digits f) (bytes_of_field f r) ≡ Ok u

outcome_some : (f : NumberField) (bytes u : List ℕ) (x : Result (List ℕ) NumberFault) → field_outcome f bytes x ≡ Ok u → x ≡ Ok u
outcome_some f bytes u (Ok digits) e = cc
outcome_some f bytes u (Err fault) e = cc

field_read : (r : List ℕ) (f : NumberField) (u : List ℕ) → field_text r f ≡ Ok u → IsRead r f u
field_read r f u e = at (nat_le f.last (length r)) refl e
  where
    at : (b : Bool) → nat_le f.last (length r) ≡ b → cond b (field_outcome f (bytes_of_field f r) (digits_in f.form (field_digits f) (bytes_of_field f r))) (Err faults.NoType) ≡ Ok u → IsRead r f u
    at true t e = record { inside = leb-true f.last (length r) t; digits = outcome_some f (bytes_of_field f r) u (digits_in f.form (field_digits f) (bytes_of_field f r)) e }
    at false t e = cc

some_is : (fault : NumberFault) (o : Option (List ℕ)) (u : List ℕ) → some_or fault o ≡ Ok u → o ≡ Some u
some_is fault (Some x) u e = cc
some_is fault None u e = cc

field_back : (form : NumberForm) (k : ℕ) (bytes u : List ℕ) → 1 ≤ k → 1 ≤ length bytes → AreBytes bytes → is_number_again form bytes ≡ true → digits_in form k bytes ≡ Ok u
    → AreDigitsFor k u bytes (bytes_of_digits form (length bytes) u)
field_back forms.Packed k bytes u some low are again e = packed_back_again k bytes u some low again (some_is (packed_fault bytes) (packed_text k bytes) u e)
field_back forms.Binary k bytes u some low are again e = binary_back_again k bytes u some are (some_is _ (binary_text k bytes) u e)

-- ---- all fields, one after the other

-- at each place a record is another one, or a field that is still to come has it
abbrev Agrees : List ℕ → List ℕ → List NumberField → Type 0
Agrees rec r fs = (q : ℕ) → q < length r → (get_or rec q 0 ≡ get_or r q 0) ⊎ (list_any (has_column q) fs ≡ true)

-- a line is blank where fields are
abbrev LeavesRoom : List ℕ → List ℕ → List NumberField → Type 0
LeavesRoom x r fs = (q : ℕ) → q < length r → list_any (has_column q) fs ≡ true → get_or x q 32 ≡ 32

agrees_next : (rec r : List ℕ) (f : NumberField) (fs : List NumberField) → f.last ≤ length r → length rec ≡ length r → Agrees rec r (f ∷ fs)
    → Agrees (replaced (f.first - 1) f.last (bytes_of_field f r) rec) r fs
agrees_next rec r f fs inside long agrees q h =
    let a = f.first - 1 in
    let bytes = bytes_of_field f r in
    let ordered : a ≤ f.last = omega (arith, f.ordered) in
    let room : f.last ≤ length rec = omega (arith, long) in
    let count = field_long f r inside in
    let kept = λ (e : get_or (replaced a f.last bytes rec) q 0 ≡ get_or rec q 0) (out : has_column q f ≡ false). other (has_column q f) e out (agrees q h) in
    elim (cases_lt q a) [
      | inl before ↦ kept (replaced_before a f.last bytes rec ordered room count q before) (before_field q f before)
      | inr low ↦ elim (cases_lt q f.last) [
        | inl high ↦ inl (replaced_in a f.last bytes rec ordered room count q low high ∙ field_at f r q low high)
        | inr after ↦ kept (replaced_after a f.last bytes rec ordered room count q after) (after_field q f after)
      ]
    ]
  where
    other : (b : Bool) → get_or (replaced (f.first - 1) f.last (bytes_of_field f r) rec) q 0 ≡ get_or rec q 0 → b ≡ false
        → (get_or rec q 0 ≡ get_or r q 0) ⊎ ((b || list_any (has_column q) fs) ≡ true)
        → (get_or (replaced (f.first - 1) f.last (bytes_of_field f r) rec) q 0 ≡ get_or r q 0) ⊎ (list_any (has_column q) fs ≡ true)
    other true e out is = cc
    other false e out (inl same) = inl (e ∙ same)
    other false e out (inr later) = inr later

covered_blank : (x r : List ℕ) (f : NumberField) (fs : List NumberField) → f.last ≤ length r → LeavesRoom x r (f ∷ fs) → all_blank (covered_by (trimmed x) f) ≡ true
covered_blank x r f fs inside room =
    let a = f.first - 1 in
    let k = field_size f in
    ap all_blank (filled_trimmed k a x) ∙ blank_columns (filled k (drop a x)) (λ i h.
    let within : i < k = omega (arith, length-filled k (drop a x)) in
    let here : has_column (a + i) f ≡ true = in_field (a + i) f (omega arith) (omega (arith, within, f.ordered, f.from_one)) in
    filled_at k i (drop a x) within ∙ get_or-drop a x i 32
    ∙ room (a + i) (omega (arith, within, inside, f.ordered, f.from_one)) (ap (λ (b : Bool). b || list_any (has_column (a + i)) fs) here))

number_back : (x r u v front rec : List ℕ) (f : NumberField) (fs : List NumberField) → x ≡ front ++ (u ++ v) → IsRead r f u → AreBytes r → is_number_again f.form (bytes_of_field f r) ≡ true
    → length rec ≡ length r → LeavesRoom x r (f ∷ fs)
    → with_number (trimmed x) (length front) rec f ≡ Ok (replaced (f.first - 1) f.last (bytes_of_field f r) rec)
number_back x r u v front rec f fs is read are again long room =
    let k = field_digits f in
    let bytes = bytes_of_field f r in
    let place = length front in
    let count : length bytes ≡ field_size f = omega (arith, field_long f r read.inside, f.ordered, f.from_one) in
    let back = field_back f.form k bytes u f.some (omega (arith, count)) (field_bytes_are f r are) again read.digits in
    let digits : digits_at (trimmed x) place f ≡ u =
    filled_trimmed k place x ∙ ap (λ (l : List ℕ). filled k (drop place l)) is ∙ ap (filled k) (drop-append_seam front (u ++ v)) ∙ filled_first k u v back.long in
    let written : bytes_of_digits f.form (field_size f) u ≡ Some bytes = ap (λ (n : ℕ). bytes_of_digits f.form n u) (sym count) ∙ back.back in
    ap (λ (b : Bool). cond b (Err faults.NoType) (cond (all_blank (covered_by (trimmed x) f)) (with_digits f place rec (digits_at (trimmed x) place f)) (Err (faults.Taken f.card f.first f.last (field_bytes (covered_by (trimmed x) f))))))
    (le-ltb (length rec) f.last (omega (arith, long, read.inside)))
    ∙ ap (λ (b : Bool). cond b (with_digits f place rec (digits_at (trimmed x) place f)) (Err (faults.Taken f.card f.first f.last (field_bytes (covered_by (trimmed x) f))))) (covered_blank x r f fs read.inside room)
    ∙ ap (with_digits f place rec) digits
    ∙ ap (λ (b : Bool). with_bytes f place u rec (cond b None (bytes_of_digits f.form (field_size f) u))) back.filled
    ∙ ap (with_bytes f place u rec) written

numbers_back : (x r : List ℕ) (fs : List NumberField) (front digits rec : List ℕ) → x ≡ front ++ digits → digits_of_fields r fs ≡ Ok digits → AreBytes r
    → All (λ f. is_number_again f.form (bytes_of_field f r) ≡ true) fs → length rec ≡ length r → Agrees rec r fs → LeavesRoom x r fs → length front + sum_by field_digits fs < 2 ^ 64
    → with_numbers (trimmed x) fs (length front) rec ≡ Ok r
numbers_back x r [] front digits rec is read are again long agrees room few =
    let none : digits ≡ [] = cc in
    let all : x ≡ front = is ∙ ap (λ (l : List ℕ). front ++ l) none ∙ append-nil front in
    let short : length (trimmed x) ≤ length front = omega (arith, ap length all, length-take (length x - ends_in 32 x) x) in
    let same : rec ≡ r = ext_get_or 0 rec r long (λ q h. elim (agrees q (omega (arith, long, h))) [
      | inl e ↦ e
      | inr never ↦ cc
    ]) in
    ap (λ (l : List ℕ). unless_left l (length front) rec (position (λ c. not (is_blank c)) l)) (drop_all (length front) (trimmed x) short) ∙ ap Ok same
numbers_back x r (f ∷ fs) front digits rec is read are again long agrees room few =
    let p = joined_some (field_text r f) (digits_of_fields r fs) digits read in
    let total = sum_by-cons field_digits f fs in
    let u = p.0 in
    let v = p.1 in
    let whole : u ++ v ≡ digits = p.4 in
    let field = field_read r f u p.2 in
    let bytes = bytes_of_field f r in
    let next = replaced (f.first - 1) f.last bytes rec in
    let ordered : f.first - 1 ≤ f.last = omega (arith, f.ordered) in
    let count = field_long f r field.inside in
    let first : is_number_again f.form bytes ≡ true = again 0 f (omega arith) in
    let here : x ≡ front ++ (u ++ v) = is ∙ ap (λ (l : List ℕ). front ++ l) (sym whole) in
    let low : 1 ≤ length bytes = omega (arith, count, f.ordered, f.from_one) in
    let size = field_back f.form (field_digits f) bytes u f.some low (field_bytes_are f r are) first field.digits in
    let place : counted (length front + field_digits f) ≡ length (front ++ u) = omega (arith, length-append front u, size.long, few, total) in
    ap (λ (t : TextOrFault). text_and_then t (with_numbers (trimmed x) fs (counted (length front + field_digits f)))) (number_back x r u v front rec f fs here field are first long room)
    ∙ ap (λ (k : ℕ). with_numbers (trimmed x) fs k next) place
    ∙ numbers_back x r fs (front ++ u) v next (here ∙ sym (append_assoc front u v)) p.3 are (λ k d h. again (suc k) d (omega arith))
    (length-replaced (f.first - 1) f.last bytes rec ordered (omega (arith, long, field.inside)) count ∙ long) (agrees_next rec r f fs field.inside long agrees)
    (λ q h any. room q h (later (has_column q f) (list_any (has_column q) fs) any)) (omega (arith, length-append front u, size.long, few, total))
  where
    later : (a b : Bool) → b ≡ true → (a || b) ≡ true
    later true b e = refl
    later false b e = e

-- ---- the columns

bytes_back : (page : Page) (place : ℕ) (cs : List ℕ) → ((i : ℕ) → i < length cs → is_character (get_or cs i 0) ≡ true) → bytes_of_characters page place cs ≡ Ok (map (page_byte page) cs)
bytes_back page place [] h = refl
bytes_back page place (c ∷ cs) h =
    ap (λ (b : Bool). cond b (joined_texts (Ok (page_byte page c ∷ [])) (bytes_of_characters page (place + 1) cs)) (Err (faults.NoCharacter (place + 1) c))) (h 0 (omega arith))
    ∙ ap (joined_texts (Ok (page_byte page c ∷ []))) (bytes_back page (place + 1) cs (λ i l. h (suc i) (omega arith)))

-- columns all of which have a character
record AreColumns (page : Page) (kinds : List Column) (r cs : List ℕ) : Type 0 where
  is : image page false kinds r ≡ cs
  some : (p : ℕ) → p < length cs → (get_or cs p 0 == 0) ≡ false

columns_some : (page : Page) (kinds : List Column) (r cs : List ℕ) → record_characters page false kinds r ≡ Ok cs → AreColumns page kinds r cs
columns_some page kinds r cs e = at (position (λ c. c == 0) (image page false kinds r)) refl e
  where
    both : {b : Bool} → b ≡ true → b ≡ false → ⊥
    both e f = cc

    at : (o : Option ℕ) → position (λ c. c == 0) (image page false kinds r) ≡ o → unless_bad r (image page false kinds r) o ≡ Ok cs → AreColumns page kinds r cs
    at (Some k) found e = cc
    at None found e =
        let same : image page false kinds r ≡ cs = cc in
        let none : list_any (λ c. c == 0) cs ≡ false = ap (list_any (λ c. c == 0)) (sym same) ∙ none_passes (λ c. c == 0) (image page false kinds r) found in record {
          is = same;
          some = λ p h. false_from_ne_true (get_or cs p 0 == 0) (λ zero_there. both (list_any_at (λ c. c == 0) cs p 0 h zero_there) none);
        }

-- ---- types

pub record IsFound (types : List RecordType) (r : List ℕ) (t : RecordType) : Type 0 where
  pub one : Contains types t
  pub long : length t.columns.items ≡ length r

pub first_found : (page : Page) (low : Bool) (r : List ℕ) (types : List RecordType) (t : RecordType) → first_type page low r types ≡ Some t → IsFound types r t
first_found page low r [] t e = cc
first_found page low r (u ∷ us) t e = at (fits_type page low r u) refl e (first_found page low r us t)
  where
    at : (b : Bool) → fits_type page low r u ≡ b → cond b (Some u) (first_type page low r us) ≡ Some t → (first_type page low r us ≡ Some t → IsFound us r t) → IsFound (u ∷ us) r t
    at true fits e more =
        let same : u ≡ t = cc in
        let long : length u.columns.items ≡ length r = eqb-true _ _ (and_parts _ _ fits).0 in
        subst (IsFound (u ∷ us) r) same (record { one = (0, omega arith, refl); long = long })
    at false fits e more =
        let rest = more e in
        record { one = (suc rest.one.0, omega (arith, rest.one.1), rest.one.2); long = rest.long }

pub all_contained : (P : RecordType → Type 0) (types : List RecordType) (t : RecordType) → All P types → Contains types t → P t
all_contained P types t all one = subst P one.2 (all one.0 t one.1)

pub card_found : (card : ℕ) (o : Option RecordType) → is_card card o ≡ true → (u : RecordType) × (o ≡ Some u) × (u.card ≡ card)
card_found card None e = cc
card_found card (Some u) e = (u, refl, eqb-true u.card card e)

-- ---- a record of a type

typed_back : (page : Page) (types : List RecordType) (r whole cs ds : List ℕ) (t u : RecordType) → AreLaidOut types → AreBytes r → IsWrittenAgain page t r → first_type page false r types ≡ Some t
    → AreColumns page t.columns.items r cs → digits_of_fields r t.numbers.items ≡ Ok ds → cs ++ ds ≡ whole → first_type pages.Ascii false cs types ≡ Some u → u.card ≡ t.card
    → record_of_line page false types (length r) (trimmed whole) ≡ Ok r
typed_back page types r whole cs ds t u laid are again found all read is other card =
    let kinds = t.columns.items in
    let here = first_found page false r types t found in
    let type = all_contained IsLaidOut types t laid.each here.one in
    let same : u ≡ t = laid.own_cards u t (first_found pages.Ascii false cs types u other).one here.one card in
    let long : length cs ≡ length r = ap length (sym all.is) ∙ length-image page false kinds r here.long in
    let at : (p : ℕ) → p < length r → get_or cs p 0 ≡ column_character page false (get_or kinds p columns.Text) (get_or r p 0) =
    λ p h. ap (λ (l : List ℕ). get_or l p 0) (sym all.is) ∙ get_or-image page false kinds r p (omega (arith, here.long)) h in
    let wide = widened (length r) (trimmed whole) in
    let front : take (length r) wide ≡ cs =
    front_again (length r) whole (omega (arith, ap length is, length-append cs ds, long)) ∙ ap (take (length r)) (sym is) ∙ take_at cs ds (length r) long in
    let line : trimmed wide ≡ trimmed whole = trimmed_more (length r - length (trimmed whole)) whole in
    let byte : (p : ℕ) → p < length r → is_number_column (get_or kinds p columns.Text) ≡ false → IsCharacterOf page (get_or r p 0) (get_or cs p 0) =
    λ p h plain. rw (at p h) (column_back page (get_or kinds p columns.Text) (get_or r p 0) (are p) (again.characters p h) plain (ap (λ (c : ℕ). c == 0) (sym (at p h)) ∙ all.some p (omega (arith, long)))) in
    let blank : (p : ℕ) → p < length r → is_number_column (get_or kinds p columns.Text) ≡ true → get_or cs p 0 ≡ 32 =
    λ p h hidden. at p h ∙ number_column page (get_or kinds p columns.Text) (get_or r p 0) hidden in
    let known : (p : ℕ) → p < length cs → is_character (get_or cs p 0) ≡ true =
    λ p h. (let inside : p < length r = omega (arith, long) in elim (cases_Bool (is_number_column (get_or kinds p columns.Text))) [
      | inl hidden ↦ ap is_character (blank p inside hidden)
      | inr plain ↦ (byte p inside plain).known
    ]) in
    let agrees : Agrees (map (page_byte page) cs) r t.numbers.items =
    λ p h. elim (cases_Bool (is_number_column (get_or kinds p columns.Text))) [
      | inl hidden ↦ inr (sym (type.columns p (omega (arith, here.long))) ∙ hidden)
      | inr plain ↦ inl (get_or-map (page_byte page) cs p 0 0 (omega (arith, long)) ∙ (byte p h plain).back)
    ] in
    let room : LeavesRoom whole r t.numbers.items =
    λ p h any. ap (λ (l : List ℕ). get_or l p 32) (sym is) ∙ get_or_append_left cs ds 32 p (omega (arith, long)) ∙ get_or_default cs p 32 0 (omega (arith, long))
    ∙ blank p h (type.columns p (omega (arith, here.long)) ∙ any) in
    let few : length cs + sum_by field_digits t.numbers.items < 2 ^ 64 = omega (arith, type.narrow, here.long, long) in
    let numbers = numbers_back whole r t.numbers.items cs ds (map (page_byte page) cs) (sym is) read are again.numbers (length-map cs (page_byte page) ∙ long) agrees room few in
    ap₂ (λ (a b : List ℕ). type_and_then (first_type pages.Ascii false a types) (typed_record page false types a b)) front line
    ∙ ap (λ (o : Option RecordType). type_and_then o (typed_record page false types cs (trimmed whole))) (other ∙ ap Some same)
    ∙ ap (λ (x : TextOrFault). text_and_then x (λ l. text_and_then (with_numbers (trimmed whole) t.numbers.items (length cs) l) (checked_record page false types t))) (bytes_back page 0 cs known)
    ∙ ap (λ (x : TextOrFault). text_and_then x (checked_record page false types t)) numbers
    ∙ ap (λ (o : Option RecordType). cond (is_card t.card o) (Ok r) (Err (other_record t o))) found
    ∙ ap (λ (b : Bool). cond b (Ok r) (Err (other_record t (Some t)))) (eq-eqb t.card t.card refl)

pub records_back : RecordsComeBack
records_back page types r line laid are again e = at (first_type page false r types) refl again e
  where
    of_type : (t : RecordType) (whole cs : List ℕ) → first_type page false r types ≡ Some t → IsWrittenAgain page t r → AreColumns page t.columns.items r cs
        → (b : Bool) → is_card t.card (first_type pages.Ascii false cs types) ≡ b
        → cond b (joined_texts (Ok cs) (digits_of_fields r t.numbers.items)) (Err (other_line t (first_type pages.Ascii false cs types))) ≡ Ok whole
        → record_of_line page false types (length r) (trimmed whole) ≡ Ok r
    of_type t whole cs found again all false card e = cc
    of_type t whole cs found again all true card e =
        let p = joined_some (Ok cs) (digits_of_fields r t.numbers.items) whole e in
        let first : cs ≡ p.0 = cc (p.2) in
        let u = card_found t.card (first_type pages.Ascii false cs types) card in
        typed_back page types r whole cs p.1 t u.0 laid (in_bytes r are) again found all p.3 (ap (λ (l : List ℕ). l ++ p.1) first ∙ p.4) u.1 u.2

    at : (o : Option RecordType) → first_type page false r types ≡ o → IfSome o (λ t. IsWrittenAgain page t r)
        → type_and_then o (λ t. text_and_then (whole_line_of page false types r t) (λ l. Ok (trimmed l))) ≡ Ok line → record_of_line page false types (length r) line ≡ Ok r
    at None found again e = cc
    at (Some t) found again e =
        let p = text_some (whole_line_of page false types r t) (λ l. Ok (trimmed l)) line e in
        let whole = p.0 in
        let cut : trimmed whole ≡ line = cc (p.2) in
        let q = text_some (record_characters page false t.columns.items r) (line_after types r t) whole p.1 in
        let cs = q.0 in
        subst (λ (l : List ℕ). record_of_line page false types (length r) l ≡ Ok r) cut
        (of_type t whole cs found again (columns_some page t.columns.items r cs q.1) (is_card t.card (first_type pages.Ascii false cs types)) refl q.2)
