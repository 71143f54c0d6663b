-- A line whose record is that line again.
use Rattle.std.proofs.Common.{◌≡◌, ℕ, zero, suc, ◌+◌, ◌-◌, ◌^◌, ◌<◌, ◌≤◌, ◌==◌, ℤ, not, nat_le, nat_lt, Bool, true, false, cond, List, [], ◌∷◌, ◌++◌, length, map, take, drop, replicate, get_or, refl, sym, ap, ap₂, subst, ◌∙◌, arith, append_assoc, inl, inr, Option, None, Some, IfSome, Ok, Err, position, length-append, length-drop, length-take, sum_by}
use Rattle.std.proofs.lemmas.Bool.{and_parts, cases_Bool, cases_lt, eq-eqb, eqb-true, le-leb, leb-true, ltb-false, ne_eqb, not-false, or_cases, or_parts}
use Rattle.std.proofs.lemmas.List.{ext_get_or, get_or-append_right, get_or-drop, get_or-map, get_or-take, get_or_append_left, get_or_default, get_or_past, length-map, length-replicate, replicate-append-replicate}
use Rattle.std.proofs.lemmas.List.Folds.{list_any_at, list_any_none}
use Rattle.std.proofs.lemmas.List.Sums.{sum_by-cons}
use Rattle.std.specs.List.{list_any}
use Rattle.rpg_text.specs.Texts.{all_blank, is_blank, is_character, trimmed}
use Rattle.rpg_records.proofs.Again.{binary_forth, binary_room, packed_forth}
use Rattle.rpg_records.proofs.Ends.{ends_in, kept_and_end, padded_at, trimmed_at, trimmed_more}
use Rattle.rpg_records.proofs.Images.{get_or-image, length-image, number_column, page_forth}
use Rattle.rpg_records.specs.Columns.{blank_for_none, column_character, image, is_number_column, last_place_character, page_byte}
use Rattle.rpg_records.specs.Fields.{digit_count, is_field_size}
use Rattle.rpg_records.specs.Sizes.{counted, field_digits, field_size}
use Rattle.rpg_records.specs.Types.{first_type, is_card}
use Rattle.rpg_records.specs.Unpacked.{number_text, packed_fault}
use Rattle.rpg_records.specs.declared.column.Column.{Column}
use Rattle.rpg_records.specs.declared.column.Column.TheVariants as columns
use Rattle.rpg_records.specs.declared.digits.NumberFault.TheVariants as numbers
use Rattle.rpg_records.specs.declared.layout.NumberField.{NumberField}
use Rattle.rpg_records.specs.declared.layout.NumberForm.{NumberForm}
use Rattle.rpg_records.specs.declared.layout.NumberForm.TheVariants as forms
use Rattle.rpg_records.specs.declared.layout.RecordType.{RecordType}
use Rattle.rpg_records.specs.declared.translation.Page.{Page}
use Rattle.rpg_records.specs.declared.translation.Page.TheVariants as pages
use Rattle.rpg_record_lines.proofs.BackLemmas.{all_contained, card_found, filled_at, first_found, in_field, joined_some, length-filled, length-replaced, replaced, replaced_after, replaced_before, replaced_in, text_some}
use Rattle.rpg_record_lines.proofs.LineLemmas.{all_characters, none_passes}
use Rattle.rpg_record_lines.specs.Back.{AreApart, AreLaidOut, HaveDigits, IsLaidOut, IsReadAgain, LinesComeBack, has_column, is_read_again}
use Rattle.rpg_record_lines.specs.Lines.{line_after, line_of_record, other_line, record_characters, type_and_then, unless_bad, whole_line_of}
use Rattle.rpg_record_lines.specs.Numbers.{after_digits, bytes_of_digits, bytes_of_field, covered_by, digits_at, digits_in, digits_of_fields, field_bytes, field_outcome, field_text, unless_left, with_bytes, with_digits, with_number, with_numbers}
use Rattle.rpg_record_lines.specs.Outcomes.{TextOrFault, joined_texts, some_or, text_and_then}
use Rattle.rpg_record_lines.specs.Records.{bytes_of_characters, checked_record, other_record, typed_record, widened}
use Rattle.rpg_record_lines.specs.declared.fault.RecordFault.TheVariants as faults

-- ---- tests on elements

never : {b : Bool} → b ≡ true → b ≡ false → ⊥
never e f = cc

none_at : (test : ℕ → Bool) (xs : List ℕ) (i d : ℕ) → list_any test xs ≡ false → i < length xs → test (get_or xs i d) ≡ false
none_at test xs i d none h =
    elim (cases_Bool (test (get_or xs i d))) [
      | inl e ↦ absurd (never (list_any_at test xs i d h e) none)
      | inr e ↦ e
    ]

all_at : (xs : List ℕ) (i : ℕ) → all_blank xs ≡ true → get_or xs i 32 ≡ 32
all_at [] i h = refl
all_at (x ∷ xs) zero h = eqb-true x 32 (and_parts (is_blank x) (all_blank xs) h).0
all_at (x ∷ xs) (suc i) h = all_at xs i (and_parts (is_blank x) (all_blank xs) h).1

-- texts with the same characters, and blanks alone after the end of the shorter one
longer_same : (a b : List ℕ) → length a ≤ length b → ((i : ℕ) → get_or a i 32 ≡ get_or b i 32) → trimmed a ≡ trimmed b
longer_same a b h same =
    let m = length b - length a in
    let whole : a ++ replicate m 32 ≡ b =
    ext_get_or 32 (a ++ replicate m 32) b (omega (arith, length-append a (replicate m 32), length-replicate {A = ℕ} m 32)) (λ i l. padded_at a m i ∙ same i) in
    let k = ends_in 32 a in
    let both : trimmed a ++ replicate (k + m) 32 ≡ b =
    ap (λ (l : List ℕ). trimmed a ++ l) (sym (replicate-append-replicate k m 32)) ∙ sym (append_assoc (trimmed a) (replicate k 32) (replicate m 32)) ∙ ap (λ (l : List ℕ). l ++ replicate m 32) (kept_and_end 32 a) ∙ whole in
    sym (ap trimmed (sym both) ∙ trimmed_more (k + m) a)

trimmed_same : (a b : List ℕ) → ((i : ℕ) → get_or a i 32 ≡ get_or b i 32) → trimmed a ≡ trimmed b
trimmed_same a b same =
    elim (cases_lt (length a) (length b)) [
      | inl h ↦ longer_same a b (omega arith) same
      | inr h ↦ sym (longer_same b a h (λ i. sym (same i)))
    ]

-- ---- one field

-- a field was written: it is in the record, its own columns are blank, and its bytes are those of its digits
record IsWrittenAt (y : List ℕ) (place : ℕ) (f : NumberField) (rec next : List ℕ) : Type 0 where
  inside : f.last ≤ length rec
  blank : all_blank (covered_by y f) ≡ true
  bytes : List ℕ
  digits : bytes_of_digits f.form (field_size f) (digits_at y place f) ≡ Some bytes
  is : replaced (f.first - 1) f.last bytes rec ≡ next

field_written : (y : List ℕ) (place : ℕ) (f : NumberField) (rec next : List ℕ) → with_number y place rec f ≡ Ok next → IsWrittenAt y place f rec next
field_written y place f rec next e = at (nat_lt (length rec) f.last) refl (all_blank (covered_by y f)) refl e
  where
    of_bytes : f.last ≤ length rec → all_blank (covered_by y f) ≡ true → (o : Option (List ℕ)) → bytes_of_digits f.form (field_size f) (digits_at y place f) ≡ o
        → with_bytes f place (digits_at y place f) rec o ≡ Ok next → IsWrittenAt y place f rec next
    of_bytes inside blank None is e = cc
    of_bytes inside blank (Some bytes) is e =
        let same : replaced (f.first - 1) f.last bytes rec ≡ next = cc in record { inside = inside; blank = blank; bytes = bytes; digits = is; is = same }

    of_digits : f.last ≤ length rec → all_blank (covered_by y f) ≡ true → (b : Bool)
        → with_bytes f place (digits_at y place f) rec (cond b None (bytes_of_digits f.form (field_size f) (digits_at y place f))) ≡ Ok next → IsWrittenAt y place f rec next
    of_digits inside blank true e = cc
    of_digits inside blank false e = of_bytes inside blank (bytes_of_digits f.form (field_size f) (digits_at y place f)) refl e

    at : (b : Bool) → nat_lt (length rec) f.last ≡ b → (c : Bool) → all_blank (covered_by y f) ≡ c
        → cond b (Err faults.NoType) (cond c (with_digits f place rec (digits_at y place f)) (Err (faults.Taken f.card f.first f.last (field_bytes (covered_by y f))))) ≡ Ok next
        → IsWrittenAt y place f rec next
    at true t c u e = cc
    at false t true u e = of_digits (ltb-false (length rec) f.last t) u (all_blank (digits_at y place f)) e
    at false t false u e = cc

size_is : (f : NumberField) → f.last + 1 - f.first ≡ field_size f
size_is f = omega (arith, f.ordered, f.from_one)

field_forth : (form : NumberForm) (k size : ℕ) (n : ℤ) (digits bytes : List ℕ) → 1 ≤ k → is_field_size form size ≡ true → k ≤ digit_count form size → number_text k n ≡ Some digits
    → bytes_of_digits form size digits ≡ Some bytes → (length bytes ≡ size) × (digits_in form k bytes ≡ Ok digits)
field_forth forms.Packed k size n digits bytes some fits few text e =
    let low : 1 ≤ size = leb-true 1 size (and_parts (nat_le 1 size) (nat_le size 8) fits).0 in
    let is = packed_forth k size n digits bytes some low (omega arith) text e in (is.long, ap (some_or (packed_fault bytes)) is.back)
field_forth forms.Binary k size n digits bytes some fits few text e =
    let is = binary_forth k size n digits bytes some (binary_room size k fits few) text e in (is.long, ap (some_or numbers.TooLarge) is.back)

-- ---- all fields

-- the fields of a line were written into a record, which has their digits, and blanks follow these in the line
record AreWritten (y : List ℕ) (fs : List NumberField) (place : ℕ) (rec r : List ℕ) : Type 0 where
  long : length r ≡ length rec
  kept : (q : ℕ) → list_any (has_column q) fs ≡ false → get_or r q 0 ≡ get_or rec q 0
  digits : List ℕ
  read : digits_of_fields r fs ≡ Ok digits
  line : (i : ℕ) → get_or y (place + i) 32 ≡ get_or digits i 32
  blank : (q : ℕ) → list_any (has_column q) fs ≡ true → get_or y q 32 ≡ 32

apart_first : (f : NumberField) (fs : List NumberField) (q : ℕ) → AreApart (f ∷ fs) → has_column q f ≡ true → list_any (has_column q) fs ≡ false
apart_first f fs q apart here = list_any_none (has_column q) fs (λ k d h. apart 0 (suc k) d (omega arith) (omega arith) q here)

blank_from : (xs : List ℕ) (i : ℕ) → list_any (λ c. not (is_blank c)) xs ≡ false → get_or xs i 32 ≡ 32
blank_from xs i none =
    elim (cases_lt i (length xs)) [
      | inl h ↦ eqb-true (get_or xs i 32) 32 (not-false (is_blank (get_or xs i 32)) (none_at (λ c. not (is_blank c)) xs i 32 none h))
      | inr h ↦ get_or_past xs i 32 h
    ]

none_left : (y : List ℕ) (place : ℕ) (rec r : List ℕ) → after_digits y place rec ≡ Ok r → AreWritten y [] place rec r
none_left y place rec r e = at (position (λ c. not (is_blank c)) (drop place y)) refl e
  where
    at : (o : Option ℕ) → position (λ c. not (is_blank c)) (drop place y) ≡ o → unless_left (drop place y) place rec o ≡ Ok r → AreWritten y [] place rec r
    at (Some k) found e = cc
    at None found e =
        let same : rec ≡ r = cc in
        let none = none_passes (λ c. not (is_blank c)) (drop place y) found in record {
          long = ap length (sym same);
          kept = λ q h. ap (λ (l : List ℕ). get_or l q 0) (sym same);
          digits = [];
          read = refl;
          line = λ i. sym (get_or-drop place y i 32) ∙ blank_from (drop place y) i none;
          blank = λ q h. cc;
        }

module _ (y : List ℕ) (place : ℕ) (f : NumberField) (fs : List NumberField) (rec next r : List ℕ) (apart : AreApart (f ∷ fs)) (w : IsWrittenAt y place f rec next) (long : length w.bytes ≡ field_size f)
    (rest : AreWritten y fs (place + field_digits f) next r) where
  start_end : f.first - 1 ≤ f.last
  start_end = omega (arith, f.ordered)

  count : length w.bytes ≡ f.last - (f.first - 1)
  count = omega (arith, long, f.ordered, f.from_one)

  next_long : length next ≡ length rec
  next_long = ap length (sym w.is) ∙ length-replaced (f.first - 1) f.last w.bytes rec start_end w.inside count

  bytes_are : bytes_of_field f r ≡ w.bytes
  bytes_are =
      let a = f.first - 1 in
      let inside : f.last ≤ length r = omega (arith, rest.long, next_long, w.inside) in
      let size : length (bytes_of_field f r) ≡ f.last - a = omega (arith, length-take (f.last - a) (drop a r), length-drop a r) in
      ext_get_or 0 (bytes_of_field f r) w.bytes (size ∙ sym count) (λ i h.
      let low : i < f.last - a = omega (arith, size) in
      let here : has_column (a + i) f ≡ true = in_field (a + i) f (omega arith) (omega arith) in
      let at : a + i - a ≡ i = omega arith in
      get_or-take (f.last - a) (drop a r) i 0 low ∙ get_or-drop a r i 0 ∙ rest.kept (a + i) (apart_first f fs (a + i) apart here)
      ∙ ap (λ (l : List ℕ). get_or l (a + i) 0) (sym w.is) ∙ replaced_in a f.last w.bytes rec start_end w.inside count (a + i) (omega arith) (omega arith) ∙ ap (λ (k : ℕ). get_or w.bytes k 0) at)

  kept_all : (q : ℕ) → list_any (has_column q) (f ∷ fs) ≡ false → get_or r q 0 ≡ get_or rec q 0
  kept_all q h =
      let parts = or_parts (has_column q f) (list_any (has_column q) fs) h in
      let next_is : get_or next q 0 ≡ get_or (replaced (f.first - 1) f.last w.bytes rec) q 0 = ap (λ (l : List ℕ). get_or l q 0) (sym w.is) in
      let outside : get_or (replaced (f.first - 1) f.last w.bytes rec) q 0 ≡ get_or rec q 0 = elim (cases_lt q (f.first - 1)) [
        | inl before ↦ replaced_before (f.first - 1) f.last w.bytes rec start_end w.inside count q before
        | inr low ↦ elim (cases_lt q f.last) [
          | inl high ↦ absurd (never (in_field q f low high) parts.0)
          | inr after ↦ replaced_after (f.first - 1) f.last w.bytes rec start_end w.inside count q after
        ]
      ] in
      rest.kept q parts.1 ∙ next_is ∙ outside

  blank_all : (q : ℕ) → list_any (has_column q) (f ∷ fs) ≡ true → get_or y q 32 ≡ 32
  blank_all q h =
      elim (or_cases (has_column q f) (list_any (has_column q) fs) h) [
        | inl here ↦ (
            let a = f.first - 1 in
            let parts = and_parts (nat_le f.first (q + 1)) (nat_le (q + 1) f.last) here in
            let low = leb-true f.first (q + 1) parts.0 in
            let high = leb-true (q + 1) f.last parts.1 in
            let at : a + (q - a) ≡ q = omega (arith, low) in
            ap (λ (k : ℕ). get_or y k 32) (sym at) ∙ sym (get_or-drop a y (q - a) 32) ∙ sym (filled_at (field_size f) (q - a) (drop a y) (omega (arith, low, high, f.from_one))) ∙ all_at (covered_by y f) (q - a) w.blank
            )
        | inr later ↦ rest.blank q later
      ]

  line_all : (i : ℕ) → get_or y (place + i) 32 ≡ get_or (digits_at y place f ++ rest.digits) i 32
  line_all i =
      let k = field_digits f in
      let d = digits_at y place f in
      let size : length d ≡ k = length-filled k (drop place y) in
      elim (cases_lt i k) [
        | inl h ↦ sym (get_or_append_left d rest.digits 32 i (omega (arith, size)) ∙ filled_at k i (drop place y) h ∙ get_or-drop place y i 32)
        | inr h ↦ (
            let at : place + k + (i - k) ≡ place + i = omega arith in
            ap (λ (j : ℕ). get_or y j 32) (sym at) ∙ rest.line (i - k) ∙ sym (get_or-append_right d rest.digits k i 32 size h)
            )
      ]

fields_written : (y : List ℕ) (fs : List NumberField) (place : ℕ) (rec r : List ℕ) → with_numbers y fs place rec ≡ Ok r → AreApart fs → HaveDigits y place fs
    → place + sum_by field_digits fs < 2 ^ 64 → AreWritten y fs place rec r
fields_written y [] place rec r e apart digits few = none_left y place rec r e
fields_written y (f ∷ fs) place rec r e apart digits few =
    let k = field_digits f in
    let d = digits_at y place f in
    let total = sum_by-cons field_digits f fs in
    let p = text_some (with_number y place rec f) (with_numbers y fs (counted (place + k))) r e in
    let next = p.0 in
    let w = field_written y place f rec next p.1 in
    let here : counted (place + k) ≡ place + k = omega (arith, few, total) in
    let rest = fields_written y fs (place + k) next r (ap (λ (j : ℕ). with_numbers y fs j next) (sym here) ∙ p.2) (λ i j d l h. apart (suc i) (suc j) d (omega arith) (omega arith)) digits.1 (omega (arith, few, total)) in
    let text : number_text k digits.0.number ≡ Some d = ap (λ (j : ℕ). number_text j digits.0.number) (sym (length-filled k (drop place y))) ∙ digits.0.written in
    let fits : is_field_size f.form (field_size f) ≡ true = ap (is_field_size f.form) (sym (size_is f)) ∙ f.size in
    let most : k ≤ digit_count f.form (field_size f) = subst (λ (j : ℕ). k ≤ digit_count f.form j) (size_is f) f.few in
    let forth = field_forth f.form k (field_size f) digits.0.number d w.bytes f.some fits most text w.digits in
    let bytes = bytes_are y place f fs rec next r apart w forth.0 rest in
    let long = next_long y place f fs rec next r apart w forth.0 rest in
    let inside : f.last ≤ length r = omega (arith, rest.long, long, w.inside) in
    let own : field_text r f ≡ Ok d =
    ap (λ (b : Bool). cond b (field_outcome f (bytes_of_field f r) (digits_in f.form k (bytes_of_field f r))) (Err faults.NoType)) (le-leb f.last (length r) inside)
    ∙ ap (λ (l : List ℕ). field_outcome f l (digits_in f.form k l)) bytes ∙ ap (field_outcome f w.bytes) forth.1 in
    record {
      long = rest.long ∙ long;
      kept = kept_all y place f fs rec next r apart w forth.0 rest;
      digits = d ++ rest.digits;
      read = ap₂ joined_texts own rest.read;
      line = line_all y place f fs rec next r apart w forth.0 rest;
      blank = blank_all y place f fs rec next r apart w forth.0 rest;
    }

-- ---- the columns

character_some : (c : ℕ) → is_character c ≡ true → (c == 0) ≡ false
character_some c h = let low = leb-true 32 c (and_parts (nat_le 32 c) (nat_le c 126) h).0 in ne_eqb c 0 (λ e. omega (arith, low, e))

column_forth : (page : Page) (kind : Column) (c : ℕ) → is_character c ≡ true → is_number_column kind ≡ false → is_read_again page kind c ≡ true → column_character page false kind (page_byte page c) ≡ c
column_forth page columns.Text c known hides again = page_forth page c known
column_forth page columns.LastPlace c known hides again = eqb-true (last_place_character page (page_byte page c)) c again
column_forth page columns.Number c known hides again = cc
column_forth page columns.Unnamed c known hides again = ap blank_for_none (page_forth page c known) ∙ ap (λ (b : Bool). cond b 32 c) (character_some c known)

-- characters, and their bytes
record AreCharacters (page : Page) (cols rec : List ℕ) : Type 0 where
  is : map (page_byte page) cols ≡ rec
  known : (i : ℕ) → i < length cols → is_character (get_or cols i 0) ≡ true

characters_are : (page : Page) (place : ℕ) (cols rec : List ℕ) → bytes_of_characters page place cols ≡ Ok rec → AreCharacters page cols rec
characters_are page place [] rec e = let same : [] ≡ rec = cc in record { is = same; known = λ i h. absurd (omega (arith, h)) }
characters_are page place (c ∷ cs) rec e = at (is_character c) refl e (λ more. characters_are page (place + 1) cs more)
  where
    all_known : is_character c ≡ true → ((i : ℕ) → i < length cs → is_character (get_or cs i 0) ≡ true) → (i : ℕ) → i < length (c ∷ cs) → is_character (get_or (c ∷ cs) i 0) ≡ true
    all_known t rest zero h = t
    all_known t rest (suc i) h = rest i (omega (arith, h))

    at : (b : Bool) → is_character c ≡ b → cond b (joined_texts (Ok (page_byte page c ∷ [])) (bytes_of_characters page (place + 1) cs)) (Err (faults.NoCharacter (place + 1) c)) ≡ Ok rec
        → ((more : List ℕ) → bytes_of_characters page (place + 1) cs ≡ Ok more → AreCharacters page cs more) → AreCharacters page (c ∷ cs) rec
    at false t e next = cc
    at true t e next =
        let p = joined_some (Ok (page_byte page c ∷ [])) (bytes_of_characters page (place + 1) cs) rec e in
        let rest = next p.1 p.3 in
        let first : page_byte page c ∷ [] ≡ p.0 = cc (p.2) in
        record { is = ap (λ (l : List ℕ). page_byte page c ∷ l) rest.is ∙ ap (λ (l : List ℕ). l ++ p.1) first ∙ p.4; known = all_known t rest.known }

-- ---- a line of a type

typed_forth : (page : Page) (types : List RecordType) (n : ℕ) (line rec r : List ℕ) (t : RecordType) → AreLaidOut types → IsReadAgain page t line
    → first_type pages.Ascii false (take n (widened n line)) types ≡ Some t → bytes_of_characters page 0 (take n (widened n line)) ≡ Ok rec
    → with_numbers (trimmed (widened n line)) t.numbers.items (length (take n (widened n line))) rec ≡ Ok r → is_card t.card (first_type page false r types) ≡ true
    → line_of_record page false types r ≡ Ok (trimmed line)
typed_forth page types n line rec r t laid again found characters numbers card =
    let kinds = t.columns.items in
    let fs = t.numbers.items in
    let wide = widened n line in
    let m = n - length line in
    let cols = take n wide in
    let here = first_found pages.Ascii false cols types t found in
    let type = all_contained IsLaidOut types t laid.each here.one in
    let known = characters_are page 0 cols rec characters in
    let end : trimmed wide ≡ trimmed line = trimmed_same wide line (padded_at line m) in
    let digits : HaveDigits (trimmed wide) (length cols) fs = subst (λ (k : ℕ). HaveDigits (trimmed wide) k fs) here.long (subst (λ (l : List ℕ). HaveDigits l (length kinds) fs) (sym end) again.digits) in
    let few : length cols + sum_by field_digits fs < 2 ^ 64 = omega (arith, type.narrow, here.long) in
    let w = fields_written (trimmed wide) fs (length cols) rec r numbers again.apart digits few in
    let count : length r ≡ length cols = w.long ∙ ap length (sym known.is) ∙ length-map cols (page_byte page) in
    let short : length cols ≤ n = omega (arith, length-take n wide) in
    let at : (p : ℕ) → p < length cols → get_or line p 32 ≡ get_or cols p 0 =
    λ p h. sym (get_or_default cols p 0 32 h ∙ get_or-take n wide p 32 (omega (arith, short)) ∙ padded_at line m p) in
    let image_at : (p : ℕ) → p < length cols → column_character page false (get_or kinds p columns.Text) (get_or r p 0) ≡ get_or cols p 0 =
    λ p h. elim (cases_Bool (is_number_column (get_or kinds p columns.Text))) [
      | inl hidden ↦ number_column page (get_or kinds p columns.Text) (get_or r p 0) hidden
          ∙ sym (sym (at p h) ∙ sym (padded_at line m p) ∙ sym (trimmed_at wide p) ∙ w.blank p (sym (type.columns p (omega (arith, here.long))) ∙ hidden))
      | inr plain ↦ ap (column_character page false (get_or kinds p columns.Text)) (w.kept p (sym (type.columns p (omega (arith, here.long))) ∙ plain) ∙ ap (λ (l : List ℕ). get_or l p 0) (sym known.is) ∙ get_or-map (page_byte page) cols p 0 0 h)
          ∙ column_forth page (get_or kinds p columns.Text) (get_or cols p 0) (known.known p h) plain (ap (is_read_again page (get_or kinds p columns.Text)) (sym (at p h)) ∙ again.characters p (omega (arith, here.long)))
    ] in
    let size : length (image page false kinds r) ≡ length cols = length-image page false kinds r (here.long ∙ sym count) ∙ count in
    let image_is : image page false kinds r ≡ cols = ext_get_or 0 (image page false kinds r) cols size (λ p h.
    let inside : p < length cols = omega (arith, size) in
    get_or-image page false kinds r p (omega (arith, here.long)) (omega (arith, count)) ∙ image_at p inside) in
    let none : not (list_any (λ c. c == 0) cols) ≡ true = ap not (list_any_none (λ c. c == 0) cols (λ k d h. ap (λ (c : ℕ). c == 0) (get_or_default cols k d 0 h) ∙ character_some (get_or cols k 0) (known.known k h))) in
    let shown : record_characters page false kinds r ≡ Ok cols = ap (λ (l : List ℕ). unless_bad r l (position (λ c. c == 0) l)) image_is ∙ all_characters r cols none in
    let u = card_found t.card (first_type page false r types) card in
    let same : u.0 ≡ t = laid.own_cards u.0 t (first_found page false r types u.0 u.1).one here.one u.2 in
    let whole : trimmed (cols ++ w.digits) ≡ trimmed line = trimmed_same (cols ++ w.digits) line (λ i. elim (cases_lt i (length cols)) [
      | inl h ↦ get_or_append_left cols w.digits 32 i h ∙ get_or_default cols i 32 0 h ∙ sym (at i h)
      | inr h ↦ (
          let place : length cols + (i - length cols) ≡ i = omega arith in
          get_or-append_right cols w.digits (length cols) i 32 refl h ∙ sym (w.line (i - length cols)) ∙ ap (λ (k : ℕ). get_or (trimmed wide) k 32) place ∙ trimmed_at wide i ∙ padded_at line m i
          )
    ]) in
    ap (λ (o : Option RecordType). type_and_then o (λ t. text_and_then (whole_line_of page false types r t) (λ l. Ok (trimmed l)))) (u.1 ∙ ap Some same)
    ∙ ap (λ (x : TextOrFault). text_and_then (text_and_then x (line_after types r t)) (λ l. Ok (trimmed l))) shown
    ∙ ap (λ (o : Option RecordType). text_and_then (cond (is_card t.card o) (joined_texts (Ok cols) (digits_of_fields r fs)) (Err (other_line t o))) (λ l. Ok (trimmed l))) found
    ∙ ap (λ (b : Bool). text_and_then (cond b (joined_texts (Ok cols) (digits_of_fields r fs)) (Err (other_line t (Some t)))) (λ l. Ok (trimmed l))) (eq-eqb t.card t.card refl)
    ∙ ap (λ (x : TextOrFault). text_and_then (joined_texts (Ok cols) x) (λ l. Ok (trimmed l))) w.read
    ∙ ap Ok whole

pub lines_back : LinesComeBack
lines_back page types n line r laid again e = at (first_type pages.Ascii false (take n (widened n line)) types) refl again e
  where
    checked : (t : RecordType) (out : List ℕ) → (b : Bool) → is_card t.card (first_type page false out types) ≡ b
        → cond b (Ok out) (Err (other_record t (first_type page false out types))) ≡ Ok r → (is_card t.card (first_type page false out types) ≡ true) × (out ≡ r)
    checked t out true card e = let same : out ≡ r = cc in (card, same)
    checked t out false card e = cc

    at : (o : Option RecordType) → first_type pages.Ascii false (take n (widened n line)) types ≡ o → IfSome o (λ t. IsReadAgain page t line)
        → type_and_then o (typed_record page false types (take n (widened n line)) (trimmed (widened n line))) ≡ Ok r → line_of_record page false types r ≡ Ok (trimmed line)
    at None found again e = cc
    at (Some t) found again e =
        let cols = take n (widened n line) in
        let y = trimmed (widened n line) in
        let p = text_some (bytes_of_characters page 0 cols) (λ l. text_and_then (with_numbers y t.numbers.items (length cols) l) (checked_record page false types t)) r e in
        let q = text_some (with_numbers y t.numbers.items (length cols) p.0) (checked_record page false types t) r p.2 in
        let c = checked t q.0 (is_card t.card (first_type page false q.0 types)) refl q.2 in
        let numbers : with_numbers y t.numbers.items (length cols) p.0 ≡ Ok r = q.1 ∙ ap Ok c.1 in
        let card : is_card t.card (first_type page false r types) ≡ true = ap (λ (l : List ℕ). is_card t.card (first_type page false l types)) (sym c.1) ∙ c.0 in
        typed_forth page types n line p.0 r t laid again found p.1 numbers card
