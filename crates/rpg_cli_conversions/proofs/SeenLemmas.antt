-- A conversion depends on nothing of a layout but what is seen of it.
use Rattle.std.proofs.Common.{◌≡◌, ℕ, ◌+◌, ◌-◌, ◌++◌, ◌==◌, ◌&&◌, Bool, true, false, if◌then◌else◌, List, [], ◌∷◌, length, map, take, drop, nat_le, nat_lt, refl, sym, ap, ap₂, ◌∙◌, Option, Some, None, Result, Ok, Err}
use Rattle.std.proofs.Math.Path.{fun_ext}
use Rattle.std.specs.List.{list_all}
use Rattle.std.specs.Option.{option_map}
use Rattle.std.specs.Prelude.{slice_range}
use Rattle.rpg_text.specs.Texts.{all_blank, trimmed}
use Rattle.rpg_records.specs.declared.digits.NumberFault.{NumberFault}
use Rattle.rpg_records.specs.declared.translation.Page.{Page}
use Rattle.rpg_records.specs.declared.translation.Page.TheVariants as pages
use Rattle.rpg_records.specs.Seen.{LayoutSeen, NumberSeen, TypeSeen, columns_seen, digits_seen, layout_seen, number_seen, type_seen}
use Rattle.rpg_records.specs.Sizes.{counted, field_digits, field_size}
use Rattle.rpg_records.specs.declared.layout.Layout.{Layout}
use Rattle.rpg_records.specs.declared.layout.NumberField.{NumberField}
use Rattle.rpg_records.specs.declared.layout.RecordType.{RecordType}
use Rattle.rpg_record_decks.proofs.SeenLemmas.{columns_are_seen}
use Rattle.rpg_record_lines.specs.Conversions.{Made, ConversionSettings, conversion}
use Rattle.rpg_record_lines.specs.Lines.{record_characters, line_after, line_of_record, type_and_then, other_line, whole_line_of}
use Rattle.rpg_record_lines.specs.Numbers.{after_digits, bytes_of_field, bytes_unless_blank, covered_by, digits_at, digits_in, digits_of_fields, field_bytes, field_outcome, field_text, filled, with_bytes, with_number, with_numbers}
use Rattle.rpg_record_lines.specs.Outcomes.{TextOrFault, text_and_then, joined_texts}
use Rattle.rpg_record_lines.specs.Records.{bytes_of_characters, checked_record, other_record, record_of_line, typed_record, widened}
use Rattle.rpg_record_lines.specs.Types.{code_fits_record, first_type, is_card, fits_type}
use Rattle.rpg_record_lines.specs.Frames.{frame}
use Rattle.rpg_record_lines.specs.Ways.{is_dropped, made_text, padded_to, to_lines, to_records}
use Rattle.rpg_text.specs.Lines.{with_line_feed}
use Rattle.rpg_record_lines.specs.declared.conversion.RecordFormat.{RecordFormat}
use Rattle.rpg_record_lines.specs.declared.fault.RecordFault.{RecordFault}
use Rattle.rpg_record_lines.specs.declared.fault.RecordFault.TheVariants as faults
use Rattle.rpg_record_lines.specs.declared.frames.Framing.TheVariants as framings
use Rattle.rpg_cli_conversions.specs.Laws.{CardsSayTheOutput}

then_same : (o : TextOrFault) (f g : List ℕ → TextOrFault) → ((text : List ℕ) → f text ≡ g text) → text_and_then o f ≡ text_and_then o g
then_same (Ok text) f g h = h text
then_same (Err fault) f g h = refl

-- ---- types

abbrev seen_is_of : Page → Bool → List ℕ → TypeSeen → Bool
seen_is_of page low r s = length s.columns == length r && list_all (code_fits_record page low r) s.codes

abbrev seen_first : Page → Bool → List ℕ → List TypeSeen → Option TypeSeen
seen_first page low r [] = None
seen_first page low r (s ∷ ss) = if seen_is_of page low r s then Some s else seen_first page low r ss

first_is_seen : (page : Page) (low : Bool) (r : List ℕ) (ts : List RecordType) → option_map type_seen (first_type page low r ts) ≡ seen_first page low r (map type_seen ts)
first_is_seen page low r [] = refl
first_is_seen page low r (t ∷ ts) = at (fits_type page low r t) (first_is_seen page low r ts)
  where
    at : (b : Bool) → option_map type_seen (first_type page low r ts) ≡ seen_first page low r (map type_seen ts)
        → option_map type_seen (if b then Some t else first_type page low r ts) ≡ (if b then Some (type_seen t) else seen_first page low r (map type_seen ts))
    at true e = refl
    at false e = e

abbrev seen_is_card : ℕ → Option TypeSeen → Bool
seen_is_card card None = false
seen_is_card card (Some s) = s.card == card

abbrev seen_card : Option TypeSeen → Option ℕ
seen_card None = None
seen_card (Some s) = Some s.card

-- what follows where a type is found again, or not
abbrev seen_checked : ℕ → (ℕ → Option ℕ → RecordFault) → Option TypeSeen → TextOrFault → TextOrFault
seen_checked card other found o = if seen_is_card card found then o else Err (other card (seen_card found))

line_checked : (t : RecordType) (found : Option RecordType) (o : TextOrFault) → (if is_card t.card found then o else Err (other_line t found)) ≡ seen_checked t.card faults.OtherLine (option_map type_seen found) o
line_checked t None o = refl
line_checked t (Some u) o = refl

record_checked : (t : RecordType) (found : Option RecordType) (o : TextOrFault) → (if is_card t.card found then o else Err (other_record t found)) ≡ seen_checked t.card faults.OtherRecord (option_map type_seen found) o
record_checked t None o = refl
record_checked t (Some u) o = refl

abbrev seen_of_type : Option TypeSeen → (TypeSeen → TextOrFault) → TextOrFault
seen_of_type None next = Err faults.NoType
seen_of_type (Some s) next = next s

type_is_seen : (found : Option RecordType) (f : RecordType → TextOrFault) (g : TypeSeen → TextOrFault) → ((t : RecordType) → f t ≡ g (type_seen t)) → type_and_then found f ≡ seen_of_type (option_map type_seen found) g
type_is_seen None f g h = refl
type_is_seen (Some t) f g h = h t

-- ---- digits of bytes

abbrev seen_outcome : NumberSeen → List ℕ → Result (List ℕ) NumberFault → TextOrFault
seen_outcome s bytes (Ok digits) = Ok digits
seen_outcome s bytes (Err fault) = Err (faults.BadNumber s.card s.first s.last (field_bytes bytes) fault)

outcome_is_seen : (f : NumberField) (bytes : List ℕ) (r : Result (List ℕ) NumberFault) → field_outcome f bytes r ≡ seen_outcome (number_seen f) bytes r
outcome_is_seen f bytes (Ok digits) = refl
outcome_is_seen f bytes (Err fault) = refl

abbrev seen_text : List ℕ → NumberSeen → TextOrFault
seen_text r s =
    if nat_le s.last (length r) then seen_outcome s (slice_range r (s.first - 1) s.last) (digits_in s.form (digits_seen s) (slice_range r (s.first - 1) s.last)) else Err faults.NoType

text_is_seen : (r : List ℕ) (f : NumberField) → field_text r f ≡ seen_text r (number_seen f)
text_is_seen r f = ap (λ (o : TextOrFault). if nat_le f.last (length r) then o else Err faults.NoType) (outcome_is_seen f (bytes_of_field f r) (digits_in f.form (field_digits f) (bytes_of_field f r)))

abbrev seen_digits : List ℕ → List NumberSeen → TextOrFault
seen_digits r [] = Ok []
seen_digits r (s ∷ ss) = joined_texts (seen_text r s) (seen_digits r ss)

digits_are_seen : (r : List ℕ) (fs : List NumberField) → digits_of_fields r fs ≡ seen_digits r (map number_seen fs)
digits_are_seen r [] = refl
digits_are_seen r (f ∷ fs) = ap₂ joined_texts (text_is_seen r f) (digits_are_seen r fs)

-- ---- lines

abbrev seen_after : List TypeSeen → List ℕ → TypeSeen → List ℕ → TextOrFault
seen_after ss r s columns = seen_checked s.card faults.OtherLine (seen_first pages.Ascii false columns ss) (joined_texts (Ok columns) (seen_digits r s.numbers))

after_is_seen : (ts : List RecordType) (r : List ℕ) (t : RecordType) (columns : List ℕ) → line_after ts r t columns ≡ seen_after (map type_seen ts) r (type_seen t) columns
after_is_seen ts r t columns =
    line_checked t (first_type pages.Ascii false columns ts) (joined_texts (Ok columns) (digits_of_fields r t.numbers.items))
    ∙ ap₂ (λ (found : Option TypeSeen) (o : TextOrFault). seen_checked t.card faults.OtherLine found (joined_texts (Ok columns) o)) (first_is_seen pages.Ascii false columns ts) (digits_are_seen r t.numbers.items)

abbrev seen_whole : Page → Bool → List TypeSeen → List ℕ → TypeSeen → TextOrFault
seen_whole page low ss r s = text_and_then (text_and_then (record_characters page low s.columns r) (seen_after ss r s)) (λ line. Ok (trimmed line))

whole_is_seen : (page : Page) (low : Bool) (ts : List RecordType) (r : List ℕ) (t : RecordType)
    → text_and_then (whole_line_of page low ts r t) (λ line. Ok (trimmed line)) ≡ seen_whole page low (map type_seen ts) r (type_seen t)
whole_is_seen page low ts r t =
    ap (λ (o : TextOrFault). text_and_then o (λ line. Ok (trimmed line)))
    (then_same (record_characters page low t.columns.items r) (line_after ts r t) (seen_after (map type_seen ts) r (type_seen t)) (after_is_seen ts r t))

abbrev seen_line : Page → Bool → List TypeSeen → List ℕ → TextOrFault
seen_line page low ss r = seen_of_type (seen_first page low r ss) (seen_whole page low ss r)

line_is_seen : (page : Page) (low : Bool) (ts : List RecordType) (r : List ℕ) → line_of_record page low ts r ≡ seen_line page low (map type_seen ts) r
line_is_seen page low ts r =
    type_is_seen (first_type page low r ts) (λ t. text_and_then (whole_line_of page low ts r t) (λ line. Ok (trimmed line))) (seen_whole page low (map type_seen ts) r) (whole_is_seen page low ts r)
    ∙ ap (λ (found : Option TypeSeen). seen_of_type found (seen_whole page low (map type_seen ts) r)) (first_is_seen page low r ts)

-- ---- bytes of digits

abbrev seen_bytes : NumberSeen → ℕ → List ℕ → List ℕ → Option (List ℕ) → TextOrFault
seen_bytes s place digits r (Some bytes) = Ok ((take (s.first - 1) r ++ bytes) ++ drop s.last r)
seen_bytes s place digits r None = Err (faults.BadDigits s.card (counted (place + 1)) (counted (place + digits_seen s)) (field_bytes digits))

bytes_are_seen : (f : NumberField) (place : ℕ) (digits r : List ℕ) (o : Option (List ℕ)) → with_bytes f place digits r o ≡ seen_bytes (number_seen f) place digits r o
bytes_are_seen f place digits r (Some bytes) = refl
bytes_are_seen f place digits r None = refl

abbrev seen_covered : List ℕ → NumberSeen → List ℕ
seen_covered line s = filled (s.last - s.first + 1) (drop (s.first - 1) line)

abbrev seen_with_digits : NumberSeen → ℕ → List ℕ → List ℕ → TextOrFault
seen_with_digits s place r digits = seen_bytes s place digits r (bytes_unless_blank s.form (s.last - s.first + 1) digits)

abbrev seen_number : List ℕ → ℕ → List ℕ → NumberSeen → TextOrFault
seen_number line place r s =
    if nat_lt (length r) s.last then Err faults.NoType
    else if all_blank (seen_covered line s) then seen_with_digits s place r (filled (digits_seen s) (drop place line))
    else Err (faults.Taken s.card s.first s.last (field_bytes (seen_covered line s)))

number_is_seen : (line : List ℕ) (place : ℕ) (r : List ℕ) (f : NumberField) → with_number line place r f ≡ seen_number line place r (number_seen f)
number_is_seen line place r f =
    ap (λ (o : TextOrFault). if nat_lt (length r) f.last then Err faults.NoType else if all_blank (covered_by line f) then o else Err (faults.Taken f.card f.first f.last (field_bytes (covered_by line f))))
    (bytes_are_seen f place (digits_at line place f) r (bytes_unless_blank f.form (field_size f) (digits_at line place f)))

abbrev seen_numbers : List ℕ → List NumberSeen → ℕ → List ℕ → TextOrFault
seen_numbers line [] place r = after_digits line place r
seen_numbers line (s ∷ ss) place r = text_and_then (seen_number line place r s) (seen_numbers line ss (counted (place + digits_seen s)))

numbers_are_seen : (line : List ℕ) (fs : List NumberField) (place : ℕ) (r : List ℕ) → with_numbers line fs place r ≡ seen_numbers line (map number_seen fs) place r
numbers_are_seen line [] place r = refl
numbers_are_seen line (f ∷ fs) place r =
    ap (λ (o : TextOrFault). text_and_then o (with_numbers line fs (counted (place + field_digits f)))) (number_is_seen line place r f)
    ∙ then_same (seen_number line place r (number_seen f)) (with_numbers line fs (counted (place + field_digits f))) (seen_numbers line (map number_seen fs) (counted (place + field_digits f)))
    (numbers_are_seen line fs (counted (place + field_digits f)))

-- ---- records

abbrev seen_record_checked : Page → Bool → List TypeSeen → TypeSeen → List ℕ → TextOrFault
seen_record_checked page low ss s r = seen_checked s.card faults.OtherRecord (seen_first page low r ss) (Ok r)

check_is_seen : (page : Page) (low : Bool) (ts : List RecordType) (t : RecordType) (r : List ℕ) → checked_record page low ts t r ≡ seen_record_checked page low (map type_seen ts) (type_seen t) r
check_is_seen page low ts t r =
    record_checked t (first_type page low r ts) (Ok r) ∙ ap (λ (found : Option TypeSeen). seen_checked t.card faults.OtherRecord found (Ok r)) (first_is_seen page low r ts)

abbrev seen_typed : Page → Bool → List TypeSeen → List ℕ → List ℕ → TypeSeen → TextOrFault
seen_typed page low ss columns line s = text_and_then (bytes_of_characters page 0 columns) (λ r. text_and_then (seen_numbers line s.numbers (length columns) r) (seen_record_checked page low ss s))

typed_is_seen : (page : Page) (low : Bool) (ts : List RecordType) (columns line : List ℕ) (t : RecordType)
    → typed_record page low ts columns line t ≡ seen_typed page low (map type_seen ts) columns line (type_seen t)
typed_is_seen page low ts columns line t =
    then_same (bytes_of_characters page 0 columns) (λ r. text_and_then (with_numbers line t.numbers.items (length columns) r) (checked_record page low ts t))
    (λ r. text_and_then (seen_numbers line (map number_seen t.numbers.items) (length columns) r) (seen_record_checked page low (map type_seen ts) (type_seen t)))
    (λ r. ap (λ (o : TextOrFault). text_and_then o (checked_record page low ts t)) (numbers_are_seen line t.numbers.items (length columns) r)
    ∙ then_same (seen_numbers line (map number_seen t.numbers.items) (length columns) r) (checked_record page low ts t) (seen_record_checked page low (map type_seen ts) (type_seen t))
    (check_is_seen page low ts t))

abbrev seen_record : Page → Bool → List TypeSeen → ℕ → List ℕ → TextOrFault
seen_record page low ss n line =
    seen_of_type (seen_first pages.Ascii false (take n (widened n line)) ss) (seen_typed page low ss (take n (widened n line)) (trimmed (widened n line)))

record_is_seen : (page : Page) (low : Bool) (ts : List RecordType) (n : ℕ) (line : List ℕ) → record_of_line page low ts n line ≡ seen_record page low (map type_seen ts) n line
record_is_seen page low ts n line =
    let columns = take n (widened n line) in
    let whole = trimmed (widened n line) in
    type_is_seen (first_type pages.Ascii false columns ts) (typed_record page low ts columns whole) (seen_typed page low (map type_seen ts) columns whole) (typed_is_seen page low ts columns whole)
    ∙ ap (λ (found : Option TypeSeen). seen_of_type found (seen_typed page low (map type_seen ts) columns whole)) (first_is_seen pages.Ascii false columns ts)

-- ---- conversions

abbrev seen_lines : RecordFormat → LayoutSeen → ConversionSettings
seen_lines format s = record {
  framing = format.framing;
  most = s.length;
  text_of = λ r. if is_dropped format.dropped r then Ok None else made_text with_line_feed (seen_line format.page format.low_blank s.types (padded_to format.page s.length r));
}

lines_are_seen : (layout : Layout) (format : RecordFormat) → to_lines layout format ≡ seen_lines format (layout_seen layout)
lines_are_seen layout format =
    ap (λ (text : List ℕ → Made). record { framing = format.framing; most = layout.length; text_of = text })
    (fun_ext (λ r. ap (λ (o : TextOrFault). if is_dropped format.dropped r then Ok None else made_text with_line_feed o) (line_is_seen format.page format.low_blank layout.types.items (padded_to format.page layout.length r))))

abbrev seen_records : RecordFormat → LayoutSeen → ConversionSettings
seen_records format s = record {
  framing = framings.Lines;
  most = columns_seen s;
  text_of = λ line. made_text (frame format.framing) (seen_record format.page false s.types s.length line);
}

records_are_seen : (layout : Layout) (format : RecordFormat) → to_records layout format ≡ seen_records format (layout_seen layout)
records_are_seen layout format =
    ap₂ (λ (n : ℕ) (text : List ℕ → Made). record { framing = framings.Lines; most = n; text_of = text }) (columns_are_seen layout)
    (fun_ext (λ line. ap (made_text (frame format.framing)) (record_is_seen format.page false layout.types.items layout.length line)))

-- what a result has, or this
abbrev value_or : {E : Type 0} → LayoutSeen → Result LayoutSeen E → LayoutSeen
value_or s (Ok other) = other
value_or s (Err fault) = s

pub by_cards : CardsSayTheOutput
by_cards arguments deck input format one other e f =
    let same : layout_seen one ≡ layout_seen other = ap (value_or (layout_seen one)) (sym e ∙ f) in (
      ap (λ (way : ConversionSettings). conversion way input) (lines_are_seen one format ∙ ap (seen_lines format) same ∙ sym (lines_are_seen other format)),
      ap (λ (way : ConversionSettings). conversion way input) (records_are_seen one format ∙ ap (seen_records format) same ∙ sym (records_are_seen other format)),
    )
