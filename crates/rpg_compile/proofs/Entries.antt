-- The entries of a table on the cards of its deck: as many as it has, each a value of its kind and length.
use Rattle.std.proofs.Common.{◌≡◌, ℕ, ◌+◌, ◌-◌, ◌*◌, ◌^◌, ◌<◌, ◌≤◌, ℤ, unsigned_abs, Bool, true, false, cond, List, [], ◌∷◌, map, length, drop, slice_range, All, Option, None, Some, refl, sym, ◌∙◌, subst, subst₂, arith, length-append, length-drop, length-take, mul-le-mul_right}
use Rattle.std.proofs.lemmas.List.{length-map}
use Rattle.std.proofs.lemmas.List.Elements.{All-append, All-drop, All-map, All-nil, All-take, All-weaker}
use Rattle.std.proofs.lemmas.List.FromFn.{get_or-range_with_len, length-map-range_with_len, length-range_with_len}
use Rattle.std.proofs.lemmas.Option.{cond_some}
use Rattle.std.specs.List.{flat_map, range_with_len}
use Rattle.std.specs.Option.{option_map}
use Rattle.std.specs.Prelude.{unwrap_or}
use Rattle.rpg_cards.specs.Plain.{Each}
use Rattle.rpg_cards.specs.Names.{form_with, sized, table_class, table_form}
use Rattle.rpg_program.specs.Input.{value_read}
use Rattle.rpg_program.specs.Values.{Number}
use Rattle.rpg_program.specs.declared.form.FieldForm.{FieldForm}
use Rattle.rpg_program.specs.declared.form.Kind.{Kind}
use Rattle.rpg_program.specs.declared.form.Kind.TheVariants as kind
use Rattle.rpg_decimal_words.specs.Zoned.{number_in}
use Rattle.rpg_faults_data.specs.Data.{data_entries, entries_on, entry_on}
use Rattle.rpg_program.specs.Kept.{AreEntriesOf, IsCharacter, IsValueOf}
use Rattle.rpg_sheet_specs.specs.declared.extension.TableSpec.{TableSpec}
use Rattle.rpg_text.specs.Texts.{is_between}
use Rattle.rpg_compile_program.specs.Data.{entry_value, first_of_kind, kind_by}
use Rattle.rpg_compile_program.specs.Ranges.{IsDataText}
use Rattle.rpg_compile.proofs.Constants.{all_characters}
use Rattle.rpg_compile.proofs.Filled.{first_of_kind_fits}

-- ---- columns of a card

pub record IsText (len : ℕ) (text : List ℕ) : Type 0 where
  pub long : length text ≡ len
  pub characters : All IsCharacter text

part_fits : (card : List ℕ) (start len : ℕ) → IsDataText card → start + len ≤ 80 → IsText len (slice_range card start (start + len))
part_fits card start len card_fits fits = record {
  long = let columns = card_fits.columns in omega (arith, length-take (start + len - start) (drop start card), length-drop start card);
  characters = All-take IsCharacter (start + len - start) (drop start card) (All-drop IsCharacter start card (all_characters card card_fits.characters));
}

-- ---- the entries on the cards of a deck

below : (n : ℕ) → All (λ i. i < n) (range_with_len 0 n)
below n k d less =
    let inside : k < n = omega (arith, length-range_with_len 0 n) in
    let at = get_or-range_with_len 0 n k d inside in
    omega arith

module _ (per_card width from len : ℕ) (room : per_card * width ≤ 80) (inside : from + len ≤ width) where
  entry_fits : (card : List ℕ) → IsDataText card → (i : ℕ) → i < per_card → IsText len (entry_on width from len card i)
  entry_fits card h i less =
      let rows : (i + 1) * width ≤ per_card * width = mul-le-mul_right width (omega arith) in
      part_fits card (i * width + from) len h (omega arith)

  on_card : (card : List ℕ) → IsDataText card → All (IsText len) (entries_on per_card width from len card)
  on_card card h =
      All-map (IsText len) (entry_on width from len card) (range_with_len 0 per_card)
      (All-weaker (λ i. i < per_card) (λ i. IsText len (entry_on width from len card i)) (entry_fits card h) (range_with_len 0 per_card) (below per_card))

  on_cards : (deck : List (List ℕ)) → Each IsDataText deck → All (IsText len) (flat_map (entries_on per_card width from len) deck)
  on_cards [] h = All-nil (IsText len)
  on_cards (card ∷ deck) h =
      All-append (IsText len) (entries_on per_card width from len card) (flat_map (entries_on per_card width from len) deck) (on_card card h.0) (on_cards deck h.1)

  how_many : (deck : List (List ℕ)) → length (flat_map (entries_on per_card width from len) deck) ≡ length deck * per_card
  how_many [] = omega arith
  how_many (card ∷ deck) =
      let here = length-map-range_with_len (entry_on width from len card) 0 per_card in
      let later = how_many deck in
      let both = length-append (entries_on per_card width from len card) (flat_map (entries_on per_card width from len) deck) in
      omega arith

  pub entries_fit : (n : ℕ) (deck : List (List ℕ)) → Each IsDataText deck → All (IsText len) (data_entries n per_card width from len deck)
  entries_fit n deck h = All-take (IsText len) n (flat_map (entries_on per_card width from len) deck) (on_cards deck h)

  pub entries_there : (n : ℕ) (deck : List (List ℕ)) → n ≤ length deck * per_card → length (data_entries n per_card width from len deck) ≡ n
  entries_there n deck enough = let all = how_many deck in omega (arith, length-take n (flat_map (entries_on per_card width from len) deck))

-- ---- the value of an entry

-- a number that a text spells has no more digits than the text
abbrev pub FitsText : Type 0
FitsText = (text : List ℕ) (n : ℤ) → number_in text ≡ Some n → unsigned_abs n < 10 ^ length text

number_fits : FitsText → (len : ℕ) (text : List ℕ) → length text ≡ len → IsValueOf kind.Number len (unwrap_or (option_map Number (number_in text)) (first_of_kind kind.Number len))
number_fits spelled len text long = by (number_in text) refl
  where
    by : (o : Option ℤ) → number_in text ≡ o → IsValueOf kind.Number len (unwrap_or (option_map Number o) (first_of_kind kind.Number len))
    by None is = first_of_kind_fits kind.Number len
    by (Some n) is = subst (λ k. unsigned_abs n < 10 ^ k) long (spelled text n is)

value_fits : FitsText → (t : TableSpec) (text : List ℕ) → IsText t.length text → IsValueOf (kind_by t.decimals) t.length (entry_value t text)
value_fits spelled t text h = by t.decimals
  where
    by : (o : Option ℕ) → IsValueOf (kind_by o) t.length (unwrap_or (value_read (kind_by o) text) (first_of_kind (kind_by o) t.length))
    by None = (h.long, h.characters)
    by (Some decimals) = number_fits spelled t.length text h.long

-- ---- the values of a table

-- what the form of a table says of its entries
record HasEntries (n : ℕ) (k : Kind) (len : ℕ) (form : FieldForm) : Type 0 where
  alike : form.kind ≡ k
  long : form.length ≡ len
  many : form.entries ≡ n

form_says : (n : ℕ) (t : TableSpec) (form : FieldForm) → table_form n t ≡ Some form → HasEntries n (kind_by t.decimals) t.length form
form_says n t form e = by (is_between 1 9999 n) t.decimals e
  where
    made : Kind → ℕ → ℕ → FieldForm
    made = form_with (table_class t.name) t.ascending n

    by : (b : Bool) (o : Option ℕ) → cond b (sized made t.length o) None ≡ Some form → HasEntries n (kind_by o) t.length form
    by false o e = absurd cc
    by true None e = let is = (cond_some _ _ form e).1 in record { alike = cc; long = cc; many = cc }
    by true (Some decimals) e = let is = (cond_some _ _ form e).1 in record { alike = cc; long = cc; many = cc }

pub table_fits : FitsText → (n per_card width from : ℕ) (t : TableSpec) (form : FieldForm) (deck : List (List ℕ)) → table_form n t ≡ Some form
    → per_card * width ≤ 80 → from + t.length ≤ width → n ≤ length deck * per_card → Each IsDataText deck
    → AreEntriesOf form (map (entry_value t) (data_entries n per_card width from t.length deck))
table_fits spelled n per_card width from t form deck is room inside enough texts =
    let says = form_says n t form is in
    let found = data_entries n per_card width from t.length deck in
    let fit : All (IsValueOf (kind_by t.decimals) t.length) (map (entry_value t) found) =
    All-map (IsValueOf (kind_by t.decimals) t.length) (entry_value t) found
    (All-weaker (IsText t.length) (λ text. IsValueOf (kind_by t.decimals) t.length (entry_value t text)) (value_fits spelled t) found (entries_fit per_card width from t.length room inside n deck texts)) in
    record {
      number = length-map found (entry_value t) ∙ entries_there per_card width from t.length room inside n deck enough ∙ sym says.many;
      each = subst₂ (λ k len. All (IsValueOf k len) (map (entry_value t) found)) (sym says.alike) (sym says.long) fit;
    }
