-- The laws of the formats of first values, and what first values keep in plain words.
use Rattle.std.proofs.Common.{◌≡◌, ℕ, zero, suc, ◌^◌, ◌<◌, ◌≤◌, Bool, true, false, cond, List, [], ◌∷◌, ◌++◌, length, take, drop, Option, Some, None, Result, Ok, Err, ℤ, unsigned_abs, refl, sym, ap, subst, ◌∙◌, arith, inl, inr, leb, ltb, length-append}
use Rattle.std.specs.Prelude.{All}
use Rattle.std.proofs.lemmas.Bool.{le-ltb, ltb-false, leb-true, le-leb, and_parts, and_from}
use Rattle.std.proofs.lemmas.List.{length-take-le, length_push, take-append-le, drop-append-le, take-append-drop}
use Rattle.std.proofs.lemmas.Slice.Eq.{bytes_eq-Decides}
use Rattle.std.proofs.Math.Seq.{take-append_seam, drop-append_seam}
use Rattle.std.proofs.lemmas.List.Sums.{AllPass-from_list_all, list_all-from_AllPass}
use Rattle.std.specs.List.{list_all, AllPass}
use Rattle.std.specs.Str.{bytes_eq}
use Rattle.rpg_decimal_words.specs.Zoned.{number_in, zoned_text}
use Rattle.rpg_decimal.proofs.LawLemmas.{length-zoned}
use Rattle.rpg_program.specs.declared.form.FieldForm.{FieldForm}
use Rattle.rpg_program.specs.declared.form.Kind.{Kind}
use Rattle.rpg_program.specs.declared.form.Kind.TheVariants as kind
use Rattle.rpg_program.specs.Values.{Value, Number, Text}
use Rattle.rpg_object_format.specs.declared.fault.Code.{Code}
use Rattle.rpg_object_format.specs.declared.fault.Code.TheVariants.{CutShort, NotAllowed}
use Rattle.rpg_object_format.specs.declared.fault.Fault.{Fault}
use Rattle.rpg_object_format.specs.Format.{ends_early, ruled, times_with, AllAlong}
use Rattle.rpg_object_format.proofs.Laws.{IsBytes, Takes, IsFormat, IsBytes-rest, further, at_end, times_law, table_law, ruled_ok, ruled_err, ruled_stays, ruled_fails}
use Rattle.rpg_object_format.proofs.Rules.{chosen, stands_for, value_is}
use Rattle.rpg_program.specs.Kept.{IsCharacter, IsFieldRow, IsValueOf, AreEntriesOf, AreValuesOf}
use Rattle.rpg_text.specs.Texts.{is_character}
use Rattle.rpg_object.specs.FirstValues.{as_written, as_value, first_value_in, read_value, value_text, IsWrittenValue, value, entries_format, next_entries, later_fields, values_format}
use Rattle.rpg_object_format.proofs.Choices.{all_from_table, table_from_all}
use Rattle.rpg_object.proofs.Tables.{all_head, all_tail}
use Rattle.rpg_object.proofs.ZonedTexts.{number_in-zoned, number_in-below}

-- a character passes the test, and back
characters_kept : (text : List ℕ) → AllPass is_character text → All IsCharacter text
characters_kept text h k d lt =
    let t = and_parts (leb 32 _) (leb _ 126) (h k d lt) in
    record { lowest = leb-true _ _ t.0; highest = leb-true _ _ t.1 }

characters_from : (text : List ℕ) → All IsCharacter text → AllPass is_character text
characters_from text h k d lt =
    let c = h k d lt in
    and_from (leb 32 _) (leb _ 126) (le-leb _ _ c.lowest) (le-leb _ _ c.highest)

-- a text that is written for a number, and that number
written_is : (text : List ℕ) (o : Option ℤ) (n : ℤ) → as_written text o ≡ Ok n → (o ≡ Some n) × (text ≡ zoned_text (length text) n)
written_is text None n e = absurd cc
written_is text (Some m) n e =
    elim (chosen (bytes_eq text (zoned_text (length text) m)) (stands_for m) (Err NotAllowed) (stands_for n) e) [
      | inl w ↦ let k : m ≡ n = let h = w.1 in cc in (ap (λ (i : ℤ). Some i) k, subst (λ (i : ℤ). text ≡ zoned_text (length text) i) k ((bytes_eq-Decides text (zoned_text (length text) m)).0 w.0))
      | inr w ↦ absurd (let h = w.1 in cc)
    ]

value_is_number : (r : Result ℤ Code) (v : Value) → as_value r ≡ Ok v → (n : ℤ) × (r ≡ Ok n) × (v ≡ Number n)
value_is_number (Ok n) v e = (n, refl, let k : Number n ≡ v = cc in sym k)
value_is_number (Err c) v e = absurd cc

-- no number is written as no characters
long_enough : (text : List ℕ) (k : ℕ) (n : ℤ) → text ≡ zoned_text k n → 1 ≤ length text
long_enough text k n e = let l = ap length e ∙ length_push _ _ in omega arith

-- what was read as a value is the text of it
text_of_value : (k : Kind) (text : List ℕ) (v : Value) → first_value_in k text ≡ Ok v → (text ≡ value_text (length text) v) × IsWrittenValue k (length text) v
text_of_value kind.Number text v e =
    let a = value_is_number (as_written text (number_in text)) v e in
    let b = written_is text (number_in text) a.0 a.1 in
    subst (λ (w : Value). (text ≡ value_text (length text) w) × IsWrittenValue kind.Number (length text) w) (sym a.2) (b.1, (long_enough text (length text) a.0 b.1, number_in-below text a.0 b.0))
text_of_value kind.Text text v e =
    elim (chosen (list_all is_character text) (stands_for (Text text)) (Err NotAllowed) (stands_for v) e) [
      | inl w ↦ subst (λ (x : Value). (text ≡ value_text (length text) x) × IsWrittenValue kind.Text (length text) x) (value_is (Text text) v w.1) (refl, (refl, characters_kept text (AllPass-from_list_all is_character text w.0)))
      | inr w ↦ absurd (let h = w.1 in cc)
    ]

-- the value of a number's text is the number
number_of_text : (k : ℕ) (n : ℤ) → 1 ≤ k → unsigned_abs n < 10 ^ k → as_value (as_written (zoned_text k n) (number_in (zoned_text k n))) ≡ Ok (Number n)
number_of_text k n low below =
    let same : zoned_text (length (zoned_text k n)) n ≡ zoned_text k n = ap (λ (j : ℕ). zoned_text j n) (length-zoned k n low) in
    let equal : bytes_eq (zoned_text k n) (zoned_text (length (zoned_text k n)) n) ≡ true = (bytes_eq-Decides (zoned_text k n) (zoned_text (length (zoned_text k n)) n)).1 (sym same) in
    ap (λ (o : Option ℤ). as_value (as_written (zoned_text k n) o)) (number_in-zoned k n low below)
    ∙ ap (λ (b : Bool). as_value (cond b (Ok n) (Err NotAllowed))) equal

characters_of_text : (text : List ℕ) → AllPass is_character text → first_value_in kind.Text text ≡ Ok (Text text)
characters_of_text text h = ap (λ (b : Bool). cond b (stands_for (Text text)) (Err NotAllowed)) (list_all-from_AllPass is_character text h)

-- a value's text is as long as its field, and has the value
record IsTextOf (k : Kind) (len : ℕ) (v : Value) : Type 0 where
  size : length (value_text len v) ≡ len
  value : first_value_in k (value_text len v) ≡ Ok v

value_of_text : (k : Kind) (len : ℕ) (v : Value) → IsWrittenValue k len v → IsTextOf k len v
value_of_text kind.Number len (Number n) h = record { size = length-zoned len n h.0; value = number_of_text len n h.0 h.1 }
value_of_text kind.Number len (Text text) h = absurd h.1
value_of_text kind.Text len (Number n) h = absurd h
value_of_text kind.Text len (Text text) h = record { size = h.0; value = characters_of_text text (characters_from text h.1) }

abbrev found : Value × List ℕ → Result (Value × List ℕ) Fault
found x = Ok x

IsBytes-drop : (n : ℕ) (bytes : List ℕ) → IsBytes bytes → IsBytes (drop n bytes)
IsBytes-drop zero bytes h = h
IsBytes-drop (suc n) [] h = h
IsBytes-drop (suc n) (b ∷ bytes) h = IsBytes-drop n bytes (IsBytes-rest b bytes h)

pub value_law : (k : Kind) (len : ℕ) → IsFormat (value k len)
unfolding value
value_law k len = record { takes = takes; again = again; within = within; stays = stays; fails_alike = fails_alike }
  where
    answer : List ℕ → Result Value Code
    answer bytes = first_value_in k (take len bytes)

    takes : (bytes : List ℕ) (v : Value) (rest : List ℕ) → IsBytes bytes → read_value k len bytes ≡ Ok (v, rest) → Takes bytes (value_text len v) rest × IsWrittenValue k len v
    takes bytes v rest fits e =
        elim (chosen (ltb (length bytes) len) (Err ends_early) (ruled bytes (drop len bytes) (answer bytes)) (found (v, rest)) e) [
          | inl w ↦ absurd (let m = w.1 in cc)
          | inr w ↦
              let r = ruled_ok bytes (drop len bytes) rest (answer bytes) v w.1 in
              let t = text_of_value k (take len bytes) v r.0 in
              let long : len ≤ length bytes = ltb-false _ _ w.0 in
              let size : length (take len bytes) ≡ len = length-take-le len bytes long in
              let text : take len bytes ≡ value_text len v = subst (λ (n : ℕ). take len bytes ≡ value_text n v) size t.0 in
              (record { parts = sym (take-append-drop len bytes) ∙ ap (λ (x : List ℕ). x ++ drop len bytes) text ∙ ap (λ (x : List ℕ). value_text len v ++ x) r.1; rest_fits = subst IsBytes r.1 (IsBytes-drop len bytes fits) }, subst (λ (n : ℕ). IsWrittenValue k n v) size t.1)
        ]

    again : (v : Value) (rest : List ℕ) → IsWrittenValue k len v → read_value k len (value_text len v ++ rest) ≡ Ok (v, rest)
    again v rest h =
        let text = value_text len v in
        let is = value_of_text k len v h in
        let long : ltb (length (text ++ rest)) len ≡ false = le-ltb _ _ (omega (arith, is.size, length-append text rest)) in
        let front : take len (text ++ rest) ≡ text = ap (λ (n : ℕ). take n (text ++ rest)) (sym is.size) ∙ take-append_seam text rest in
        let back : drop len (text ++ rest) ≡ rest = ap (λ (n : ℕ). drop n (text ++ rest)) (sym is.size) ∙ drop-append_seam text rest in
        rw (long, front, back, is.value) refl

    within : (bytes : List ℕ) (d : Fault) → IsBytes bytes → read_value k len bytes ≡ Err d → d.left ≤ length bytes
    within bytes d fits e =
        elim (chosen (ltb (length bytes) len) (Err ends_early) (ruled bytes (drop len bytes) (answer bytes)) (Err d) e) [
          | inl w ↦ let same : ends_early ≡ d = let m = w.1 in cc in let l : 0 ≡ d.left = ap (λ (f : Fault). f.left) same in omega arith
          | inr w ↦ ruled_err bytes (drop len bytes) (answer bytes) d w.1
        ]

    stays : (bytes more : List ℕ) (v : Value) (rest : List ℕ) → read_value k len bytes ≡ Ok (v, rest) → read_value k len (bytes ++ more) ≡ Ok (v, rest ++ more)
    stays bytes more v rest e =
        elim (chosen (ltb (length bytes) len) (Err ends_early) (ruled bytes (drop len bytes) (answer bytes)) (found (v, rest)) e) [
          | inl w ↦ absurd (let k = w.1 in cc)
          | inr w ↦
              let long : len ≤ length bytes = ltb-false _ _ w.0 in
              let longer : ltb (length (bytes ++ more)) len ≡ false = le-ltb _ _ (omega (arith, length-append bytes more)) in
              rw (longer, take-append-le len bytes more long, drop-append-le len bytes more long) (ruled_stays bytes (bytes ++ more) (drop len bytes) rest more (answer bytes) v w.1)
        ]

    fails_alike : (bytes more : List ℕ) (d : Fault) → read_value k len bytes ≡ Err d → (d.code ≡ CutShort → ⊥) → read_value k len (bytes ++ more) ≡ Err (further (length more) d)
    fails_alike bytes more d e not_end =
        elim (chosen (ltb (length bytes) len) (Err ends_early) (ruled bytes (drop len bytes) (answer bytes)) (Err d) e) [
          | inl w ↦ absurd (at_end {A = Value × List ℕ} d w.1 not_end)
          | inr w ↦
              let long : len ≤ length bytes = ltb-false _ _ w.0 in
              let longer : ltb (length (bytes ++ more)) len ≡ false = le-ltb _ _ (omega (arith, length-append bytes more)) in
              rw (longer, take-append-le len bytes more long) (ruled_fails bytes (drop len bytes) (drop len (bytes ++ more)) more (answer bytes) d w.1)
        ]

pub entries_law : (f : FieldForm) → IsFormat (entries_format f)
unfolding entries_format
entries_law f = table_law f.entries (value f.kind f.length) (value_law f.kind f.length)

next_law : (fs : List FieldForm) → IsFormat (next_entries fs)
next_law [] = table_law 0 (value kind.Text 1) (value_law kind.Text 1)
next_law (f ∷ fs) = entries_law f

pub values_law : (fs : List FieldForm) → IsFormat (values_format fs)
unfolding values_format
values_law fs = times_law next_entries later_fields next_law (length fs) fs

-- ---- what first values keep

value_kept : (k : Kind) (len : ℕ) (v : Value) → (value k len).Holds v → IsValueOf k len v
unfolding value
value_kept kind.Number len v h = h.1
value_kept kind.Text len v h = h

entries_kept : (f : FieldForm) (vs : List Value) → (entries_format f).Holds vs → AreEntriesOf f vs
unfolding entries_format times_with
entries_kept f vs h = record { number = h.0; each = all_from_table (value f.kind f.length) (IsValueOf f.kind f.length) (value_kept f.kind f.length) f.entries vs h }

values_along : (fs : List FieldForm) (vs : List (List Value)) → length vs ≡ length fs → AllAlong (λ s v. (next_entries s).Holds v) later_fields fs vs → AreValuesOf fs vs
values_along [] [] len h = tt
values_along [] (v ∷ vs) len h = absurd (omega arith)
values_along (f ∷ fs) [] len h = absurd (omega arith)
values_along (f ∷ fs) (v ∷ vs) len h = (entries_kept f v h.0, values_along fs vs (omega arith) h.1)

pub values_kept : (fs : List FieldForm) (vs : List (List Value)) → (values_format fs).Holds vs → AreValuesOf fs vs
unfolding values_format times_with
values_kept fs vs h = values_along fs vs h.0 h.1

value_from : (k : Kind) (len : ℕ) → 1 ≤ len → (v : Value) → IsValueOf k len v → (value k len).Holds v
unfolding value
value_from kind.Number len some v h = (some, h)
value_from kind.Text len some v h = h

entries_from : (f : FieldForm) (vs : List Value) → 1 ≤ f.length → AreEntriesOf f vs → (entries_format f).Holds vs
unfolding entries_format
entries_from f vs some h = rw (← h.number) (table_from_all (value f.kind f.length) (IsValueOf f.kind f.length) (value_from f.kind f.length some) vs h.each)

from_along : (fs : List FieldForm) (vs : List (List Value)) → All IsFieldRow fs → AreValuesOf fs vs → (length vs ≡ length fs) × AllAlong (λ s v. (next_entries s).Holds v) later_fields fs vs
from_along [] [] rows h = (refl, tt)
from_along [] (v ∷ vs) rows h = absurd h
from_along (f ∷ fs) [] rows h = absurd h
from_along (f ∷ fs) (v ∷ vs) rows h =
    let more = from_along fs vs (all_tail IsFieldRow f fs rows) h.1 in
    (ap suc more.0, (entries_from f v (all_head IsFieldRow f fs rows).shortest h.0, more.1))

pub values_from : (fs : List FieldForm) (vs : List (List Value)) → All IsFieldRow fs → AreValuesOf fs vs → (values_format fs).Holds vs
unfolding values_format times_with
values_from fs vs rows h = from_along fs vs rows h
