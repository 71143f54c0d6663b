-- The laws of the format of fields, and what fields keep in plain words.
use Rattle.std.proofs.Common.{◌≡◌, ℕ, ◌*◌, ◌^◌, ◌<◌, ◌≤◌, Bool, true, false, cond, List, [], ◌∷◌, length, Ok, Err, refl, sym, subst, ◌∙◌, arith, inl, inr, leb}
use Rattle.std.specs.Prelude.{All}
use Rattle.std.proofs.lemmas.Bool.{leb-true, le-leb, and_parts, and_from}
use Rattle.rpg_program.specs.declared.form.Class.{Class}
use Rattle.rpg_program.specs.declared.form.Class.TheVariants as classes
use Rattle.rpg_program.specs.declared.form.FieldForm.{FieldForm}
use Rattle.rpg_program.specs.declared.form.Kind.{Kind}
use Rattle.rpg_program.specs.declared.form.Kind.TheVariants as kinds
use Rattle.rpg_object_format.specs.declared.fault.Code.TheVariants.{NotAllowed, PastLimit}
use Rattle.rpg_object_format.specs.Format.{byte, two_bytes, pair, row, times_with, AllAlong}
use Rattle.rpg_object_format.specs.Numbers.{flag_number}
use Rattle.rpg_object_format.proofs.Laws.{IsFormat, IsRule, byte_law, two_law, pair_law, row_law, times_law}
use Rattle.rpg_object_format.proofs.Rules.{chosen, stands_for, guarded, choice_rule, number_law, byte_where_law}
use Rattle.rpg_program.specs.Kept.{may_have_entries, length_limit, AreDecimals, IsDateForm, IsFieldRow, storage_of}
use Rattle.rpg_text.specs.Texts.{is_between}
use Rattle.rpg_object.specs.Fields.{kind_number, kind_by_number, class_number, classes_of, class_of, shortest, longest_field, most_decimals, is_decimals, sequences_of, sequence_of, most_entries, entries_within, field, storage_after, fields}
use Rattle.rpg_object.specs.FirstValues.{HasLength}
use Rattle.rpg_object_format.proofs.Choices.{passed, within, taken, between}
use Rattle.rpg_object.proofs.Tables.{all_from_along, all_head, all_tail}

-- ---- laws of the format

entries_rule : (most len storage : ℕ) → IsRule (entries_within most len storage) (λ n. n)
entries_rule most len storage n x e =
    elim (chosen (is_between 1 most n) (cond (leb (len * n) storage) (stands_for n) (Err PastLimit)) (Err NotAllowed) (stands_for x) e) [
      | inl w ↦ sym (guarded (leb (len * n) storage) PastLimit n x w.1)
      | inr w ↦ absurd (let k = w.1 in cc)
    ]

pub field_law : (storage : ℕ) → IsFormat (field storage)
unfolding field
field_law storage =
    row_law _ _ _ (λ a h. refl) (λ x. refl)
    (pair_law _ _ (byte_law _ _ (choice_rule (kinds.Number ∷ kinds.Text ∷ []) kind_number)) (λ k.
    pair_law _ _ (byte_law _ _ (choice_rule (classes_of k) class_number)) (λ c.
    pair_law _ _ (number_law (is_between (shortest c) (longest_field k c))) (λ len.
    pair_law _ _ (byte_where_law (is_decimals (most_decimals k c) len)) (λ decimals.
    pair_law _ _ (byte_law _ _ (choice_rule (sequences_of c) flag_number)) (λ is_ascending.
    two_law _ _ (entries_rule (most_entries c) len storage)))))))

pub fields_law : (n : ℕ) → IsFormat (fields n)
unfolding fields
fields_law n = times_law field storage_after field_law n 65535

-- ---- what fields keep

least : (c : Class) (len : ℕ) → shortest c ≤ len → 1 ≤ len
least classes.Plain len h = h
least classes.Array len h = h
least classes.Table len h = h
least classes.Constant len h = h
least classes.Date len h = omega arith

most : (k : Kind) (c : Class) (len : ℕ) → len ≤ longest_field k c → len ≤ length_limit k
most k classes.Plain len h = h
most k classes.Array len h = h
most k classes.Table len h = h
most k classes.Constant len h = h
most kinds.Number classes.Date len h = omega arith
most kinds.Text classes.Date len h = omega arith

few_decimals : (c : Class) (n : ℕ) → n ≤ most_decimals kinds.Number c → n ≤ 9
few_decimals classes.Plain n h = h
few_decimals classes.Array n h = h
few_decimals classes.Table n h = h
few_decimals classes.Constant n h = h
few_decimals classes.Date n h = omega arith

are_decimals : (k : Kind) (c : Class) (len n : ℕ) → n ≤ most_decimals k c → n ≤ len → AreDecimals k len n
are_decimals kinds.Number c len n few in_length = (few_decimals c n few, in_length)
are_decimals kinds.Text c len n few in_length = omega arith

date_kind : (k : Kind) → class_of k (class_number classes.Date) ≡ Ok classes.Date → k ≡ kinds.Number
date_kind kinds.Number e = refl
date_kind kinds.Text e = absurd cc

date_decimals : (k : Kind) → most_decimals k classes.Date ≤ 0
date_decimals kinds.Number = omega arith
date_decimals kinds.Text = omega arith

-- the numbers of the row of a field
record AreNumbers (k : Kind) (c : Class) (len decimals : ℕ) : Type 0 where
  class : class_of k (class_number c) ≡ Ok c
  low : shortest c ≤ len
  high : len ≤ longest_field k c
  few : decimals ≤ most_decimals k c
  in_length : decimals ≤ len

date_from : (f : FieldForm) (c : Class) → c ≡ classes.Date → AreNumbers f.kind c f.length f.decimals → IsDateForm f
date_from f c e h =
    let n = subst (λ (d : Class). AreNumbers f.kind d f.length f.decimals) e h in
    let none = date_decimals f.kind in
    record { kind = date_kind f.kind n.class; digits = omega (arith, n.low, n.high); decimals = omega (arith, n.few) }

unordered : (c : Class) (b : Bool) → may_have_entries c ≡ false → sequence_of c (flag_number b) ≡ Ok b → b ≡ false
unordered c false e h = refl
unordered c true e h = absurd (let k = rw e at h in cc)

single : (c : Class) (n : ℕ) → may_have_entries c ≡ false → n ≤ most_entries c → n ≤ 1
single c n e h = rw e at h

some_entries : (c : Class) → most_entries c ≤ 9999
some_entries classes.Plain = omega arith
some_entries classes.Array = omega arith
some_entries classes.Table = omega arith
some_entries classes.Constant = omega arith
some_entries classes.Date = omega arith

record AreEntries (most len storage n : ℕ) : Type 0 where
  low : 1 ≤ n
  high : n ≤ most
  fit : len * n ≤ storage

entries_are : (most len storage n : ℕ) → entries_within most len storage n ≡ Ok n → AreEntries most len storage n
entries_are most len storage n e =
    elim (chosen (is_between 1 most n) (cond (leb (len * n) storage) (stands_for n) (Err PastLimit)) (Err NotAllowed) (stands_for n) e) [
      | inl w ↦ elim (chosen (leb (len * n) storage) (stands_for n) (Err PastLimit) (stands_for n) w.1) [
        | inl u ↦ let k = and_parts (leb 1 n) (leb n most) w.0 in record { low = leb-true _ _ k.0; high = leb-true _ _ k.1; fit = leb-true _ _ u.0 }
        | inr u ↦ absurd (let k = u.1 in cc)
      ]
      | inr w ↦ absurd (let k = w.1 in cc)
    ]

pub field_kept : (s : ℕ) (f : FieldForm) → (field s).Holds f → IsFieldRow f
unfolding field row pair byte two_bytes
field_kept s f h =
    let len = within (shortest f.class) (longest_field f.kind f.class) f.length h.1.1.0.0 in
    let decimals = and_parts (leb f.decimals (most_decimals f.kind f.class)) (leb f.decimals f.length) (passed (is_decimals (most_decimals f.kind f.class) f.length) f.decimals h.1.1.1.0.0) in
    let few = leb-true _ _ decimals.0 in
    let in_length = leb-true _ _ decimals.1 in
    let n = entries_are (most_entries f.class) f.length s f.entries h.1.1.1.1.1.0 in
    let limit = some_entries f.class in
    record {
      shortest = least f.class f.length len.0;
      longest = most f.kind f.class f.length len.1;
      decimals = are_decimals f.kind f.class f.length f.decimals few in_length;
      date = λ e. date_from f f.class e (record { class = h.1.0.0; low = len.0; high = len.1; few = few; in_length = in_length });
      fewest = n.low;
      most = omega (arith, n.high);
      single = λ e. let one = single f.class f.entries e n.high in omega (arith, n.low);
      unordered = λ e. unordered f.class f.is_ascending e h.1.1.1.1.0.0;
    }

field_fits : (s : ℕ) (f : FieldForm) → (field s).Holds f → f.length * f.entries ≤ s
unfolding field row pair byte two_bytes
field_fits s f h = (entries_are (most_entries f.class) f.length s f.entries h.1.1.1.1.1.0).fit

storage_along : (s : ℕ) (fs : List FieldForm) → AllAlong (λ t f. (field t).Holds f) storage_after s fs → storage_of fs ≤ s
storage_along s [] h = omega arith
storage_along s (f ∷ fs) h = let here = field_fits s f h.0 in let more = storage_along (storage_after s f) fs h.1 in omega arith

pub fields_kept : (n : ℕ) (fs : List FieldForm) → (fields n).Holds fs → All IsFieldRow fs
unfolding fields times_with
fields_kept n fs h = all_from_along (λ s f. (field s).Holds f) IsFieldRow storage_after field_kept 65535 fs h.1

pub storage_kept : (n : ℕ) (fs : List FieldForm) → (fields n).Holds fs → storage_of fs ≤ 65535
unfolding fields times_with
storage_kept n fs h = storage_along 65535 fs h.1

length_of : (f : FieldForm) → IsFieldRow f → HasLength f
length_of f h = record { some = h.shortest; few = λ e. subst (λ (k : Kind). f.length ≤ length_limit k) e h.longest }

pub lengths_kept : (fs : List FieldForm) → All IsFieldRow fs → All HasLength fs
lengths_kept fs h k d lt = length_of _ (h k d lt)

pub fields_lengths : (n : ℕ) (fs : List FieldForm) → (fields n).Holds fs → All HasLength fs
fields_lengths n fs h = lengths_kept fs (fields_kept n fs h)

-- ---- what keeps that is a field

kind_from : (k : Kind) → (kind_by_number (kind_number k) ≡ Ok k) × (kind_number k < 2 ^ 8)
kind_from kinds.Number = (refl, omega arith)
kind_from kinds.Text = (refl, omega arith)

class_from : (k : Kind) (c : Class) → (c ≡ classes.Date → k ≡ kinds.Number) → (class_of k (class_number c) ≡ Ok c) × (class_number c < 2 ^ 8)
class_from kinds.Number classes.Plain h = (refl, omega arith)
class_from kinds.Number classes.Array h = (refl, omega arith)
class_from kinds.Number classes.Table h = (refl, omega arith)
class_from kinds.Number classes.Constant h = (refl, omega arith)
class_from kinds.Number classes.Date h = (refl, omega arith)
class_from kinds.Text classes.Plain h = (refl, omega arith)
class_from kinds.Text classes.Array h = (refl, omega arith)
class_from kinds.Text classes.Table h = (refl, omega arith)
class_from kinds.Text classes.Constant h = (refl, omega arith)
class_from kinds.Text classes.Date h = absurd (let k : kinds.Text ≡ kinds.Number = h refl in cc)

-- how long a field is, and how many decimals it has
record IsSized (k : Kind) (c : Class) (len decimals : ℕ) : Type 0 where
  low : shortest c ≤ len
  high : len ≤ longest_field k c
  few : decimals ≤ most_decimals k c
  in_length : decimals ≤ len

number_sized : (c : Class) (f : FieldForm) → f.class ≡ c → 1 ≤ f.length → f.length ≤ 15 → f.decimals ≤ 9 → f.decimals ≤ f.length → (c ≡ classes.Date → IsDateForm f) → IsSized kinds.Number c f.length f.decimals
number_sized classes.Plain f e a b d l date = record { low = a; high = b; few = d; in_length = l }
number_sized classes.Array f e a b d l date = record { low = a; high = b; few = d; in_length = l }
number_sized classes.Table f e a b d l date = record { low = a; high = b; few = d; in_length = l }
number_sized classes.Constant f e a b d l date = record { low = a; high = b; few = d; in_length = l }
number_sized classes.Date f e a b d l date = let t = date refl in record { low = omega (arith, t.digits); high = omega (arith, t.digits); few = omega (arith, t.decimals); in_length = l }

text_sized : (c : Class) (f : FieldForm) → f.kind ≡ kinds.Text → 1 ≤ f.length → f.length ≤ 256 → f.decimals ≡ 0 → (c ≡ classes.Date → IsDateForm f) → IsSized kinds.Text c f.length f.decimals
text_sized classes.Plain f e a b d date = record { low = a; high = b; few = omega arith; in_length = omega arith }
text_sized classes.Array f e a b d date = record { low = a; high = b; few = omega arith; in_length = omega arith }
text_sized classes.Table f e a b d date = record { low = a; high = b; few = omega arith; in_length = omega arith }
text_sized classes.Constant f e a b d date = record { low = a; high = b; few = omega arith; in_length = omega arith }
text_sized classes.Date f e a b d date = absurd (let k : kinds.Text ≡ kinds.Number = sym e ∙ (date refl).kind in cc)

form_sized : (k : Kind) (f : FieldForm) → f.kind ≡ k → 1 ≤ f.length → f.length ≤ length_limit k → AreDecimals k f.length f.decimals → (f.class ≡ classes.Date → IsDateForm f) → IsSized k f.class f.length f.decimals
form_sized kinds.Number f e a b d date = number_sized f.class f refl a b d.0 d.1 date
form_sized kinds.Text f e a b d date = text_sized f.class f e a b d date

sequence_from : (c : Class) (b : Bool) → (may_have_entries c ≡ false → b ≡ false) → (sequence_of c (flag_number b) ≡ Ok b) × (flag_number b < 2 ^ 8)
sequence_from classes.Plain b h = rw (h refl) (refl, omega arith)
sequence_from classes.Constant b h = rw (h refl) (refl, omega arith)
sequence_from classes.Date b h = rw (h refl) (refl, omega arith)
sequence_from classes.Array true h = (refl, omega arith)
sequence_from classes.Array false h = (refl, omega arith)
sequence_from classes.Table true h = (refl, omega arith)
sequence_from classes.Table false h = (refl, omega arith)

entries_limit : (c : Class) (n : ℕ) → n ≤ 9999 → (may_have_entries c ≡ false → n ≡ 1) → n ≤ most_entries c
entries_limit classes.Plain n h one = let e = one refl in omega arith
entries_limit classes.Constant n h one = let e = one refl in omega arith
entries_limit classes.Date n h one = let e = one refl in omega arith
entries_limit classes.Array n h one = h
entries_limit classes.Table n h one = h

entries_from : (limit len storage n : ℕ) → 1 ≤ n → n ≤ limit → len * n ≤ storage → entries_within limit len storage n ≡ Ok n
entries_from limit len storage n low high fit = rw (and_from (leb 1 n) (leb n limit) (le-leb 1 n low) (le-leb n limit high), le-leb (len * n) storage fit) refl

length_small : (k : Kind) → length_limit k ≤ 256
length_small kinds.Number = omega arith
length_small kinds.Text = omega arith

decimals_small : (k : Kind) (len n : ℕ) → AreDecimals k len n → n ≤ 9
decimals_small kinds.Number len n h = h.0
decimals_small kinds.Text len n h = omega arith

pub field_from : (s : ℕ) (f : FieldForm) → IsFieldRow f → f.length * f.entries ≤ s → (field s).Holds f
unfolding field row pair byte two_bytes
field_from s f h storage =
    let z = form_sized f.kind f refl h.shortest h.longest h.decimals h.date in
    let small = length_small f.kind in
    let few = decimals_small f.kind f.length f.decimals h.decimals in
    let len = between (shortest f.class) (longest_field f.kind f.class) f.length z.low z.high in
    let decimals = taken (is_decimals (most_decimals f.kind f.class) f.length) f.decimals (and_from (leb f.decimals (most_decimals f.kind f.class)) (leb f.decimals f.length) (le-leb _ _ z.few) (le-leb _ _ z.in_length)) in
    let entries = entries_from (most_entries f.class) f.length s f.entries h.fewest (entries_limit f.class f.entries h.most h.single) storage in (
      kind_from f.kind,
      (
        class_from f.kind f.class (λ e. (h.date e).kind),
        (
          (len, omega (arith, h.longest)),
          ((decimals, omega arith), (sequence_from f.class f.is_ascending h.unordered, (entries, omega (arith, h.most)))),
        ),
      ),
    )

fields_along : (s : ℕ) (fs : List FieldForm) → All IsFieldRow fs → storage_of fs ≤ s → AllAlong (λ t f. (field t).Holds f) storage_after s fs
fields_along s [] h storage = tt
fields_along s (f ∷ fs) h storage = (field_from s f (all_head IsFieldRow f fs h) (omega arith), fields_along (storage_after s f) fs (all_tail IsFieldRow f fs h) (omega arith))

pub fields_from : (fs : List FieldForm) → All IsFieldRow fs → storage_of fs ≤ 65535 → (fields (length fs)).Holds fs
unfolding fields times_with
fields_from fs h storage = (refl, fields_along 65535 fs h storage)
