-- What a store in one area finds and leaves.
use Rattle.std.proofs.Common.{◌≡◌, ℕ, ℤ, ◌+◌, ◌-◌, ◌≤◌, List, ◌++◌, length, take, drop, slice_range, Some, sym, ap, ◌∙◌, subst, arith, length-take, length-drop}
use Rattle.std.specs.FinMap as maps
use Rattle.rpg_decimal_words.specs.Zoned.{spelled_number, zoned_text, Spells}
use Rattle.rpg_store.specs.Contents.{IsEntry}
use Rattle.rpg_program.specs.Values.{Value, Number, Text, characters_of, number_of}
use Rattle.rpg_program.specs.declared.form.Kind.{Kind}
use Rattle.rpg_program.specs.declared.form.Kind.TheVariants as kinds
use Rattle.rpg_store.specs.Area.{AreaPart, bytes_in, length_in, parts, start, text_value, IsArea}
use Rattle.rpg_store.specs.Written.{IsWritten}
use Rattle.rpg_store.specs.Flat.{Flat, flat_contents, written_at}
use Rattle.rpg_store.specs.Slots.{forms_of, slot_at}
use Rattle.rpg_store.specs.declared.slot.Slot.{Slot}
use Rattle.rpg_store.proofs.ByPart.{At, at, is_number, is_text}

abbrev pub flat : List Slot → List ℕ → Flat
flat slots area = record { slots = slots; area = area }

pub of_store : (slots : List Slot) (area : List ℕ) (s : Flat) (q e : ℕ) (v : Value) → flat slots area ≡ s → maps.get (flat_contents s) (q, e) ≡ Some v → At slots area q e v
of_store slots area s q e v is h = at slots area q e v (ap (λ (t : Flat). maps.get (flat_contents t) (q, e)) is ∙ h)

pub is_entry : (slots rs : List Slot) (area : List ℕ) (q e : ℕ) (v : Value) → rs ≡ slots → At slots area q e v → IsEntry (forms_of rs) (q, e)
is_entry slots rs area q e v same a = subst (λ (xs : List Slot). IsEntry (forms_of xs) (q, e)) (sym same) (a.place, a.entry)

-- where the part begins and ends
from_is : (slots ss : List Slot) (area : List ℕ) (q e : ℕ) (v : Value) (from : ℕ) → ss ≡ slots → (a : At slots area q e v) → from ≡ start ss (q, e) → from ≡ a.part.at
from_is slots ss area q e v from same a f = f ∙ ap (λ xs. start xs (q, e)) same ∙ sym a.begins

to_is : (slots ss : List Slot) (area : List ℕ) (q e : ℕ) (v : Value) (to : ℕ) → ss ≡ slots → (a : At slots area q e v) → to ≡ start ss (q, e) + length_in (slot_at ss q) → to ≡ a.part.at + a.part.len
to_is slots ss area q e v to same a t = t ∙ ap (λ xs. start xs (q, e) + length_in (slot_at xs q)) same ∙ let b = a.begins in let l = a.long in omega arith

pub bytes_are : (area : List ℕ) (p : AreaPart) (from to : ℕ) → from ≡ p.at → to ≡ p.at + p.len → slice_range area from to ≡ bytes_in area p
bytes_are area p from to f t = let d : to - from ≡ p.len = omega arith in ap (λ k. take k (drop from area)) d ∙ ap (λ k. take p.len (drop k area)) f

pub long_as : (area : List ℕ) (p : AreaPart) → p.at + p.len ≤ length area → length (bytes_in area p) ≡ p.len
long_as area p h = let t = length-take p.len (drop p.at area) in let d = length-drop p.at area in omega arith

-- an entry with its value, its part of the area and the bytes there
pub record Found (slots : List Slot) (area : List ℕ) (q e : ℕ) (v : Value) (from to : ℕ) : Type 0 where
  pub at : At slots area q e v
  pub begins : from ≡ at.part.at
  pub ends : to ≡ at.part.at + at.part.len
  pub room : at.part.at + at.part.len ≤ length area
  pub bytes : slice_range area from to ≡ bytes_in area at.part
  pub long : length (bytes_in area at.part) ≡ at.part.len

pub found : (slots ss : List Slot) (area : List ℕ) (s : Flat) (q e : ℕ) (v : Value) (from to : ℕ) → IsArea (parts slots) area → flat slots area ≡ s → maps.get (flat_contents s) (q, e) ≡ Some v → ss ≡ slots → from ≡ start ss (q, e) → to ≡ start ss (q, e) + length_in (slot_at ss q) →
    Found slots area q e v from to
found slots ss area s q e v from to whole is h same f t =
    let a = of_store slots area s q e v is h in
    let begins = from_is slots ss area q e v from same a f in
    let ends = to_is slots ss area q e v to same a t in
    let room = whole.inside a.place a.part a.is in
    record { at = a; begins = begins; ends = ends; room = room; bytes = bytes_are area a.part from to begins ends; long = long_as area a.part room }

-- ---- numbers

pub number_is : (slots : List Slot) (area : List ℕ) (q e : ℕ) (n : ℤ) → (a : At slots area q e (Number n)) → spelled_number (bytes_in area a.part) ≡ n
number_is slots area q e n a = ap (λ (v : Value). number_of (Some v)) (ap (λ (k : Kind). text_value k (bytes_in area a.part)) (sym (is_number slots area q e n a)) ∙ a.value)

pub written : (w : List ℕ) (n : ℤ) (len : ℕ) → w ≡ zoned_text len n → length w ≡ len → Spells w n → IsWritten w
written w n len z l s = z ∙ ap (λ k. zoned_text k n) (sym l) ∙ ap (zoned_text (length w)) s.value

pub number_written : (k : Kind) (w : List ℕ) (n : ℤ) → k ≡ kinds.Number → Spells w n → text_value k w ≡ Number n
number_written k w n h s = ap (λ (j : Kind). text_value j w) h ∙ ap Number (sym s.value)

-- ---- texts

pub text_is : (slots : List Slot) (area : List ℕ) (q e : ℕ) (t : List ℕ) → (a : At slots area q e (Text t)) → bytes_in area a.part ≡ t
text_is slots area q e t a = ap (λ (v : Value). characters_of (Some v)) (ap (λ (k : Kind). text_value k (bytes_in area a.part)) (sym (is_text slots area q e t a)) ∙ a.value)

pub text_written : (k : Kind) (w : List ℕ) → k ≡ kinds.Text → text_value k w ≡ Text w
text_written k w h = ap (λ (j : Kind). text_value j w) h

-- a write by a vector of that length
pub as_written_at : (n at from : ℕ) (area w : List ℕ) → n ≡ length area → from ≡ at → take n (take from area ++ (w ++ drop (length w) (drop from area)) ++ drop (length (take from area ++ (w ++ drop (length w) (drop from area)))) area) ≡ written_at area at w
as_written_at n at from area w h f = ap (λ k. take k (take from area ++ (w ++ drop (length w) (drop from area)) ++ drop (length (take from area ++ (w ++ drop (length w) (drop from area)))) area)) h ∙ ap (λ k. written_at area k w) f
