-- Entries in a list of values.
use Rattle.std.proofs.Common.{◌≡◌, Global, Vec, ℕ, zero, suc, ℤ, ◌<◌, ◌≤◌, inl, inr, List, [], ◌∷◌, ◌++◌, take, drop, get_or, length, map, Option, None, Some, slice_get, refl, sym, ap, ◌∙◌, arith}
use Rattle.std.proofs.Math.ListN.{set}
use Rattle.std.proofs.lemmas.Grind.{common_steps}
use Rattle.std.proofs.lemmas.List.{length-map, map-append, map-set}
use Rattle.std.proofs.lemmas.List.Elements.{All-head, All-tail}
use Rattle.std.proofs.lemmas.Option.{same_Some, slice_get-get_or, slice_get-map, slice_get_within}
use Rattle.std.specs.FinMap as maps
use Rattle.std.specs.List.{All, flat_map}
use Rattle.std.specs.Option.{option_map}
use Rattle.std.specs.Vec.{with_items}
use Rattle.rpg_program.specs.Values.{Value, Number, Text, characters_of}
use Rattle.rpg_program.specs.declared.form.FieldForm.{FieldForm}
use Rattle.rpg_program.specs.declared.form.Kind.{Kind}
use Rattle.rpg_program.specs.declared.form.Kind.TheVariants as kinds
use Rattle.rpg_program.specs.Kept.{AreValuesOf, IsFieldRow, IsValueOf}
use Rattle.rpg_store.specs.Contents.{IsEntry, IsEntryAt, by_entry, entries_from}
use Rattle.rpg_store.specs.First.{joined_values}
use Rattle.rpg_store.specs.Store.{IsNumber, IsText}
use Rattle.rpg_store.specs.Listed.{Listed, paired_values, laid_at_front, listed_contents, listed_with_text, number_part, one_value, text_part}
use Rattle.rpg_store.specs.Slots.{forms_of, spot, AreInOrder}
use Rattle.rpg_store.specs.declared.slot.Slot.{Slot}
use Rattle.rpg_store.proofs.ByEntry.{cut, there, by_entry-set}
use Rattle.rpg_store.proofs.BySlot.{spot_place}
use Rattle.rpg_store.proofs.FirstValues.{value_at}

pub number_there : (o : Option Value) → IsNumber o → (n : ℤ) × (o ≡ Some (Number n))
number_there None h = absurd h
number_there (Some (Number n)) h = (n, refl)
number_there (Some (Text t)) h = absurd h

pub text_there : (o : Option Value) → IsText o → (t : List ℕ) × (o ≡ Some (Text t))
text_there None h = absurd h
text_there (Some (Number n)) h = absurd h
text_there (Some (Text t)) h = (t, refl)

-- ---- texts and numbers

one_number : (t : List ℕ) (n m : ℤ) → one_value t n ≡ Number m → (t ≡ []) × (n ≡ m)
one_number [] n m h = (refl, cc)
one_number (c ∷ t) n m h = cc

one_text : (t u : List ℕ) (n : ℤ) → one_value t n ≡ Text u → t ≡ u
one_text [] u n h = cc
one_text (c ∷ t) u n h = cc

-- a number of the list is the number there, and a text is the text there
number_of_joined : (ts : List (List ℕ)) (ns : List ℤ) (k : ℕ) (n : ℤ) → slice_get (paired_values ts ns) k ≡ Some (Number n) → slice_get ns k ≡ Some n
number_of_joined [] ns k n h = cc
number_of_joined (t ∷ ts) [] k n h = cc
number_of_joined (t ∷ ts) (m ∷ ns) zero n h = ap Some (one_number t m n (same_Some _ _ h)).1
number_of_joined (t ∷ ts) (m ∷ ns) (suc k) n h = number_of_joined ts ns k n h

text_of_joined : (ts : List (List ℕ)) (ns : List ℤ) (k : ℕ) (u : List ℕ) → slice_get (paired_values ts ns) k ≡ Some (Text u) → slice_get ts k ≡ Some u
text_of_joined [] ns k u h = cc
text_of_joined (t ∷ ts) [] k u h = cc
text_of_joined (t ∷ ts) (m ∷ ns) zero u h = ap Some (one_text t u m (same_Some _ _ h))
text_of_joined (t ∷ ts) (m ∷ ns) (suc k) u h = text_of_joined ts ns k u h

-- another number where one stands, and another text as long where one stands
joined-set_number : (ts : List (List ℕ)) (ns : List ℤ) (k : ℕ) (n m : ℤ) → slice_get (paired_values ts ns) k ≡ Some (Number n) → paired_values ts (set ns k m) ≡ set (paired_values ts ns) k (Number m)
joined-set_number [] ns k n m h = cc
joined-set_number (t ∷ ts) [] k n m h = cc
joined-set_number (t ∷ ts) (x ∷ ns) zero n m h = ap (λ u. one_value u m ∷ paired_values ts ns) (one_number t x n (same_Some _ _ h)).0
joined-set_number (t ∷ ts) (x ∷ ns) (suc k) n m h = ap (λ vs. one_value t x ∷ vs) (joined-set_number ts ns k n m h)

as_text : (t u w : List ℕ) (n : ℤ) → one_value t n ≡ Text u → length w ≡ length u → one_value w n ≡ Text w
as_text t u (c ∷ w) n h l = refl
as_text [] u [] n h l = cc
as_text (c ∷ t) [] [] n h l = cc
as_text (c ∷ t) (d ∷ u) [] n h l = absurd (omega arith)

joined-set_text : (ts : List (List ℕ)) (ns : List ℤ) (k : ℕ) (u w : List ℕ) → slice_get (paired_values ts ns) k ≡ Some (Text u) → length w ≡ length u → paired_values (set ts k w) ns ≡ set (paired_values ts ns) k (Text w)
joined-set_text [] ns k u w h l = cc
joined-set_text (t ∷ ts) [] k u w h l = cc
joined-set_text (t ∷ ts) (x ∷ ns) zero u w h l = ap (λ v. v ∷ paired_values ts ns) (as_text t u w x (same_Some _ _ h) l)
joined-set_text (t ∷ ts) (x ∷ ns) (suc k) u w h l = ap (λ vs. one_value t x ∷ vs) (joined-set_text ts ns k u w h l)

-- ---- first values

-- a value is its text and its number
abbrev IsBoth : Value → Type 0
IsBoth v = one_value (text_part v) (number_part v) ≡ v

both_parts : (k : Kind) (len : ℕ) (v : Value) → 1 ≤ len → IsValueOf k len v → IsBoth v
both_parts kinds.Number len (Number n) low h = refl
both_parts kinds.Number len (Text t) low h = absurd h
both_parts kinds.Text len (Number n) low h = absurd h
both_parts kinds.Text len (Text []) low h = let l = h.0 in absurd (omega arith)
both_parts kinds.Text len (Text (c ∷ t)) low h = refl

joined-parts : (vs : List Value) → ((k : ℕ) (v : Value) → slice_get vs k ≡ Some v → IsBoth v) → paired_values (map text_part vs) (map number_part vs) ≡ vs
joined-parts [] h = refl
joined-parts (v ∷ vs) h = ap (λ x. x ∷ paired_values (map text_part vs) (map number_part vs)) (h 0 v refl) ∙ ap (λ xs. v ∷ xs) (joined-parts vs (λ k x is. h (suc k) x is))

-- what is taken of each value, field by field
pub flat_map_joined : {U X : Type 0} (g : Value → X) (values : U → List Value) (us : List U) → flat_map (λ u. map g (values u)) us ≡ map g (joined_values (map values us))
flat_map_joined g values [] = refl
flat_map_joined g values (u ∷ us) = ap (λ xs. map g (values u) ++ xs) (flat_map_joined g values us) ∙ sym (map-append g (values u) (joined_values (map values us)))

both_first : (fs : List FieldForm) (vss : List (List Value)) (k : ℕ) (v : Value) → All IsFieldRow fs → AreValuesOf fs vss → slice_get (joined_values vss) k ≡ Some v → IsBoth v
both_first [] [] k v rows h is = cc
both_first [] (vs ∷ vss) k v rows h is = absurd h
both_first (f ∷ fs) [] k v rows h is = absurd h
both_first (f ∷ fs) (vs ∷ vss) k v rows h is = elim (cut vs (joined_values vss) k v is) [
  | inl x ↦ both_parts f.kind f.length v (All-head IsFieldRow f fs rows).shortest (value_at f vs k v h.0 x)
  | inr x ↦ both_first fs vss x.0 v (All-tail IsFieldRow f fs rows) h.1 x.1.1
]

-- the first values by their texts and their numbers
pub joined_first : (fs : List FieldForm) (vss : List (List Value)) → All IsFieldRow fs → AreValuesOf fs vss → paired_values (map text_part (joined_values vss)) (map number_part (joined_values vss)) ≡ joined_values vss
joined_first fs vss rows h = joined-parts (joined_values vss) (λ k v is. both_first fs vss k v rows h is)

-- ---- an entry and its place

abbrev pub listed : List Slot → List (List ℕ) → List ℤ → Listed
listed slots ts ns = record { slots = slots; list = paired_values ts ns }

-- an entry with this value, and its place in the list
pub record At (s : Listed) (q e : ℕ) (v : Value) : Type 0 where
  pub entry : IsEntry (forms_of s.slots) (q, e)
  pub inside : spot s.slots (q, e) < length s.list
  pub is : slice_get s.list (spot s.slots (q, e)) ≡ Some v

at : (s : Listed) (q e : ℕ) (v : Value) → AreInOrder 0 s.slots → maps.get (listed_contents s) (q, e) ≡ Some v → At s q e v
at s q e v o h =
    let t = there (forms_of s.slots) s.list (q, e) v h in
    let p : spot s.slots (q, e) ≡ t.0 = spot_place s.slots t.0 q e o t.1.0 in
    let w = slice_get_within s.list t.0 v t.1.1 in
    record { entry = (t.0, t.1.0); inside = omega arith; is = ap (slice_get s.list) p ∙ t.1.1 }

-- another value is put there
put_there : (s : Listed) (q e : ℕ) (v w : Value) → AreInOrder 0 s.slots → At s q e v →
    by_entry (forms_of s.slots) (set s.list (spot s.slots (q, e)) w) ≡ maps.insert (listed_contents s) (q, e) w
put_there s q e v w o a =
    let m : spot s.slots (q, e) ≡ a.entry.0 = spot_place s.slots a.entry.0 q e o a.entry.1 in
    by_entry-set (forms_of s.slots) s.list (spot s.slots (q, e)) (q, e) w (ap (slice_get (entries_from 1 (forms_of s.slots))) m ∙ a.entry.1) a.inside

-- a store that is these texts and numbers, with a value at an entry
pub of_store : (slots : List Slot) (ts : List (List ℕ)) (ns : List ℤ) (s : Listed) (q e : ℕ) (v : Value) → listed slots ts ns ≡ s → AreInOrder 0 slots → maps.get (listed_contents s) (q, e) ≡ Some v → At (listed slots ts ns) q e v
of_store slots ts ns s q e v is o h = at (listed slots ts ns) q e v o (ap (λ (t : Listed). maps.get (listed_contents t) (q, e)) is ∙ h)

-- where the place of an entry is known, it is the place by the table
pub known_place : (slots : List Slot) (ts : List (List ℕ)) (ns : List ℤ) (s : Listed) (n q e : ℕ) → listed slots ts ns ≡ s → AreInOrder 0 slots → IsEntryAt (forms_of s.slots) n (q, e) → n ≡ spot slots (q, e)
known_place slots ts ns s n q e is o h =
    sym (spot_place slots n q e o (ap (λ (t : Listed). slice_get (entries_from 1 (forms_of t.slots)) n) is ∙ h))

-- ---- a number

pub number_at : (slots : List Slot) (ts : List (List ℕ)) (ns : List ℤ) (q e : ℕ) (m : ℤ) (n : ℕ) → At (listed slots ts ns) q e (Number m) → n ≡ spot slots (q, e) → slice_get ns n ≡ Some m
number_at slots ts ns q e m n a p = number_of_joined ts ns n m (ap (slice_get (paired_values ts ns)) p ∙ a.is)

pub put_number : (slots : List Slot) (ts : List (List ℕ)) (ns : List ℤ) (q e : ℕ) (m : ℤ) (n : ℕ) (x : ℤ) → AreInOrder 0 slots → At (listed slots ts ns) q e (Number m) → n ≡ spot slots (q, e) →
    listed_contents (listed slots ts (set ns n x)) ≡ maps.insert (listed_contents (listed slots ts ns)) (q, e) (Number x)
put_number slots ts ns q e m n x o a p =
    ap (λ k. listed_contents (listed slots ts (set ns k x))) p
    ∙ ap (by_entry (forms_of slots)) (joined-set_number ts ns (spot slots (q, e)) m x a.is)
    ∙ put_there (listed slots ts ns) q e (Number m) (Number x) o a

-- ---- a text

pub text_at : (slots : List Slot) (ts : List (List ℕ)) (ns : List ℤ) (q e : ℕ) (t : List ℕ) (n : ℕ) → At (listed slots ts ns) q e (Text t) → n ≡ spot slots (q, e) → slice_get ts n ≡ Some t
text_at slots ts ns q e t n a p = text_of_joined ts ns n t (ap (slice_get (paired_values ts ns)) p ∙ a.is)

-- what is read there is that text
pub text_read : (vs : List (Vec ℕ Global)) (n : ℕ) (t : List ℕ) (x : Vec ℕ Global) → slice_get (map (λ v. v.items) vs) n ≡ Some t → x ≡ get_or vs n x → x.items ≡ t
text_read vs n t x h r =
    let l = length-map vs (λ (v : Vec ℕ Global). v.items) in
    let i = slice_get_within (map (λ v. v.items) vs) n t h in
    same_Some x.items t (ap (λ (v : Vec ℕ Global). Some v.items) r ∙ sym (slice_get-map (λ v. v.items) vs n ∙ ap (λ o. option_map (λ (v : Vec ℕ Global). v.items) o) (slice_get-get_or vs n x (omega arith))) ∙ h)

over_whole : (t w : List ℕ) → length w ≡ length t → laid_at_front t w ≡ w
over_whole t w h = grind (arith, common_steps)

long_front : (t w : List ℕ) → length (laid_at_front t w) ≡ length t
long_front t w = grind (arith, common_steps)

over_items : (x : Vec ℕ Global) (t w : List ℕ) → x.items ≡ t → (with_items x w).items ≡ laid_at_front t w
over_items x t w h =
    let l : x.len ≡ length t = x.ok.0 ∙ ap length h in
    ap (λ k. take k (w ++ drop (length w) x.items)) l ∙ ap (λ xs. take (length t) (w ++ drop (length w) xs)) h

-- bytes over a text that is lent
pub lent_there : (slots : List Slot) (vs : List (Vec ℕ Global)) (ns : List ℤ) (q e : ℕ) (t : List ℕ) (n : ℕ) (x : Vec ℕ Global) (w : List ℕ) → At (listed slots (map (λ v. v.items) vs) ns) q e (Text t) → n ≡ spot slots (q, e) → x.items ≡ t →
    listed slots (map (λ v. v.items) (set vs n (with_items x w))) ns ≡ listed_with_text (listed slots (map (λ v. v.items) vs) ns) q e w
lent_there slots vs ns q e t n x w a p r =
    let ts : List (List ℕ) = map (λ (v : Vec ℕ Global). v.items) vs in
    ap (λ (us : List (List ℕ)). listed slots us ns) (map-set (λ (v : Vec ℕ Global). v.items) vs n (with_items x w) ∙ ap (λ k. set ts k (with_items x w).items) p ∙ ap (λ u. set ts (spot slots (q, e)) u) (over_items x t w r))
    ∙ ap (λ (l : List Value). record { slots = slots; list = l }) (
    joined-set_text ts ns (spot slots (q, e)) t (laid_at_front t w) a.is (long_front t w)
    ∙ ap (λ o. set (paired_values ts ns) (spot slots (q, e)) (Text (laid_at_front (characters_of o) w))) (sym a.is))

pub wrote_there : (s : Listed) (q e : ℕ) (t w : List ℕ) → AreInOrder 0 s.slots → At s q e (Text t) → length w ≡ length t →
    listed_contents (listed_with_text s q e w) ≡ maps.insert (listed_contents s) (q, e) (Text w)
wrote_there s q e t w o a h =
    ap (λ (y : Value). by_entry (forms_of s.slots) (set s.list (spot s.slots (q, e)) y)) (ap (λ o'. Text (laid_at_front (characters_of o') w)) a.is ∙ ap Text (over_whole t w h))
    ∙ put_there s q e (Text t) (Text w) o a
