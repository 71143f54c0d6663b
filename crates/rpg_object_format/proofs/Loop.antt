-- Loops that read or write rows: what was done, and what is still to do.
use Rattle.std.proofs.Common.{◌≡◌, ℕ, suc, ◌+◌, ◌-◌, ◌<◌, ◌≤◌, List, [], ◌∷◌, ◌++◌, length, get_or, drop, Result, Ok, Err, refl, sym, ap, ◌∙◌, append_assoc, append-nil, arith, drop-cons, add-one, map, subst}
use Rattle.std.proofs.lemmas.List.{drop_all, get_or-map, length-map}
use Rattle.std.specs.Prelude.{All}
use Rattle.rpg_object_format.specs.declared.fault.Fault.{Fault}
use Rattle.rpg_object_format.specs.declared.fault.ReadFault.{ReadFault}
use Rattle.rpg_object_format.specs.declared.fault.ReadFault.TheVariants as faults
use Rattle.rpg_object_format.specs.Format.{◌>>=◌, with_listed, read_times, spelled_along}
use Rattle.rpg_object_format.specs.Reading.{Fails}

abbrev pub in_front : {X : Type 0} → List X → List X × List ℕ → Result (List X × List ℕ) Fault
in_front front x = Ok (front ++ x.0, x.1)

-- what was read before, and what is still read
abbrev pub with_front : {X : Type 0} → List X → Result (List X × List ℕ) Fault → Result (List X × List ℕ) Fault
with_front front read = read >>= in_front front

regroup : {X : Type 0} (front : List X) (x : X) (read : Result (List X × List ℕ) Fault) → with_front front (read >>= with_listed x) ≡ with_front (front ++ x ∷ []) read
regroup {X} front x (Ok y) = ap (λ (xs : List X). Ok (xs, y.1)) (simp append_assoc)
regroup front x (Err f) = refl

pub continues : {S X : Type 0} (read : S → List ℕ → Result (X × List ℕ) Fault) (next : S → X → S) (front : List X) (count i : ℕ) (s : S) (bytes : List ℕ) (x : X) (after : List ℕ) (total : Result (List X × List ℕ) Fault) → i < count → read s bytes ≡ Ok (x, after)
    → with_front front (read_times read next (count - i) s bytes) ≡ total → with_front (front ++ x ∷ []) (read_times read next (count - (i + 1)) (next s x) after) ≡ total
unfolding read_times
continues read next front count i s bytes x after total lt h so_far =
    let k : count - i ≡ suc (count - (i + 1)) = omega arith in
    let one : with_front front (read_times read next (count - i) s bytes) ≡ with_front (front ++ x ∷ []) (read_times read next (count - (i + 1)) (next s x) after) = rw (k, h) (regroup front x (read_times read next (count - (i + 1)) (next s x) after)) in
    sym one ∙ so_far

pub ends : {S X : Type 0} (e : ReadFault) (read : S → List ℕ → Result (X × List ℕ) Fault) (next : S → X → S) (front : List X) (count i : ℕ) (s : S) (bytes : List ℕ) (total : Result (List X × List ℕ) Fault) → i < count → Fails e (read s bytes)
    → with_front front (read_times read next (count - i) s bytes) ≡ total → Fails e total
unfolding read_times
ends faults.NoMemory read next front count i s bytes total lt h so_far = tt
ends (faults.At f) read next front count i s bytes total lt h so_far =
    let k : count - i ≡ suc (count - (i + 1)) = omega arith in
    let one : with_front front (read_times read next (count - i) s bytes) ≡ Err f = rw (k, h) refl in
    sym so_far ∙ one

pub is_done : {S X : Type 0} (read : S → List ℕ → Result (X × List ℕ) Fault) (next : S → X → S) (front : List X) (count i : ℕ) (s : S) (bytes : List ℕ) (total : Result (List X × List ℕ) Fault) → count ≤ i → with_front front (read_times read next (count - i) s bytes) ≡ total → total ≡ Ok (front, bytes)
unfolding read_times
is_done {S} {X} read next front count i s bytes total le so_far =
    let k : count - i ≡ 0 = omega arith in
    let one : with_front front (read_times read next (count - i) s bytes) ≡ Ok (front, bytes) = rw k (ap (λ (xs : List X). Ok (xs, bytes)) (append-nil front)) in
    sym so_far ∙ one

-- ---- rows that are written

pub writes_on : {S X : Type 0} (spell : S → X → List ℕ) (next : S → X → S) (out piece : List ℕ) (s s' : S) (xs : List X) (i : ℕ) (x : X) (total : List ℕ) → drop i xs ≡ x ∷ drop (i + 1) xs → spell s x ≡ piece → next s x ≡ s'
    → out ++ spelled_along spell next s (drop i xs) ≡ total → (out ++ piece) ++ spelled_along spell next s' (drop (i + 1) xs) ≡ total
writes_on spell next out piece s s' xs i x total more text after so_far =
    append_assoc out piece (spelled_along spell next s' (drop (i + 1) xs))
    ∙ ap (λ (t : List ℕ). out ++ (t ++ spelled_along spell next s' (drop (i + 1) xs))) (sym text)
    ∙ ap (λ t. out ++ (spell s x ++ spelled_along spell next t (drop (i + 1) xs))) (sym after)
    ∙ ap (λ (ys : List _). out ++ spelled_along spell next s ys) (sym more) ∙ so_far

pub all_written : {S X : Type 0} (spell : S → X → List ℕ) (next : S → X → S) (out : List ℕ) (s : S) (xs : List X) (i : ℕ) (total : List ℕ) → length xs ≤ i → out ++ spelled_along spell next s (drop i xs) ≡ total → out ≡ total
all_written spell next out s xs i total le so_far =
    sym (append-nil out) ∙ ap (λ (ys : List _). out ++ spelled_along spell next s ys) (sym (drop_all i xs le)) ∙ so_far

-- ---- rows as their definitions see them

-- the row at a place
pub mapped-at : {X Y : Type 0} (view : X → Y) (xs : List X) (i : ℕ) (x : X) → i < length xs → x ≡ get_or xs i x → get_or (map view xs) i (view x) ≡ view x
mapped-at view xs i x lt e = get_or-map view xs i x (view x) lt ∙ ap view (sym e)

-- the rows from a place on
pub mapped-drop : {X Y : Type 0} (view : X → Y) (xs : List X) (i : ℕ) (x : X) → i < length xs → x ≡ get_or xs i x → drop i (map view xs) ≡ view x ∷ drop (i + 1) (map view xs)
mapped-drop view xs i x lt e =
    drop-cons (map view xs) i (view x) (omega (arith, length-map xs view))
    ∙ ap (λ v. v ∷ drop (suc i) (map view xs)) (mapped-at view xs i x lt e)
    ∙ ap (λ (k : ℕ). view x ∷ drop k (map view xs)) (sym (add-one i))

-- what all rows keep, the row at a place keeps
pub mapped_keeps : {X Y : Type 0} (view : X → Y) (P : Y → Type 0) (xs : List X) (i : ℕ) (x : X) → i < length xs → x ≡ get_or xs i x → All P (map view xs) → P (view x)
mapped_keeps view P xs i x lt e h = subst P (mapped-at view xs i x lt e) (h i (view x) (omega (arith, length-map xs view)))
