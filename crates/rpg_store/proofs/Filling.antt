-- Entries that take values one after the other.
use Rattle.std.proofs.Common.{◌≡◌, ℕ, zero, suc, ◌+◌, ◌<◌, ◌≤◌, List, [], ◌∷◌, ◌++◌, length, map, get_or, drop, Some, slice_get, refl, sym, ap, ◌∙◌, arith, append_assoc, length-append, length-drop}
use Rattle.std.proofs.Math.ListN.{set}
use Rattle.std.proofs.lemmas.Option.{same_Some, slice_get-map, slice_get-get_or}
use Rattle.std.specs.FinMap as maps
use Rattle.std.specs.Option.{option_map}
use Rattle.rpg_program.specs.Values.{Value}
use Rattle.rpg_program.specs.declared.form.FieldForm.{FieldForm}
use Rattle.rpg_program.specs.Kept.{AreValuesOf}
use Rattle.rpg_store.specs.Contents.{by_entry, entries_from, positions_from}
use Rattle.rpg_store.specs.Filling.{with_field_values, with_positions}
use Rattle.rpg_store.specs.First.{joined_values}
use Rattle.rpg_store.specs.Store.{Values}
use Rattle.rpg_store.proofs.ByEntry.{at_only, by_entry-set, entries_total, length-positions_from, tied, ties}
use Rattle.rpg_store.proofs.Places.{entry_here, in_first, in_second}

-- ---- step by step

-- what stands at a place is the first of the rest
pub drop_there : {X : Type 0} (xs : List X) (i : ℕ) (x : X) → slice_get xs i ≡ Some x → drop i xs ≡ x ∷ drop (i + 1) xs
drop_there [] i x h = cc
drop_there (y ∷ xs) zero x h = ap (λ z. z ∷ xs) (same_Some y x h)
drop_there (y ∷ xs) (suc i) x h = let e : suc (i + 1) ≡ suc i + 1 = omega arith in drop_there xs i x h ∙ ap (λ m. x ∷ drop m (y ∷ xs)) e

drop_none : {X : Type 0} (xs : List X) (i : ℕ) → length xs ≤ i → drop i xs ≡ []
drop_none [] zero h = refl
drop_none [] (suc i) h = refl
drop_none (x ∷ xs) zero h = absurd (omega arith)
drop_none (x ∷ xs) (suc i) h = drop_none xs i (omega arith)

-- another entry keeps its value
insert_other : (m : Values) (p k : ℕ × ℕ) (v : Value) → (p ≡ k → ⊥) → maps.get (maps.insert m k v) p ≡ maps.get m p
insert_other m p k v ne = maps.get-insert entries_total m k v p ∙ at_only (ties p k) v (maps.get m p) (maps.get m p) (λ t. ne (tied p k t)) refl

pub next_position : (m new : Values) (q i : ℕ) (v : Value) (vs : List Value) → new ≡ maps.insert m (q, i + 1) v → slice_get vs i ≡ Some v →
    with_positions new q (i + 1 + 1) (drop (i + 1) vs) ≡ with_positions m q (i + 1) (drop i vs)
next_position m new q i v vs h g = ap (λ x. with_positions x q (i + 1 + 1) (drop (i + 1) vs)) h ∙ ap (λ us. with_positions m q (i + 1) us) (sym (drop_there vs i v g))

pub all_positions : (m : Values) (q i : ℕ) (vs : List Value) → length vs ≤ i → with_positions m q (i + 1) (drop i vs) ≡ m
all_positions m q i vs h = ap (λ us. with_positions m q (i + 1) us) (drop_none vs i h)

pub position_stays : (m new : Values) (q i n : ℕ) (v : Value) → new ≡ maps.insert m (q, i + 1) v → i + 1 ≤ n → maps.get new (q, n + 1) ≡ maps.get m (q, n + 1)
position_stays m new q i n v h l = ap (λ x. maps.get x (q, n + 1)) h ∙ insert_other m (q, n + 1) (q, i + 1) v (λ e. let f : n + 1 ≡ i + 1 = ap (λ p. p.1) e in absurd (omega arith))

pub next_field : (m new : Values) (k : ℕ) (vs : List Value) (vss : List (List Value)) → new ≡ with_positions m (k + 1) 1 vs → slice_get vss k ≡ Some vs →
    with_field_values new (k + 1 + 1) (drop (k + 1) vss) ≡ with_field_values m (k + 1) (drop k vss)
next_field m new k vs vss h g = ap (λ x. with_field_values x (k + 1 + 1) (drop (k + 1) vss)) h ∙ ap (λ us. with_field_values m (k + 1) us) (sym (drop_there vss k vs g))

pub all_fields : (m : Values) (k : ℕ) (vss : List (List Value)) → length vss ≤ k → with_field_values m (k + 1) (drop k vss) ≡ m
all_fields m k vss h = ap (λ us. with_field_values m (k + 1) us) (drop_none vss k h)

other_field : (vs : List Value) (m : Values) (q e : ℕ) (p : ℕ × ℕ) → (p.0 ≡ q → ⊥) → maps.get (with_positions m q e vs) p ≡ maps.get m p
other_field [] m q e p ne = refl
other_field (v ∷ vs) m q e p ne = other_field vs (maps.insert m (q, e) v) q (e + 1) p ne ∙ insert_other m p (q, e) v (λ h. ne (ap (λ z. z.0) h))

pub field_stays : (m new : Values) (k j n : ℕ) (vs : List Value) → new ≡ with_positions m (k + 1) 1 vs → k + 1 ≤ j → maps.get new (j + 1, n) ≡ maps.get m (j + 1, n)
field_stays m new k j n vs h l = ap (λ x. maps.get x (j + 1, n)) h ∙ other_field vs m (k + 1) 1 (j + 1, n) (λ e. absurd (omega arith))

-- ---- all in all

set_here : (xs ws : List Value) (w v : Value) → set (xs ++ w ∷ ws) (length xs) v ≡ xs ++ v ∷ ws
set_here [] ws w v = refl
set_here (x ∷ xs) ws w v = ap (λ ys. x ∷ ys) (set_here xs ws w v)

-- the positions of a field stand from that place on
abbrev AreAt : List FieldForm → ℕ → ℕ → ℕ → ℕ → Type 0
AreAt fs n q e m = (j : ℕ) → j < m → slice_get (entries_from 1 fs) (n + j) ≡ Some (q, e + j)

positions_filled : (fs : List FieldForm) (xs ws vs : List Value) (q e : ℕ) → AreAt fs (length xs) q e (length vs) → length vs ≤ length ws →
    with_positions (by_entry fs (xs ++ ws)) q e vs ≡ by_entry fs (xs ++ (vs ++ drop (length vs) ws))
positions_filled fs xs ws [] q e here h = refl
positions_filled fs xs [] (v ∷ vs) q e here h = absurd (omega arith)
positions_filled fs xs (w ∷ ws) (v ∷ vs) q e here h =
    let place : length xs + 0 ≡ length xs = omega arith in
    let first : e + 0 ≡ e = omega arith in
    let at : slice_get (entries_from 1 fs) (length xs) ≡ Some (q, e) = ap (slice_get (entries_from 1 fs)) (sym place) ∙ here 0 (omega arith) ∙ ap (λ (j : ℕ). Some (q, j)) first in
    let long = length-append xs (w ∷ ws) in
    let more = length-append xs (v ∷ []) in
    let one : maps.insert (by_entry fs (xs ++ w ∷ ws)) (q, e) v ≡ by_entry fs ((xs ++ v ∷ []) ++ ws) = sym (by_entry-set fs (xs ++ w ∷ ws) (length xs) (q, e) v at (omega arith)) ∙ ap (by_entry fs) (set_here xs ws w v ∙ sym (append_assoc xs (v ∷ []) ws)) in
    ap (λ m. with_positions m q (e + 1) vs) one
    ∙ positions_filled fs (xs ++ v ∷ []) ws vs q (e + 1) (λ j l.
    let i : length (xs ++ v ∷ []) + j ≡ length xs + suc j = omega arith in
    let k : e + suc j ≡ e + 1 + j = omega arith in
    ap (slice_get (entries_from 1 fs)) i ∙ here (suc j) (omega arith) ∙ ap (λ (n : ℕ). Some (q, n)) k) (omega arith)
    ∙ ap (by_entry fs) (append_assoc xs (v ∷ []) (vs ++ drop (length vs) ws))

empty : (ws : List Value) → length ws ≡ 0 → ws ≡ []
empty [] h = refl
empty (w ∷ ws) h = absurd (omega arith)

fields_filled : (gs fs : List FieldForm) (ks : List (ℕ × ℕ)) (k : ℕ) (xs ws : List Value) (vss : List (List Value)) → entries_from 1 gs ≡ ks ++ entries_from k fs → length ks ≡ length xs → AreValuesOf fs vss → length ws ≡ length (entries_from k fs) →
    with_field_values (by_entry gs (xs ++ ws)) k vss ≡ by_entry gs (xs ++ joined_values vss)
fields_filled gs [] ks k xs ws [] is l h n = ap (λ ys. by_entry gs (xs ++ ys)) (empty ws n)
fields_filled gs [] ks k xs ws (vs ∷ vss) is l h n = absurd h
fields_filled gs (f ∷ fs) ks k xs ws [] is l h n = absurd h
fields_filled gs (f ∷ fs) ks k xs ws (vs ∷ vss) is l h n =
    let mine = positions_from k 1 f.entries in
    let rest = entries_from (k + 1) fs in
    let number = h.0.number in
    let lp = length-positions_from k 1 f.entries in
    let le = length-append mine rest in
    let ld = length-drop (length vs) ws in
    let lk = length-append ks mine in
    let lx = length-append xs vs in
    ap (λ m. with_field_values m (k + 1) vss) (
    positions_filled gs xs ws vs k 1 (λ j m.
    ap (λ es. slice_get es (length xs + j)) is ∙ in_second ks (mine ++ rest) (length xs + j) j (k, 1 + j) (omega arith) (in_first mine rest j (k, 1 + j) (entry_here k 1 f.entries j (omega arith)))) (omega arith)
    ∙ ap (by_entry gs) (sym (append_assoc xs vs (drop (length vs) ws))))
    ∙ fields_filled gs fs (ks ++ mine) (k + 1) (xs ++ vs) (drop (length vs) ws) vss (is ∙ sym (append_assoc ks mine rest)) (omega arith) h.1 (omega arith)
    ∙ ap (by_entry gs) (append_assoc xs vs (joined_values vss))

-- where there is a value for each entry, all are new
pub all_filled : (fs : List FieldForm) (ws : List Value) (vss : List (List Value)) → AreValuesOf fs vss → length ws ≡ length (entries_from 1 fs) → with_field_values (by_entry fs ws) 1 vss ≡ by_entry fs (joined_values vss)
all_filled fs ws vss h n = fields_filled fs fs [] 1 [] ws vss refl refl h n

-- an item of a list, as it is seen
pub item_there : {A B : Type 0} (f : A → B) (us : List A) (n : ℕ) (x : A) → n < length us → x ≡ get_or us n x → slice_get (map f us) n ≡ Some (f x)
item_there f us n x l h = slice_get-map f us n ∙ ap (λ o. option_map f o) (slice_get-get_or us n x l ∙ ap Some (sym h))
