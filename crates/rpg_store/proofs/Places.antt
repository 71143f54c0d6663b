-- The places of entries.
use Rattle.std.proofs.Common.{◌≡◌, ℕ, zero, suc, ◌+◌, ◌-◌, ◌<◌, ◌≤◌, List, [], ◌∷◌, ◌++◌, length, Some, slice_get, ap, ◌∙◌, arith}
use Rattle.std.proofs.lemmas.Option.{same_Some}
use Rattle.rpg_program.specs.Forms.{form_at}
use Rattle.rpg_program.specs.declared.form.FieldForm.{FieldForm}
use Rattle.rpg_store.specs.Contents.{IsEntry, entries_from, positions_from}
use Rattle.rpg_store.proofs.ByEntry.{before, length-positions_from}

pub in_first : {X : Type 0} (xs ys : List X) (n : ℕ) (x : X) → slice_get xs n ≡ Some x → slice_get (xs ++ ys) n ≡ Some x
in_first [] ys n x h = cc
in_first (a ∷ xs) ys zero x h = h
in_first (a ∷ xs) ys (suc n) x h = in_first xs ys n x h

pub in_second : {X : Type 0} (xs ys : List X) (n m : ℕ) (x : X) → n ≡ length xs + m → slice_get ys m ≡ Some x → slice_get (xs ++ ys) n ≡ Some x
in_second [] ys n m x h g = let e : n ≡ m = omega arith in ap (slice_get ys) e ∙ g
in_second (a ∷ xs) ys zero m x h g = absurd (omega arith)
in_second (a ∷ xs) ys (suc n) m x h g = in_second xs ys n m x (omega arith) g

pub entry_here : (k b m n : ℕ) → n < m → slice_get (positions_from k b m) n ≡ Some (k, b + n)
entry_here k b zero n h = absurd (omega arith)
entry_here k b (suc m) zero h = let e : b ≡ b + 0 = omega arith in ap (λ (j : ℕ). Some (k, j)) e
entry_here k b (suc m) (suc n) h = let e : b + 1 + n ≡ b + suc n = omega arith in entry_here k (b + 1) m n (omega arith) ∙ ap (λ (j : ℕ). Some (k, j)) e

-- the place of a field's position, where the first field has that number
pub entry_place : (fs : List FieldForm) (k i e : ℕ) (f : FieldForm) → slice_get fs i ≡ Some f → 1 ≤ e → e ≤ f.entries → slice_get (entries_from k fs) (before fs i + (e - 1)) ≡ Some (k + i, e)
entry_place [] k i e f h low high = cc
entry_place (g ∷ fs) k zero e f h low high =
    let many : g.entries ≡ f.entries = ap (λ (d : FieldForm). d.entries) (same_Some g f h) in
    let place : 0 + (e - 1) ≡ e - 1 = omega arith in
    let entry : 1 + (e - 1) ≡ e = omega arith in
    let field : k ≡ k + 0 = omega arith in
    ap (slice_get (entries_from k (g ∷ fs))) place
    ∙ in_first (positions_from k 1 g.entries) (entries_from (k + 1) fs) (e - 1) (k, 1 + (e - 1)) (entry_here k 1 g.entries (e - 1) (omega arith))
    ∙ ap (λ (j : ℕ). Some (k, j)) entry ∙ ap (λ (j : ℕ). Some (j, e)) field
entry_place (g ∷ fs) k (suc i) e f h low high =
    let long = length-positions_from k 1 g.entries in
    let field : k + 1 + i ≡ k + suc i = omega arith in
    in_second (positions_from k 1 g.entries) (entries_from (k + 1) fs) (g.entries + before fs i + (e - 1)) (before fs i + (e - 1)) (k + suc i, e) (omega arith)
    (entry_place fs (k + 1) i e f h low high ∙ ap (λ (j : ℕ). Some (j, e)) field)

-- the positions of a field are entries
pub entry_at : (fs : List FieldForm) (q e : ℕ) (f : FieldForm) → form_at fs q ≡ Some f → 1 ≤ e → e ≤ f.entries → IsEntry fs (q, e)
entry_at fs zero e f h low high = cc
entry_at fs (suc i) e f h low high = let field : 1 + i ≡ suc i = omega arith in (before fs i + (e - 1), entry_place fs 1 i e f h low high ∙ ap (λ (j : ℕ). Some (j, e)) field)
