-- The fields whose values are still to come, and those whose values are still to be written.
use Rattle.std.proofs.Common.{◌≡◌, ℕ, zero, suc, ◌+◌, ◌<◌, List, [], ◌∷◌, length, drop, get_or, refl, sym, ap, ◌∙◌, add-one, drop-cons, arith}
use Rattle.rpg_program.specs.declared.form.FieldForm.{FieldForm}
use Rattle.rpg_program.specs.Values.{Value}
use Rattle.rpg_program.specs.Kept.{AreEntriesOf, AreValuesOf}
use Rattle.rpg_object.specs.FirstValues.{entries_format, next_entries, later_fields}

-- the values of the next field
pub next_entries-drop : (fs : List FieldForm) (i : ℕ) (d : FieldForm) → i < length fs → next_entries (drop i fs) ≡ entries_format (get_or fs i d)
next_entries-drop fs i d h = ap next_entries (drop-cons fs i d h)

later_suc : (fs : List FieldForm) (i : ℕ) (vs : List Value) → later_fields (drop i fs) vs ≡ drop (suc i) fs
later_suc [] zero vs = refl
later_suc [] (suc i) vs = refl
later_suc (f ∷ fs) zero vs = refl
later_suc (f ∷ fs) (suc i) vs = later_suc fs i vs

pub later_fields-drop : (fs : List FieldForm) (i : ℕ) (vs : List Value) → later_fields (drop i fs) vs ≡ drop (i + 1) fs
later_fields-drop fs i vs = later_suc fs i vs ∙ ap (λ (k : ℕ). drop k fs) (sym (add-one i))

-- as many values as fields
pub as_many : (fs : List FieldForm) (vs : List (List Value)) → AreValuesOf fs vs → length vs ≡ length fs
as_many [] [] h = refl
as_many [] (v ∷ vs) h = absurd h
as_many (f ∷ fs) [] h = absurd h
as_many (f ∷ fs) (v ∷ vs) h = ap suc (as_many fs vs h.1)

-- the values of the field at a place
pub entries-at : (fs : List FieldForm) (vs : List (List Value)) (i : ℕ) (f : FieldForm) (v : List Value) → AreValuesOf fs vs → i < length fs → AreEntriesOf (get_or fs i f) (get_or vs i v)
entries-at [] vs i f v h lt = absurd (omega arith)
entries-at (g ∷ gs) [] i f v h lt = absurd h
entries-at (g ∷ gs) (w ∷ ws) zero f v h lt = h.0
entries-at (g ∷ gs) (w ∷ ws) (suc i) f v h lt = entries-at gs ws i f v h.1 (omega arith)
