-- The text of a field doesn't depend on the storage that is left.
use Rattle.std.proofs.Common.{◌≡◌, ℕ, List, [], ◌∷◌, ◌++◌, refl, ap}
use Rattle.rpg_program.specs.declared.form.FieldForm.{FieldForm}
use Rattle.rpg_object_format.specs.Format.{keep, spelled_along, times_with, byte, two_bytes, pair, row}
use Rattle.rpg_object.specs.Fields.{field, fields, storage_after}

abbrev pub field_text : FieldForm → List ℕ
field_text f = (field 65535).spelling f

field_same : (s : ℕ) (f : FieldForm) → (field s).spelling f ≡ field_text f
unfolding field byte two_bytes pair row
field_same s f = refl

along_same : (s : ℕ) (fs : List FieldForm) → spelled_along (λ t f. (field t).spelling f) storage_after s fs ≡ spelled_along (λ u f. field_text f) keep tt fs
along_same s [] = refl
along_same s (f ∷ fs) = rw (field_same s f) (ap (λ (rest : List ℕ). field_text f ++ rest) (along_same (storage_after s f) fs))

pub fields_text : (n : ℕ) (fs : List FieldForm) → (fields n).spelling fs ≡ spelled_along (λ u f. field_text f) keep tt fs
unfolding fields times_with
fields_text n fs = along_same 65535 fs
