-- Entries of fields, and the forms of numbers.
use Rattle.std.specs.Prelude.{◌≡◌, All, ℕ, ◌≤◌, List, Some}
use Rattle.rpg_program.specs.Forms.{form_at}
use Rattle.rpg_program.specs.declared.form.FieldForm.{FieldForm}

-- the lengths and decimals that numbers have
pub record IsEditableForm (d : FieldForm) : Type 0 where
  pub low : 1 ≤ d.length
  pub high : d.length ≤ 15
  pub decimals : d.decimals ≤ d.length

-- an entry of a field
pub record IsFieldEntry (forms : List FieldForm) (field entry : ℕ) : Type 0 where
  pub form : FieldForm
  pub there : form_at forms field ≡ Some form
  pub low : 1 ≤ entry
  pub high : entry ≤ form.entries

-- each of these is an entry of a field
abbrev pub AreFieldEntries : List FieldForm → List (ℕ × ℕ) → Type 0
AreFieldEntries forms entries = All (λ e. IsFieldEntry forms e.0 e.1) entries
