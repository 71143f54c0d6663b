-- The sizes of names' forms.
use Rattle.std.specs.Prelude.{ℕ, ◌≤◌}
use Rattle.rpg_program.specs.declared.form.FieldForm.{FieldForm}
use Rattle.rpg_program.specs.declared.form.Kind.{Kind}
use Rattle.rpg_program.specs.declared.form.Kind.TheVariants as kind

-- 1 to 15 digits, including the decimals, or 1 to 256 characters
abbrev pub HasSize : Kind → ℕ → ℕ → Type 0
HasSize kind.Number len decimals = (1 ≤ len) × (len ≤ 15) × (decimals ≤ len)
HasSize kind.Text len decimals = (1 ≤ len) × (len ≤ 256)

-- length and decimals are allowed for a field of its kind
abbrev pub IsSized : FieldForm → Type 0
IsSized form = HasSize form.kind form.length form.decimals
