-- The bytes of a packed or binary field of an output file.
use Rattle.std.specs.Prelude.{ℕ, ◌+◌, ◌/◌, nat_le, if◌then◌else◌}
use Rattle.rpg_records.specs.declared.layout.NumberForm.{NumberForm}
use Rattle.rpg_records.specs.declared.layout.NumberForm.TheVariants as forms

-- how many bytes a number of n digits takes
abbrev pub bytes_for : NumberForm → ℕ → ℕ
bytes_for forms.Packed n = n / 2 + 1
bytes_for forms.Binary n = if nat_le n 4 then 2 else 4
