-- The sizes of packed and binary fields.
use Rattle.std.specs.Prelude.{ℕ, ◌-◌, ◌*◌, ◌==◌, ◌&&◌, ◌||◌, nat_le, Bool, true, false, if◌then◌else◌}
use Rattle.rpg_records.specs.declared.layout.NumberForm.{NumberForm}
use Rattle.rpg_records.specs.declared.layout.NumberForm.TheVariants as forms

-- the bytes that a field of that form may have
abbrev pub is_field_size : NumberForm → ℕ → Bool
is_field_size forms.Packed k = nat_le 1 k && nat_le k 8
is_field_size forms.Binary k = k == 2 || k == 4

-- how many digits k bytes have
abbrev pub digit_count : NumberForm → ℕ → ℕ
digit_count forms.Packed k = k * 2 - 1
digit_count forms.Binary k = if k == 2 then 4 else 9

-- both packed, or both binary
abbrev pub is_same_form : NumberForm → NumberForm → Bool
is_same_form forms.Packed forms.Packed = true
is_same_form forms.Packed forms.Binary = false
is_same_form forms.Binary forms.Packed = false
is_same_form forms.Binary forms.Binary = true
