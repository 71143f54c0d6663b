-- Three of a kind, any of which may be missing.
use Rattle.std.specs.Prelude.{ℕ, ◌+◌, Option}
use Rattle.std.specs.Option.{option_len}
use Rattle.rpg_sheet_specs.specs.declared.indicator.Three.{Three}

-- how many are filled
abbrev pub filled_count : {X : Type 0} → Three (Option X) → ℕ
filled_count t = option_len t.first + option_len t.second + option_len t.third
