-- The format of subroutines.
use Rattle.std.specs.Prelude.{ℕ, ◌-◌, List, length}
use Rattle.rpg_object_format.specs.Format.{Format, pair, row, table, times_with}
use Rattle.rpg_object_format.specs.Numbers.{any_number, count}
use Rattle.rpg_program.specs.Object.{SubroutineRow}
use Rattle.rpg_object_format.specs.Instructions.{instruction}

-- level, count, instructions, within the instructions that the earlier sections leave
unfoldable pub subroutine : ℕ → Format SubroutineRow
subroutine left = row
    (λ p. record { level = p.0; instructions = p.1.1 })
    (λ s. (s.level, (length s.instructions, s.instructions)))
    (pair any_number (λ level. pair (count left) (λ n. table n instruction)))

-- a subroutine takes its instructions from the remaining ones
abbrev pub left_after : ℕ → SubroutineRow → ℕ
left_after left s = left - length s.instructions

-- n subroutines
unfoldable pub subroutines : ℕ → ℕ → Format (List SubroutineRow)
subroutines n left = times_with subroutine left_after n left
