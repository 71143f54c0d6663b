use Rattle.std.proofs.Common.{◌≡◌, ◌+◌, ◌++◌, length, map}
use Rattle.std.specs.Prelude.{All}
use Rattle.rpg_compile_program.specs.Code.{subroutines_code}
use Rattle.rpg_compile.proofs.rows.Writer.subroutines.Given as goal
use Rattle.rpg_compile.specs.Called.{level_at}
use Rattle.rpg_compile.specs.Marked.{IsMarkedRow}
use Rattle.rpg_compile.specs.Numbers.{body_sizes, number_by}
use Rattle.rpg_compile.specs.Walk.{subroutines_in}
use Rattle.rpg_program.specs.Object.{subroutine_row}
use Rattle.rpg_compile_program.specs.Table.{key_number}

abbrev pub invariant-loop-following : goal.invariant-loop-following
invariant-loop-following l = record {
  count : l.own + length (subroutines_in l.rest) ≡ length l.levels;
  places : l.place + body_sizes (subroutines_in l.rest) ≡ l.first + body_sizes (subroutines_in l.cards);
  table : l.self.table ≡ l.initial.self.table;
  subroutines : l.self.subroutines ≡ l.initial.self.subroutines;
  so_far : map subroutine_row l.rows.items ++ subroutines_code (key_number l.initial.self.table.now) (number_by l.initial.self.subroutines) (level_at l.levels) l.own l.place (subroutines_in l.rest)
      ≡ subroutines_code (key_number l.initial.self.table.now) (number_by l.initial.self.subroutines) (level_at l.levels) 0 l.first (subroutines_in l.cards);
  kept : All IsMarkedRow (map subroutine_row l.rows.items);
}

abbrev pub decreases-loop-following : goal.decreases-loop-following
decreases-loop-following l = length l.rest
