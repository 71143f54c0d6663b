use Rattle.std.proofs.Common.{◌≡◌, ◌++◌, map, length}
use Rattle.std.specs.Prelude.{All}
use Rattle.rpg_compile_layouts.specs.Rows.{rows_from, rows_of}
use Rattle.rpg_compile_layouts.specs.Within.{IsLineWithin}
use Rattle.rpg_program.specs.Kept.{IsLineRow}
use Rattle.rpg_program.specs.Object.{line_row}
use Rattle.rpg_compile_layouts.proofs.lines.lines_of.Given as goal

abbrev pub invariant-loop-card : goal.invariant-loop-card
invariant-loop-card l = record {
  so_far : map line_row l.lines.items ++ rows_from l.table l.cards l.name l.rest ≡ rows_of l.table l.cards;
  rows : All IsLineRow (map line_row l.lines.items);
  within : All IsLineWithin (rows_from l.table l.cards l.name l.rest);
}

abbrev pub decreases-loop-card : goal.decreases-loop-card
decreases-loop-card l = length l.rest
