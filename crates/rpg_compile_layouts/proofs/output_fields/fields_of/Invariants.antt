use Rattle.std.proofs.Common.{◌≡◌, ◌++◌, drop}
use Rattle.std.specs.Prelude.{All}
use Rattle.rpg_compile_layouts.specs.Rows.{output_rows_after}
use Rattle.rpg_compile_layouts.specs.Within.{HasIndexRow}
use Rattle.rpg_program.specs.Kept.{IsLineFieldRow}
use Rattle.rpg_compile_layouts.proofs.output_fields.fields_of.Given as goal

abbrev pub invariant-loop-card : goal.invariant-loop-card
invariant-loop-card l = record {
  so_far : l.fields.items ++ output_rows_after l.table (drop l.card-index l.following) ≡ output_rows_after l.table l.following;
  rows : All IsLineFieldRow l.fields.items;
  within : All HasIndexRow (output_rows_after l.table (drop l.card-index l.following));
}
