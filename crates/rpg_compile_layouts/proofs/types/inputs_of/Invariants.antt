use Rattle.std.proofs.Common.{◌≡◌, ◌++◌, drop, map}
use Rattle.std.specs.Prelude.{All}
use Rattle.rpg_compile_layouts.specs.Parts.{inputs_after}
use Rattle.rpg_program.specs.Kept.{IsInputRow}
use Rattle.rpg_program.specs.Naming.{renamed_input}
use Rattle.rpg_compile_program.specs.Table.{key_number}
use Rattle.rpg_compile_layouts.proofs.types.inputs_of.Given as goal

abbrev pub invariant-loop-card : goal.invariant-loop-card
invariant-loop-card l = record {
  so_far : l.inputs.items ++ map (renamed_input (key_number l.table)) (inputs_after (drop l.card-index l.following)) ≡ map (renamed_input (key_number l.table)) (inputs_after l.following);
  rows : All IsInputRow l.inputs.items;
}
