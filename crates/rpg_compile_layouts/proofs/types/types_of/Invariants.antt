use Rattle.std.proofs.Common.{◌≡◌, ◌++◌, map, length}
use Rattle.std.specs.Prelude.{All}
use Rattle.rpg_compile_layouts.specs.Parts.{types_from}
use Rattle.rpg_compile_layouts.specs.Within.{IsTypeWithin}
use Rattle.rpg_program.specs.Kept.{IsTypeRow}
use Rattle.rpg_program.specs.Object.{type_row}
use Rattle.rpg_program.specs.Naming.{renamed_type}
use Rattle.rpg_compile_program.specs.Table.{key_number}
use Rattle.rpg_compile_program.specs.Types.{types_on}
use Rattle.rpg_compile_layouts.proofs.types.types_of.Given as goal

abbrev pub invariant-loop-card : goal.invariant-loop-card
invariant-loop-card l = record {
  so_far : map type_row l.types.items ++ map (renamed_type (key_number l.table)) (types_from l.cards l.name l.rest) ≡ map (renamed_type (key_number l.table)) (types_on l.cards);
  rows : All IsTypeRow (map type_row l.types.items);
  within : All IsTypeWithin (types_from l.cards l.name l.rest);
}

abbrev pub decreases-loop-card : goal.decreases-loop-card
decreases-loop-card l = length l.rest
