use Rattle.std.proofs.Common.{◌≡◌, ◌++◌, drop}
use Rattle.std.specs.Prelude.{All}
use Rattle.rpg_cards.specs.Levels.{control_level, match_level}
use Rattle.rpg_compile_layouts.specs.Parts.{levels_after}
use Rattle.rpg_program.specs.Kept.{IsControlRow}
use Rattle.rpg_compile_layouts.proofs.levels.levels_of.Given as goal

abbrev pub invariant-loop-card : goal.invariant-loop-card
invariant-loop-card l = record {
  levels : l.levels.items ++ levels_after control_level (drop l.card-index l.following) ≡ levels_after control_level l.following;
  matches : l.matches.items ++ levels_after match_level (drop l.card-index l.following) ≡ levels_after match_level l.following;
  level_rows : All IsControlRow l.levels.items;
  match_rows : All IsControlRow l.matches.items;
}
