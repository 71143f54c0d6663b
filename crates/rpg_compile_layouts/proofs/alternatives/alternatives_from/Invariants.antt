use Rattle.std.proofs.Common.{◌≡◌, ◌++◌, drop, map}
use Rattle.std.specs.Prelude.{All}
use Rattle.rpg_compile_layouts.specs.Rows.{alternatives_after}
use Rattle.rpg_program.specs.Kept.{IsConditionRow}
use Rattle.rpg_compile_layouts.proofs.alternatives.alternatives_from.Given as goal

abbrev pub invariant-loop-card : goal.invariant-loop-card
invariant-loop-card l = record {
  so_far : map (λ a. a.items) l.alternatives.items ++ alternatives_after l.open.items (drop l.card-index l.following) ≡ alternatives_after l.initial.open.items l.following;
  last : All IsConditionRow l.open.items;
  rows : All (λ a. All IsConditionRow a.items) l.alternatives.items;
}
