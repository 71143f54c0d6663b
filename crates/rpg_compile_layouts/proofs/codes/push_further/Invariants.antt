use Rattle.std.proofs.Common.{◌≡◌, ◌++◌, drop}
use Rattle.std.specs.Prelude.{All}
use Rattle.rpg_compile_layouts.specs.Parts.{codes_after}
use Rattle.rpg_program.specs.Kept.{IsCodeRow}
use Rattle.rpg_compile_layouts.proofs.codes.push_further.Given as goal

abbrev pub invariant-loop-card : goal.invariant-loop-card
invariant-loop-card l = record {
  so_far : l.codes.items ++ codes_after (drop l.card-index l.following) ≡ l.initial.codes.items ++ codes_after l.following;
  rows : All IsCodeRow l.codes.items;
}
