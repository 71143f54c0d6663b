use Rattle.std.proofs.Common.{◌≡◌, ◌++◌, map, take}
use Rattle.rpg_program.specs.Values.{held}
use Rattle.rpg_store.specs.Listed.{text_part}
use Rattle.rpg_store.proofs.listed.add_texts.Given as goal

abbrev pub invariant-loop-value : goal.invariant-loop-value
invariant-loop-value l = map (λ t. t.items) l.texts.items ≡ map (λ t. t.items) l.initial.texts.items ++ map text_part (map held (take l.value-index l.values))
