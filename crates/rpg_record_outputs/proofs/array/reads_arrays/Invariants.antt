use Rattle.std.proofs.Common.{◌≡◌, drop}
use Rattle.std.specs.List.{list_any}
use Rattle.rpg_record_outputs.specs.Arrays.{reads_array}
use Rattle.rpg_record_outputs.proofs.array.reads_arrays.Given as goal

abbrev pub invariant-loop-card : goal.invariant-loop-card
invariant-loop-card l = list_any (reads_array l.cards) (drop l.card-index l.cards) ≡ list_any (reads_array l.cards) l.cards
