use Rattle.std.proofs.Common.{◌≡◌, drop}
use Rattle.std.specs.List.{list_any}
use Rattle.rpg_record_outputs.specs.Arrays.{defines}
use Rattle.rpg_record_outputs.proofs.name.is_array.Given as goal

abbrev pub invariant-loop-card : goal.invariant-loop-card
invariant-loop-card l = list_any (defines l.name) (drop l.card-index l.cards) ≡ list_any (defines l.name) l.cards
