use Rattle.std.proofs.Common.{◌≡◌, drop}
use Rattle.std.specs.List.{list_any}
use Rattle.rpg_record_outputs.specs.Changes.{writes_number}
use Rattle.rpg_record_outputs.proofs.changes.writes_numbers.Given as goal

abbrev pub invariant-loop-card : goal.invariant-loop-card
invariant-loop-card l = list_any writes_number (drop l.card-index l.cards) ≡ list_any writes_number l.cards
