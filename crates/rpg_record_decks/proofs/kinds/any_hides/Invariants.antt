use Rattle.std.proofs.Common.{◌≡◌, drop}
use Rattle.std.specs.List.{list_any}
use Rattle.rpg_record_decks.specs.Kinds.{hides}
use Rattle.rpg_record_decks.proofs.kinds.any_hides.Given as goal

abbrev pub invariant-loop-field : goal.invariant-loop-field
invariant-loop-field l = list_any (hides l.column) (drop l.field-index l.fields) ≡ list_any (hides l.column) l.fields
