use Rattle.std.proofs.Common.{◌≡◌, drop}
use Rattle.std.specs.List.{list_any}
use Rattle.rpg_record_decks.specs.Kinds.{shows_character}
use Rattle.rpg_record_decks.proofs.kinds.any_shows.Given as goal

abbrev pub invariant-loop-field : goal.invariant-loop-field
invariant-loop-field l = list_any (shows_character l.column) (drop l.field-index l.fields) ≡ list_any (shows_character l.column) l.fields
