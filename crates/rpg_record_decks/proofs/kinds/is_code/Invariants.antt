use Rattle.std.proofs.Common.{◌≡◌, drop, map}
use Rattle.rpg_record_decks.specs.Kinds.{is_code}
use Rattle.rpg_record_decks.specs.Reading.{type_read}
use Rattle.rpg_record_decks.proofs.kinds.is_code.Given as goal

abbrev pub invariant-loop-kind : goal.invariant-loop-kind
invariant-loop-kind l = is_code (map type_read (drop l.kind-index l.types)) l.column ≡ is_code (map type_read l.types) l.column
