use Rattle.std.proofs.Common.{◌≡◌, map, take}
use Rattle.rpg_records.specs.Seen.{type_seen}
use Rattle.rpg_record_decks.specs.Kinds.{type_of}
use Rattle.rpg_record_decks.specs.Reading.{type_read}
use Rattle.rpg_record_decks.proofs.layout.lay_out.Given as goal

abbrev pub invariant-loop-kind : goal.invariant-loop-kind
invariant-loop-kind l = map type_seen l.all.items ≡ map (type_of l.length (map type_read l.types)) (map type_read (take l.kind-index l.types))
