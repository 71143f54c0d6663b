use Rattle.std.proofs.Common.{◌≡◌, drop, map}
use Rattle.std.specs.List.{flat_map}
use Rattle.rpg_record_decks.specs.Reading.{type_read}
use Rattle.rpg_record_decks.specs.Types.{TypeRead}
use Rattle.rpg_record_decks.proofs.layout.refuse_numbers.Given as goal

abbrev pub invariant-loop-kind : goal.invariant-loop-kind
invariant-loop-kind l = flat_map (λ (t : TypeRead). t.numbers) (map type_read (drop l.kind-index l.types)) ≡ flat_map (λ (t : TypeRead). t.numbers) (map type_read l.types)
