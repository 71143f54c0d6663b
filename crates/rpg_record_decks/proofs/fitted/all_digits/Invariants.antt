use Rattle.std.proofs.Common.{◌≡◌, ◌++◌, drop, map}
use Rattle.std.specs.List.{flat_map}
use Rattle.rpg_records.specs.Seen.{TypeSeen, type_seen}
use Rattle.rpg_record_decks.specs.Fitted.{digit_columns_after}
use Rattle.rpg_record_decks.proofs.fitted.all_digits.Given as goal

abbrev pub invariant-loop-kind : goal.invariant-loop-kind
invariant-loop-kind l =
    l.all.items ++ flat_map (λ (t : TypeSeen). digit_columns_after l.layout.length t.numbers) (map type_seen (drop l.kind-index l.layout.types.items))
    ≡ flat_map (λ (t : TypeSeen). digit_columns_after l.layout.length t.numbers) (map type_seen l.layout.types.items)
