use Rattle.std.proofs.Common.{◌≡◌, map, vec_len}
use Rattle.std.specs.List.{range_with_len}
use Rattle.rpg_record_decks.specs.Kinds.{is_code}
use Rattle.rpg_record_decks.specs.Reading.{type_read}
use Rattle.rpg_record_decks.proofs.kinds.code_columns.Given as goal

abbrev pub invariant-loop-place : goal.invariant-loop-place
invariant-loop-place l = record { columns : l.all.items ≡ map (is_code (map type_read l.types)) (range_with_len 1 l.place); len : vec_len l.all ≡ l.place }
