use Rattle.std.proofs.Common.{◌≡◌, ◌^◌, ◌<◌, take, true}
use Rattle.std.specs.List.{list_all}
use Rattle.rpg_decimal_words.specs.Place.{place_value}
use Rattle.rpg_records.specs.Packed.{halves, is_figure}
use Rattle.rpg_records.proofs.packed.value_of_pairs.Given as goal

abbrev pub invariant-loop-byte : goal.invariant-loop-byte
invariant-loop-byte l = record {
  size_is : l.size ≡ place_value (halves (take l.byte-index l.bytes));
  valid : list_all is_figure (halves (take l.byte-index l.bytes)) ≡ true;
  below : l.size < 100 ^ l.byte-index;
}
