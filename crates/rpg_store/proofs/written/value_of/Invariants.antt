use Rattle.std.proofs.Common.{◌≡◌, ◌<◌, ◌^◌, map, take}
use Rattle.rpg_decimal_words.specs.Place.{place_value}
use Rattle.rpg_decimal_words.specs.Zoned.{digit_of}
use Rattle.rpg_store.proofs.written.value_of.Given as goal

abbrev pub invariant-loop-c : goal.invariant-loop-c
invariant-loop-c l = record {
  size_is : l.size ≡ place_value (map digit_of (take l.c-index l.digits));
  below : l.size < 10 ^ l.c-index;
}
