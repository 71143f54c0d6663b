use Rattle.std.proofs.Common.{◌≡◌, ℕ, ◌<◌, ◌^◌, true, map, slice_index, take}
use Rattle.rpg_decimal_words.specs.Place.{place_value}
use Rattle.rpg_decimal_words.specs.Zoned.{digit_of, is_digit}
use Rattle.rpg_faults_data.proofs.number.plain_number.Given as goal

abbrev pub invariant-loop-c : goal.invariant-loop-c
invariant-loop-c l = record {
  digits : (k : ℕ) → k < l.c-index → is_digit (slice_index l.text k) ≡ true;
  number_is : l.number ≡ place_value (map digit_of (take l.c-index l.text));
  below : l.number < 10 ^ l.c-index;
}
