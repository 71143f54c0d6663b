use Rattle.std.proofs.Common.{◌≡◌, ℕ, ◌<◌, ◌^◌, map, take}
use Rattle.rpg_decimal_words.specs.Place.{place_value}
use Rattle.rpg_decimal_words.specs.Zoned.{digit_of, IsValidAt}
use Rattle.rpg_decimal.proofs.zoned.read_digits.Given as goal

abbrev pub invariant-loop-spot : goal.invariant-loop-spot
invariant-loop-spot l = record {
  valid : (k : ℕ) → k < l.spot → IsValidAt l.text k;
  size_is : l.size ≡ place_value (map digit_of (take l.spot l.text));
  below : l.size < 10 ^ l.spot;
}
