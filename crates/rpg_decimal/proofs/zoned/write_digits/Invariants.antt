use Rattle.std.proofs.Common.{◌≡◌, ℕ, ◌+◌, ◌-◌, ◌/◌, ◌%◌, ◌^◌, ◌<◌, ◌≤◌, length, get_or}
use Rattle.rpg_decimal.proofs.zoned.write_digits.Given as goal

abbrev pub invariant-loop-place : goal.invariant-loop-place
invariant-loop-place l = record {
  inside : l.place ≤ length l.text;
  rest_is : l.rest ≡ l.size / 10 ^ (length l.text - l.place);
  done : (k : ℕ) → l.place ≤ k → k < length l.text → get_or l.text k 0 ≡ 48 + l.size / 10 ^ (length l.text - 1 - k) % 10;
}

abbrev pub decreases-loop-place : goal.decreases-loop-place
decreases-loop-place l = l.place
