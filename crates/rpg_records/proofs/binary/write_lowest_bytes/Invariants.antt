use Rattle.std.proofs.Common.{◌≡◌, ◌-◌, ◌/◌, ◌%◌, ◌^◌, ◌≤◌, length}
use Rattle.rpg_records.proofs.Bytes.{HoldsFrom}
use Rattle.rpg_records.proofs.binary.write_lowest_bytes.Given as goal

abbrev pub invariant-loop-place : goal.invariant-loop-place
invariant-loop-place l = record {
  inside : l.place ≤ length l.bytes;
  rest_is : l.rest ≡ l.size / 256 ^ (length l.bytes - l.place);
  done : HoldsFrom (λ m. m % 256) 256 (length l.bytes) l.bytes l.size l.place;
}

abbrev pub decreases-loop-place : goal.decreases-loop-place
decreases-loop-place l = l.place
