use Rattle.std.proofs.Common.{◌≡◌, ◌-◌, ◌/◌, ◌^◌, ◌≤◌, length}
use Rattle.rpg_records.specs.Packed.{pair_byte}
use Rattle.rpg_records.proofs.Bytes.{HoldsFrom}
use Rattle.rpg_records.proofs.packed.write_pairs.Given as goal

abbrev pub invariant-loop-place : goal.invariant-loop-place
invariant-loop-place l = record {
  inside : l.place ≤ length l.bytes;
  rest_is : l.rest ≡ l.size / 100 ^ (length l.bytes - l.place);
  done : HoldsFrom pair_byte 100 (length l.bytes) l.bytes l.size l.place;
}

abbrev pub decreases-loop-place : goal.decreases-loop-place
decreases-loop-place l = l.place
