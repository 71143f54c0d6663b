use Rattle.std.proofs.Common.{◌<◌, map, take, IfSome}
use Rattle.rpg_record_merging.specs.Order.{IsNext, waiting_of}
use Rattle.rpg_record_merging.proofs.order.next_file.Given as goal

abbrev pub invariant-loop-place : goal.invariant-loop-place
invariant-loop-place l = record {
  earlier : IfSome l.next (λ k. k < l.place);
  next : IsNext l.is_descending (map waiting_of (take l.place l.heads)) l.next;
}
