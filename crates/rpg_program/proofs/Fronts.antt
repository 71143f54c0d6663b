-- Outputs that only grow.
use Rattle.std.proofs.Common.{◌≡◌, ℕ, List, [], ◌++◌, Option, sym, ap, ◌∙◌, append_assoc, append-nil}
use Rattle.rpg_program.specs.Fronts.{OnlyGrows}
use Rattle.rpg_program.specs.Put.{Bytes, disk_bytes, with_output}
use Rattle.rpg_paper.specs.Paper.{Placed, Position, bytes_from}

no_more : Bytes
no_more = record { print = []; disk = [] }

-- nothing was output
pub grows_not : (a : Bytes) → OnlyGrows a a
unfolding no_more
grows_not a = record { more = no_more; print = sym (append-nil a.print); disk = sym (append-nil a.disk) }

pub grows_same : (a b : Bytes) → b ≡ a → OnlyGrows a b
unfolding no_more
grows_same a b is = record { more = no_more; print = ap (λ (x : Bytes). x.print) is ∙ sym (append-nil a.print); disk = ap (λ (x : Bytes). x.disk) is ∙ sym (append-nil a.disk) }

-- more, and then more
pub grows_on : (a b c : Bytes) → OnlyGrows a b → OnlyGrows b c → OnlyGrows a c
grows_on a b c first next = record {
  more = record { print = first.more.print ++ next.more.print; disk = first.more.disk ++ next.more.disk };
  print = next.print ∙ ap (λ (x : List ℕ). x ++ next.more.print) first.print ∙ append_assoc a.print first.more.print next.more.print;
  disk = next.disk ∙ ap (λ (x : List ℕ). x ++ next.more.disk) first.disk ∙ append_assoc a.disk first.more.disk next.more.disk;
}

-- bytes of lines and of records
pub grows_by : (previous : Option Position) (lines : List Placed) (records : List (List ℕ)) (a b : Bytes) → b ≡ with_output previous lines records a → OnlyGrows a b
grows_by previous lines records a b is = record {
  more = record { print = bytes_from previous lines; disk = disk_bytes records };
  print = ap (λ (x : Bytes). x.print) is;
  disk = ap (λ (x : Bytes). x.disk) is;
}
