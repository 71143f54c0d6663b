use Rattle.std.proofs.Common.{◌≡◌, ℕ, ◌+◌, ◌<◌, ◌≤◌, get_or}
use Rattle.rpg_files.proofs.buffer.move_to_front.Given as goal

abbrev pub invariant-loop-i : goal.invariant-loop-i
invariant-loop-i l = record {
  moved : (k : ℕ) → k < l.i → get_or l.buf k 0 ≡ get_or l.initial.buf (l.start + k) 0;
  rest : (k : ℕ) → l.i ≤ k → get_or l.buf k 0 ≡ get_or l.initial.buf k 0;
}
