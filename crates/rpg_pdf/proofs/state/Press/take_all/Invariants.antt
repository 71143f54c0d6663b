use Rattle.std.proofs.Common.{◌≡◌, ◌+◌, ◌≤◌, ◌++◌, ℕ, List, Option, drop}
use Rattle.rpg_pdf.specs.Outcomes.{Reading, bytes_left, failures_of}
use Rattle.rpg_pdf.specs.declared.state.Sheet.{Sheet}
use Rattle.rpg_pdf.proofs.state.Press.take_all.Given as goal

abbrev pub invariant-loop-byte : goal.invariant-loop-byte
invariant-loop-byte g l = record {
  failures : failures_of l.self ≡ failures_of l.initial.self;
  reader : l.self.reader ≡ l.initial.self.reader;
  left : bytes_left l.self + l.byte-index ≤ bytes_left l.initial.self;
  reading : (s : Sheet) (before : Option (List ℕ)) (print rest : List ℕ) → Reading s g.W.Write.contents before print (l.piece ++ rest) l.initial.self → Reading s g.W.Write.contents before print (drop l.byte-index l.piece ++ rest) l.self;
}
