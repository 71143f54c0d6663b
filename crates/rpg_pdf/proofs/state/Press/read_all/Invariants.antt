use Rattle.std.proofs.Common.{◌≡◌, ℕ, List, Option, Some}
use Rattle.rpg_pdf.specs.Outcomes.{Reading, bytes_left, failures_of, known_print}
use Rattle.rpg_pdf.specs.declared.state.Sheet.{Sheet}
use Rattle.rpg_pdf.proofs.state.Press.read_all.Given as goal

abbrev pub invariant-reads : goal.invariant-reads
invariant-reads g l = record {
  failures : failures_of l.self ≡ failures_of l.initial.self;
  reading : (s : Sheet) (before : Option (List ℕ)) (print : List ℕ) → known_print g.R.Read.remaining l.initial.self ≡ Some print → Reading s g.W.Write.contents before print print l.initial.self
      → (rest : List ℕ) × (known_print g.R.Read.remaining l.self ≡ Some rest) × Reading s g.W.Write.contents before print rest l.self;
}

abbrev pub decreases-reads : goal.decreases-reads
decreases-reads g l = bytes_left l.self
