use denote.Ref.{Bor}
use Rattle.std.specs.Option.{option_map_or}
use Rattle.std.proofs.Common.{ℕ, List, ◌≡◌, ◌+◌, ◌++◌, ◌≤◌, length}
use Rattle.rpg_pdf.specs.Contents.{strikes_fault, strikes_text}
use Rattle.rpg_pdf.specs.Pages.{parts_in, strikes}
use Rattle.rpg_pdf.proofs.page.put_line.Given as goal

abbrev pub invariant-loop-rest : goal.invariant-loop-rest
invariant-loop-rest l = record {
  low : l.number ≤ 3;
  faults : strikes_fault l.sheet l.line (strikes l.text) ≡ strikes_fault l.sheet l.line (parts_in 13 l.rest);
  text : l.initial.out.items ++ strikes_text l.sheet l.line 0 (strikes l.text) ≡ l.out.items ++ strikes_text l.sheet l.line l.number (parts_in 13 l.rest);
}

abbrev pub decreases-loop-rest : goal.decreases-loop-rest
decreases-loop-rest l = option_map_or (λ (t : Bor (List ℕ)). length t.now + 1) l.rest 0
