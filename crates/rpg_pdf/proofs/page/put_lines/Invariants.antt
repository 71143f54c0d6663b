use denote.Ref.{Bor}
use Rattle.std.specs.Option.{option_map_or}
use Rattle.std.proofs.Common.{ℕ, List, ◌≡◌, ◌+◌, ◌++◌, length}
use Rattle.rpg_pdf.specs.Contents.{lines_fault, lines_text}
use Rattle.rpg_pdf.specs.Pages.{lines_in, parts_in}
use Rattle.rpg_pdf.proofs.page.put_lines.Given as goal

abbrev pub invariant-loop-rest : goal.invariant-loop-rest
invariant-loop-rest l = record {
  count : l.line + length (parts_in 10 l.rest) ≡ length (lines_in l.page);
  faults : lines_fault l.sheet 0 (lines_in l.page) ≡ lines_fault l.sheet l.line (parts_in 10 l.rest);
  text : l.initial.out.items ++ lines_text l.sheet 0 (lines_in l.page) ≡ l.out.items ++ lines_text l.sheet l.line (parts_in 10 l.rest);
}

abbrev pub decreases-loop-rest : goal.decreases-loop-rest
decreases-loop-rest l = option_map_or (λ (t : Bor (List ℕ)). length t.now + 1) l.rest 0
