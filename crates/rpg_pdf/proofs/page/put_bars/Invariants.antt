use Rattle.std.proofs.Common.{◌≡◌, ◌++◌}
use Rattle.rpg_pdf.specs.Contents.{bars_text}
use Rattle.rpg_pdf.proofs.page.put_bars.Given as goal

abbrev pub invariant-loop-bar : goal.invariant-loop-bar
invariant-loop-bar l = l.out.items ≡ l.initial.out.items ++ bars_text l.sheet l.bar
