use Rattle.std.proofs.Common.{◌≡◌, ◌++◌, drop}
use Rattle.rpg_pdf.specs.Texts.{filled}
use Rattle.rpg_pdf.proofs.text.fill.Given as goal

abbrev pub invariant-loop-byte : goal.invariant-loop-byte
invariant-loop-byte l = l.initial.out.items ++ filled l.text l.numbers ≡ l.out.items ++ filled (drop l.byte-index l.text) (drop l.used l.numbers)
