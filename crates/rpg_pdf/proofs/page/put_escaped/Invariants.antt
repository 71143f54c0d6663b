use Rattle.std.proofs.Common.{◌≡◌, ◌++◌, take}
use Rattle.rpg_pdf.specs.Contents.{escaped}
use Rattle.rpg_pdf.proofs.page.put_escaped.Given as goal

abbrev pub invariant-loop-byte : goal.invariant-loop-byte
invariant-loop-byte l = l.out.items ≡ l.initial.out.items ++ escaped (take l.byte-index l.text)
