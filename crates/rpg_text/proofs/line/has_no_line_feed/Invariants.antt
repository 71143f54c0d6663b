use Rattle.std.proofs.Common.{◌≡◌, take}
use Rattle.rpg_text.specs.Lines.{is_line}
use Rattle.rpg_text.proofs.line.has_no_line_feed.Given as goal

abbrev pub invariant-loop-byte : goal.invariant-loop-byte
invariant-loop-byte l = l.has_none ≡ is_line (take l.byte-index l.text)
