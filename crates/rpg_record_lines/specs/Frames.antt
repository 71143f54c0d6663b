-- Records as they are written to a file.
use Rattle.std.specs.Prelude.{ℕ, ◌+◌, ◌/◌, ◌%◌, List, [], ◌∷◌, ◌++◌, length}
use Rattle.rpg_text.specs.Lines.{with_line_feed}
use Rattle.rpg_record_lines.specs.declared.frames.Framing.{Framing}
use Rattle.rpg_record_lines.specs.declared.frames.Framing.TheVariants as framings

-- the length of a record of n bytes and its descriptor word, in 16 bits
abbrev pub whole_length : ℕ → ℕ
whole_length n = (n + 4) % 65536

-- the descriptor word of a record of n bytes: its first two bytes are the length of both
abbrev pub descriptor : ℕ → List ℕ
descriptor n = whole_length n / 256 ∷ (whole_length n % 256 ∷ (0 ∷ (0 ∷ [])))

-- the bytes of a record in its file
abbrev pub frame : Framing → List ℕ → List ℕ
frame framings.EndToEnd r = r
frame framings.Descriptors r = descriptor (length r) ++ r
frame framings.Lines r = with_line_feed r
