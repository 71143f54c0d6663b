-- A buffer of bytes as its callers see it.
use Rattle.std.specs.Prelude.{ℕ, List, slice_range, vec_len}
use Rattle.rpg_files.specs.declared.buffer.Buffer.{Buffer}

-- the bytes that were read but not yet consumed
abbrev pub left_in : Buffer → List ℕ
left_in w = slice_range w.buf.items w.start w.end

-- its capacity
abbrev pub capacity_of : Buffer → ℕ
capacity_of w = vec_len w.buf
