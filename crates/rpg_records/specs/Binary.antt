-- Binary numbers: two's complement, the highest byte first.
use Rattle.std.specs.Prelude.{ℕ, ◌+◌, ◌-◌, ◌*◌, ◌%◌, ◌^◌, ℤ, pos, neg_ℤ, unsigned_abs, nat_lt, if◌then◌else◌, List, [], ◌∷◌, length}
use Rattle.std.specs.Int.{is_negative}
use Rattle.rpg_records.specs.Parts.{lowest_parts}

-- the size of bytes, each by its place
abbrev pub byte_value : List ℕ → ℕ
byte_value [] = 0
byte_value (b ∷ bs) = b * 256 ^ length bs + byte_value bs

-- the upper half of the sizes is below zero
abbrev pub binary_number : List ℕ → ℤ
binary_number bytes = let size = byte_value bytes in let full = 256 ^ length bytes in
    if nat_lt (2 * size) full then pos size else neg_ℤ (pos (full - size))

-- the lowest k bytes of a size, the highest of them first
abbrev pub lowest_bytes : ℕ → ℕ → List ℕ
lowest_bytes = lowest_parts (λ n. n % 256) 256

-- the size of a number in k bytes
abbrev pub twos_complement : ℕ → ℤ → ℕ
twos_complement k n = if is_negative n then 256 ^ k - unsigned_abs n else unsigned_abs n

-- a number in k bytes
abbrev pub binary_bytes : ℕ → ℤ → List ℕ
binary_bytes k n = lowest_bytes k (twos_complement k n)
