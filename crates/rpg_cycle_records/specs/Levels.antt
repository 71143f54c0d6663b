-- Control levels: the bytes of their fields, and which level is broken.
use Rattle.std.specs.Prelude.{ℕ, zero, suc, ◌+◌, ◌-◌, Bool, true, false, not, ◌&&◌, ◌||◌, ◌==◌, nat_le, List, [], ◌∷◌, ◌++◌, map, slice_index_or, slice_range, Option, None, Some, if◌then◌else◌}
use Rattle.std.specs.List.{list_any}
use Rattle.rpg_program.specs.declared.input.ControlField.{ControlField}

-- the character of a digit in a numeric control field, without its sign: a blank is a zero, and any other byte is itself
abbrev pub unsigned_digit : ℕ → ℕ
unsigned_digit b =
    if (b == 32) || ((b == 123) || (b == 125)) then 48
    else (if nat_le 65 b && nat_le b 73 then b - 16
    else (if nat_le 74 b && nat_le b 82 then b - 25 else b))

-- a byte as it is compared
abbrev pub compared_byte : Bool → ℕ → ℕ
compared_byte is_numeric b = if is_numeric then unsigned_digit b else b

-- the bytes of a control field, as they are compared; the first column is 1
abbrev pub compared : List ℕ → ControlField → List ℕ
compared text f = map (compared_byte f.is_numeric) (slice_range text (f.from - 1) f.to)

-- the bytes of a control field, if it is of that level
abbrev pub at_level : List ℕ → ℕ → ControlField → List ℕ
at_level text level f = if f.level == level then compared text f else []

-- the bytes of a level: those of its fields, joined in order
abbrev pub joined_bytes : List ControlField → List ℕ → ℕ → List ℕ
joined_bytes [] text level = []
joined_bytes (f ∷ fs) text level = at_level text level f ++ joined_bytes fs text level

-- some field is of that level
abbrev pub has_level : List ControlField → ℕ → Bool
has_level fs level = list_any (λ f. f.level == level) fs

-- the bytes of a level, if a type with these fields has it
abbrev pub level_bytes : List ControlField → List ℕ → ℕ → Option (List ℕ)
level_bytes fs text level = if has_level fs level then Some (joined_bytes fs text level) else None

-- two texts are the same
abbrev pub same_bytes : List ℕ → List ℕ → Bool
same_bytes [] [] = true
same_bytes [] (y ∷ ys) = false
same_bytes (x ∷ xs) [] = false
same_bytes (x ∷ xs) (y ∷ ys) = (x == y) && same_bytes xs ys

-- a level is broken if its bytes aren't the last ones, or no record has had it
abbrev pub differs : Option (List ℕ) → Option (List ℕ) → Bool
differs last None = false
differs None (Some now) = true
differs (Some last) (Some now) = not (same_bytes last now)

-- the highest level up to the n-th that is broken, 0 if none
abbrev pub highest_broken : (ℕ → Bool) → ℕ → ℕ
highest_broken is_broken zero = 0
highest_broken is_broken (suc n) = if is_broken (n + 1) then n + 1 else highest_broken is_broken n

-- the highest level of these bytes that is broken; the last bytes are given L1 first
abbrev pub broken_in : List ControlField → List ℕ → List (Option (List ℕ)) → ℕ
broken_in fs text bytes = highest_broken (λ k. differs (slice_index_or bytes (k - 1) None) (level_bytes fs text k)) 9

-- the columns of a control field are within a record of that length
abbrev pub is_in_record : ℕ → ControlField → Bool
is_in_record len f = nat_le 1 f.from && (nat_le f.from f.to && nat_le f.to len)
