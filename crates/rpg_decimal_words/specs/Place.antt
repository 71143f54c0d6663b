-- Digits and their places.
use Rattle.std.specs.Prelude.{ℕ, zero, suc, ◌+◌, ◌*◌, ◌/◌, ◌%◌, ◌^◌, ℤ, pos, neg_ℤ, Bool, if◌then◌else◌, List, [], ◌∷◌, length}

-- the number that digits spell, each by its place
abbrev pub place_value : List ℕ → ℕ
place_value [] = 0
place_value (d ∷ ds) = d * 10 ^ length ds + place_value ds

-- the lowest k digits of n, the highest of them first
abbrev pub lowest_digits : ℕ → ℕ → List ℕ
lowest_digits zero n = []
lowest_digits (suc k) n = (n / 10 ^ k % 10) ∷ lowest_digits k n

-- the number of these digits, negative if required; minus zero is zero
abbrev pub signed_number : Bool → List ℕ → ℤ
signed_number negative ds = if negative then neg_ℤ (pos (place_value ds)) else pos (place_value ds)
