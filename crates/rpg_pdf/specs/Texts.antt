-- Texts with numbers.
use Rattle.std.specs.Prelude.{ℕ, ◌+◌, ◌-◌, ◌/◌, ◌%◌, ◌==◌, ◌||◌, Bool, if◌then◌else◌, List, [], ◌∷◌, ◌++◌, length, replicate, decimal}

-- hundredths of a point, as points with two decimals
abbrev pub points : ℕ → List ℕ
points n = decimal (n / 100) ++ 46 ∷ (48 + n % 100 / 10) ∷ (48 + n % 10) ∷ []

-- with zeros before it, as ten digits
abbrev pub ten_digits : ℕ → List ℕ
ten_digits n = replicate (10 - length (decimal n)) 48 ++ decimal n

-- a number has its place at one of the marks `#`, `$` and `@`
abbrev pub is_mark : ℕ → Bool
is_mark b = (b == 35 || b == 36) || b == 64

-- `$` is hundredths of a point, `@` ten digits, `#` any number
abbrev pub number_by : ℕ → ℕ → List ℕ
number_by mark n = if mark == 36 then points n else (if mark == 64 then ten_digits n else decimal n)

-- a text with these numbers in place of its first marks
unfoldable pub filled : (text numbers : List ℕ) → List ℕ
filled text [] = text
filled [] (n ∷ numbers) = []
filled (b ∷ text) (n ∷ numbers) = if is_mark b then number_by b n ++ filled text numbers else b ∷ filled text (n ∷ numbers)
