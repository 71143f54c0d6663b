-- Cards with other columns.
use Rattle.std.specs.Prelude.{ℕ, ◌+◌, ◌-◌, ◌/◌, ◌%◌, List, [], ◌∷◌, ◌++◌, drop, length, nat_le, replicate, take, if◌then◌else◌}

-- a digit of a number, by its power of ten; a blank instead of a leading zero
abbrev pub digit_or_blank : ℕ → ℕ → ℕ
digit_or_blank n place = if nat_le place n then 48 + n / place % 10 else 32

-- a number in four columns, to the right: its last four digits
abbrev pub number_columns : ℕ → List ℕ
number_columns n = digit_or_blank n 1000 ∷ digit_or_blank n 100 ∷ digit_or_blank n 10 ∷ (48 + n % 10) ∷ []

-- the first n columns of a line, with blanks after its end
abbrev pub first_columns : ℕ → List ℕ → List ℕ
first_columns n line = take n line ++ replicate (n - length line) 32

-- a line with a text in its columns, from the first of these on
abbrev pub with_columns : ℕ → List ℕ → List ℕ → List ℕ
with_columns first text line = first_columns (first - 1) line ++ (text ++ drop (first - 1 + length text) line)
