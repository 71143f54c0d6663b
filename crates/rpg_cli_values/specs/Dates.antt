-- Dates of six digits: a day in each order, and what may be a date.
use Rattle.std.specs.Prelude.{ℕ, ◌+◌, ◌/◌, ◌%◌, Bool, ◌&&◌, ◌||◌, ◌==◌, nat_le, if◌then◌else◌, List, [], ◌∷◌}
use Rattle.rpg_cli_values.specs.declared.day.DateOrder.{DateOrder}
use Rattle.rpg_cli_values.specs.declared.day.DateOrder.TheVariants.{MonthFirst, DayFirst, YearFirst}
use Rattle.rpg_cli_values.specs.declared.day.Day.{Day}

-- the characters of a number below 100
abbrev pub tens : ℕ → ℕ
tens n = 48 + n / 10

-- the character of a number's last digit
abbrev pub ones : ℕ → ℕ
ones n = 48 + n % 10

-- three numbers of two digits each
abbrev pub six : ℕ → ℕ → ℕ → List ℕ
six a b c = tens a ∷ ones a ∷ tens b ∷ ones b ∷ tens c ∷ ones c ∷ []

-- a day in six digits
abbrev pub six_digits : Day → DateOrder → List ℕ
six_digits d MonthFirst = six d.month d.day d.year
six_digits d DayFirst = six d.day d.month d.year
six_digits d YearFirst = six d.year d.month d.day

-- April, June, September and November
abbrev pub is_short : ℕ → Bool
is_short month = month == 4 || month == 6 || month == 9 || month == 11

-- the days that a month has at most
abbrev pub days_of : ℕ → ℕ
days_of month = if month == 2 then 29 else if is_short month then 30 else 31

-- a month of a year, and a day that it may have
abbrev pub is_day : ℕ → ℕ → Bool
is_day month day = nat_le 1 month && nat_le month 12 && (nat_le 1 day && nat_le day (days_of month))

-- month and day, day and month, or year, month and day
abbrev pub may_be_date : ℕ → ℕ → ℕ → Bool
may_be_date a b c = is_day a b || is_day b a || is_day b c
