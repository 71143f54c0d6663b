-- The numbers of cells.
use Rattle.std.specs.Prelude.{ℕ, ◌+◌, ◌-◌, ◌*◌, ◌^◌, ◌==◌, ◌&&◌, ◌||◌, not, nat_le, nat_lt, ℤ, pos, neg_ℤ, Bool, true, false, if◌then◌else◌, List, [], ◌∷◌, length, map, min, take, Option, None, Some, Result, Ok, Err}
use Rattle.std.specs.List.{filter, list_all, list_any, suffix_len}
use Rattle.rpg_text.specs.Texts.{trimmed}
use Rattle.rpg_decimal_words.specs.Place.{place_value}
use Rattle.rpg_decimal_words.specs.Zoned.{digit_of, is_digit, last_of}
use Rattle.rpg_csv_values.specs.declared.cell.CellFault.{CellFault}
use Rattle.rpg_csv_values.specs.declared.cell.CellFault.TheVariants as faults
use Rattle.rpg_csv_values.specs.declared.number.NumberFormat.{NumberFormat}

-- a count stops at the largest number of 64 bits
abbrev pub counted : ℕ → ℕ
counted n = min n (2 ^ 64 - 1)

-- without the blanks at both ends
abbrev pub without_blanks : List ℕ → List ℕ
without_blanks [] = []
without_blanks (c ∷ cs) = if c == 32 then without_blanks cs else trimmed (c ∷ cs)

-- a minus in front, or at the end where no sign is in front
abbrev pub has_minus : List ℕ → Bool
has_minus [] = false
has_minus (c ∷ cs) = c == 45 || (not (c == 43) && last_of (c ∷ cs) == 45)

-- without that sign, or a plus in front
abbrev pub without_sign : List ℕ → List ℕ
without_sign [] = []
without_sign (c ∷ cs) = if c == 45 || c == 43 then cs else (if last_of (c ∷ cs) == 45 then take (length cs) (c ∷ cs) else c ∷ cs)

-- what comes before the first decimal point
abbrev pub before_point : ℕ → List ℕ → List ℕ
before_point d [] = []
before_point d (c ∷ cs) = if c == d then [] else c ∷ before_point d cs

-- and after it
abbrev pub after_point : ℕ → List ℕ → List ℕ
after_point d [] = []
after_point d (c ∷ cs) = if c == d then cs else after_point d cs

-- without the zeros at the end
abbrev pub without_zeros : List ℕ → List ℕ
without_zeros digits = take (length digits - suffix_len (λ c. c == 48) digits) digits

-- separators stand between groups of three digits, the first of one to three: whether it is in the first group, and how many digits it has so far
abbrev pub is_grouped : ℕ → Bool → ℕ → List ℕ → Bool
is_grouped g first k [] = k == 3
is_grouped g first k (c ∷ cs) = if c == g then (k == 3 || (first && nat_lt 0 k)) && is_grouped g false 0 cs else nat_lt k 3 && is_grouped g first (k + 1) cs

-- this separates groups
abbrev pub is_separator : Option ℕ → ℕ → Bool
is_separator None c = false
is_separator (Some g) c = c == g

-- digits without the separators of groups
abbrev pub ungrouped : Option ℕ → List ℕ → List ℕ
ungrouped group digits = filter (λ c. not (is_separator group c)) digits

-- the number of a text that has only digits and separators
abbrev pub digits_number : Option ℕ → List ℕ → Option ℕ
digits_number group text = if list_all is_digit (ungrouped group text) then Some (counted (place_value (map digit_of (ungrouped group text)))) else None

-- the number before the point: if it has a separator, all groups have three digits
abbrev pub whole_number : Option ℕ → List ℕ → Option ℕ
whole_number None text = digits_number None text
whole_number (Some g) text = if list_any (λ c. c == g) text && not (is_grouped g true 0 text) then None else digits_number (Some g) text

-- ---- in units of the last of a field's decimals

-- so many digits before the decimals, and so many after them
abbrev pub number_size : ℕ → ℕ → ℕ → ℕ → ℕ → Result ℕ CellFault
number_size before decimals whole part_length part =
    if nat_lt decimals part_length then Err (faults.Decimals decimals)
    else (if nat_le (10 ^ before) whole then Err (faults.Digits before) else Ok (counted (whole * 10 ^ decimals + part * 10 ^ (decimals - part_length))))

-- of at most this many digits, under its sign
abbrev pub signed_size : ℕ → ℕ → Bool → Result ℕ CellFault → Result ℤ CellFault
signed_size before width minus (Err fault) = Err fault
signed_size before width minus (Ok size) = if nat_le (10 ^ width) size then Err (faults.Digits before) else Ok (if minus then neg_ℤ (pos size) else pos size)

-- of what stands before the point and after it
abbrev pub parts_number : ℕ → ℕ → Bool → Option ℕ → ℕ → Option ℕ → Result ℤ CellFault
parts_number decimals width minus (Some whole) part_length (Some part) = signed_size (width - decimals) width minus (number_size (width - decimals) decimals whole part_length part)
parts_number decimals width minus (Some whole) part_length None = Err faults.NoNumber
parts_number decimals width minus None part_length part = Err faults.NoNumber

-- of digits with a point
abbrev pub digits_with_point : NumberFormat → ℕ → ℕ → Bool → List ℕ → Result ℤ CellFault
digits_with_point f decimals width minus digits =
    let part = after_point f.decimal digits in
    if length (before_point f.decimal digits) == 0 && length part == 0 then Err faults.NoNumber
    else parts_number decimals width minus (whole_number f.group (before_point f.decimal digits)) (length (without_zeros part)) (digits_number None (without_zeros part))

-- the number of a cell without blanks, for a field of so many digits and decimals
abbrev pub cell_number : NumberFormat → ℕ → ℕ → List ℕ → Result ℤ CellFault
cell_number f decimals width text = digits_with_point f decimals width (has_minus text) (without_sign text)
