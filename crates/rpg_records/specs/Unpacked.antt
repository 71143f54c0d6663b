-- Packed and binary numbers as zoned texts, and back.
use Rattle.std.specs.Prelude.{ℕ, ℤ, ◌^◌, nat_lt, unsigned_abs, if◌then◌else◌, List, Option, Some, None, option_and_then, option_map}
use Rattle.rpg_decimal_words.specs.Zoned.{number_in, zoned_text}
use Rattle.rpg_records.specs.Binary.{binary_bytes, binary_number}
use Rattle.rpg_records.specs.Packed.{is_packed, packed_bytes, packed_in}
use Rattle.rpg_records.specs.declared.digits.NumberFault.{NumberFault}
use Rattle.rpg_records.specs.declared.digits.NumberFault.TheVariants as numbers

-- the k digits of a number, if it has no more
abbrev pub number_text : ℕ → ℤ → Option (List ℕ)
number_text k n = if nat_lt (unsigned_abs n) (10 ^ k) then Some (zoned_text k n) else None

-- the k digits of packed bytes, if they are a number that has no more
abbrev pub packed_text : ℕ → List ℕ → Option (List ℕ)
packed_text k bytes = option_and_then (number_text k) (packed_in bytes)

-- why packed bytes have no such digits
abbrev pub packed_fault : List ℕ → NumberFault
packed_fault bytes = if is_packed bytes then numbers.TooLarge else numbers.NotPacked

-- the k digits of binary bytes, if they have no more
abbrev pub binary_text : ℕ → List ℕ → Option (List ℕ)
binary_text k bytes = number_text k (binary_number bytes)

-- the k packed bytes of digits, if they are a number
abbrev pub bytes_of_packed_text : ℕ → List ℕ → Option (List ℕ)
bytes_of_packed_text k digits = option_map (packed_bytes k) (number_in digits)

-- the k binary bytes of digits, if they are a number
abbrev pub bytes_of_binary_text : ℕ → List ℕ → Option (List ℕ)
bytes_of_binary_text k digits = option_map (binary_bytes k) (number_in digits)
