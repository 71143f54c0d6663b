-- The values of numbers, and the formats of single numbers.
use Rattle.std.specs.Prelude.{ℕ, ◌/◌, ◌%◌, List, [], ◌∷◌, Bool, true, false, ◌==◌, nat_le, if◌then◌else◌, Result, Ok, Err}
use Rattle.rpg_object_format.specs.declared.fault.Code.{Code}
use Rattle.rpg_object_format.specs.declared.fault.Code.TheVariants.{NotAllowed, PastLimit}
use Rattle.rpg_object_format.specs.Format.{Format, byte, two_bytes}

-- the numbers that pass a test
abbrev pub allowed : (ℕ → Bool) → ℕ → Result ℕ Code
allowed test n = if test n then Ok n else Err NotAllowed

-- any number passes
abbrev pub is_any_number : ℕ → Bool
is_any_number n = true

-- the choice with this number
abbrev pub choice : {K : Type 0} → List K → (K → ℕ) → ℕ → Result K Code
choice [] number n = Err NotAllowed
choice (k ∷ ks) number n = if number k == n then Ok k else choice ks number n

-- a number of rows up to a limit
abbrev pub up_to : ℕ → ℕ → Result ℕ Code
up_to limit n = if nat_le n limit then Ok n else Err PastLimit

-- a number that is always the same, and the fault of any other
abbrev pub exactly : ℕ → Code → ℕ → Result (Unit {0}) Code
exactly k c n = if n == k then Ok tt else Err c

-- a flag as a number
abbrev pub flag_number : Bool → ℕ
flag_number false = 0
flag_number true = 1

-- a number as its two bytes
abbrev pub two : ℕ → List ℕ
two n = n / 256 ∷ n % 256 ∷ []

-- ---- formats of single numbers

-- two bytes whose number passes a test
abbrev pub number_where : (ℕ → Bool) → Format ℕ
number_where test = two_bytes (allowed test) (λ n. n)

-- two bytes, with any number
abbrev pub any_number : Format ℕ
any_number = number_where is_any_number

-- a byte that passes a test
abbrev pub byte_where : (ℕ → Bool) → Format ℕ
byte_where test = byte (allowed test) (λ n. n)

-- a byte for one of several choices
abbrev pub choice_format : {K : Type 0} → List K → (K → ℕ) → Format K
choice_format ks number = byte (choice ks number) number

-- 0 is no, 1 is yes
abbrev pub flag : ℕ → Result Bool Code
flag = choice (false ∷ true ∷ []) flag_number

-- a byte for no or yes
abbrev pub yes_or_no : Format Bool
yes_or_no = byte flag flag_number

-- a count of rows
abbrev pub count : ℕ → Format ℕ
count limit = two_bytes (up_to limit) (λ n. n)

-- the number k, and the fault of any other
abbrev pub only_byte : ℕ → Code → Format (Unit {0})
only_byte k c = byte (exactly k c) (λ u. k)

-- two bytes that have only one allowed number
abbrev pub only_number : ℕ → Code → Format (Unit {0})
only_number k c = two_bytes (exactly k c) (λ u. k)
