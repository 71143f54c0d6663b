-- Indicators, which may be absent, and conditions.
use Rattle.std.specs.Prelude.{ℕ, ◌+◌, ◌/◌, ◌%◌, List, Bool, true, false, not, ◌&&◌, ◌==◌, nat_le, if◌then◌else◌, Option, Some, None, option_map, Result, Ok, Err}
use Rattle.rpg_program.specs.declared.condition.Condition.{Condition}
use Rattle.rpg_program.specs.declared.condition.Conditions.{Conditions}
use Rattle.rpg_program.specs.declared.operation.Shows.{Shows}
use Rattle.rpg_object_format.specs.declared.fault.Code.{Code}
use Rattle.rpg_object_format.specs.declared.fault.Code.TheVariants.{NotAllowed}
use Rattle.rpg_object_format.specs.Format.{Format, byte, pair, row}
use Rattle.rpg_object_format.specs.Numbers.{byte_where, yes_or_no}
use Rattle.rpg_text.specs.Texts.{is_between}
use Rattle.rpg_object_format.specs.Shapes.{counted_rows}

-- ---- indicators

-- 0 for none, or 1 to 129
abbrev pub indicator_by_number : ℕ → Result (Option ℕ) Code
indicator_by_number n = if n == 0 then Ok None else (if nat_le n 129 then Ok (Some n) else Err NotAllowed)

-- an indicator as a byte; 0 is none
abbrev pub indicator_number : Option ℕ → ℕ
indicator_number None = 0
indicator_number (Some n) = n

-- a byte for an indicator, or none
abbrev pub indicator_format : Format (Option ℕ)
indicator_format = byte indicator_by_number indicator_number

-- plus or high, minus or low, zero or equal
unfoldable pub shows_format : Format Shows
shows_format = row
    (λ p. record { plus = p.0; minus = p.1.0; zero = p.1.1 })
    (λ s. (s.plus, (s.minus, s.zero)))
    (pair indicator_format (λ plus. pair indicator_format (λ minus. indicator_format)))

-- ---- lists of conditions

-- N, and an indicator
unfoldable pub condition_format : Format Condition
condition_format = row
    (λ p. record { indicator = p.1; is_negated = p.0 })
    (λ c. (c.is_negated, c.indicator))
    (pair yes_or_no (λ is_negated. byte_where (is_between 1 129)))

-- a count, and the conditions
unfoldable pub alternative : Format (List Condition)
alternative = counted_rows 60 condition_format

-- ---- three conditions: their indicators, and N bits for those that are negated (1 the first, 2 the second, 4 the third)

-- the bit of that weight is on
abbrev pub has_bit : ℕ → ℕ → Bool
has_bit weight n = (n / weight) % 2 == 1

-- a bit of that weight
abbrev pub bit : ℕ → Bool → ℕ
bit weight is_on = if is_on then weight else 0

-- only an existing indicator is negated
abbrev pub may_negate : Option ℕ → Bool → Bool
may_negate None is_negated = not is_negated
may_negate (Some n) is_negated = true

-- N bits for these indicators
abbrev pub are_negations : Shows → ℕ → Bool
are_negations s n = nat_le n 7 && (may_negate s.plus (has_bit 1 n) && (may_negate s.minus (has_bit 2 n) && may_negate s.zero (has_bit 4 n)))

-- a condition on an indicator, if there is one
abbrev pub condition_with : Bool → Option ℕ → Option Condition
condition_with is_negated o = option_map (λ n. record { indicator = n; is_negated = is_negated }) o

-- three indicators as conditions, negated if their bits are on
abbrev pub conditions_of : Shows → ℕ → Conditions
conditions_of s n = record {
  first = condition_with (has_bit 1 n) s.plus;
  second = condition_with (has_bit 2 n) s.minus;
  third = condition_with (has_bit 4 n) s.zero;
}

-- the indicator of a condition
abbrev pub indicator_in : Option Condition → Option ℕ
indicator_in c = option_map (λ x. x.indicator) c

-- the condition is negated
abbrev pub is_negation : Option Condition → Bool
is_negation None = false
is_negation (Some c) = c.is_negated

-- the indicators of three conditions, each in its place
abbrev pub indicators_of : Conditions → Shows
indicators_of cs = record { plus = indicator_in cs.first; minus = indicator_in cs.second; zero = indicator_in cs.third }

-- the bits of the negated conditions
abbrev pub negations_of : Conditions → ℕ
negations_of cs = bit 1 (is_negation cs.first) + bit 2 (is_negation cs.second) + bit 4 (is_negation cs.third)

-- three indicators, N bits
unfoldable pub conditions_format : Format Conditions
conditions_format = row
    (λ p. conditions_of p.0 p.1)
    (λ cs. (indicators_of cs, negations_of cs))
    (pair shows_format (λ s. byte_where (are_negations s)))
