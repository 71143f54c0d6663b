-- Resulting indicators.
use Rattle.std.specs.Prelude.{ℕ, ℤ, pos, Bool, Option, None, Some, if◌then◌else◌}
use Rattle.std.specs.FinSet as set
use Rattle.std.specs.Ordering.{nat_cmp, int_cmp}
use Rattle.std.specs.declared.cmp.Ordering.{Ordering}
use Rattle.std.specs.declared.cmp.Ordering.TheVariants.{Less, Equal, Greater}
use Rattle.rpg_program.specs.declared.operation.Shows.{Shows}

-- an indicator turns on, if one is named
abbrev pub turned_on : Option ℕ → set.FinSet nat_cmp → set.FinSet nat_cmp
turned_on None on = on
turned_on (Some n) on = set.insert on n

-- an indicator turns off, if one is named
abbrev pub turned_off : Option ℕ → set.FinSet nat_cmp → set.FinSet nat_cmp
turned_off None on = on
turned_off (Some n) on = set.remove on n

-- the indicator for the order of a result relative to zero, or of factor 1 relative to factor 2
abbrev pub indicator_for : Shows → Ordering → Option ℕ
indicator_for s Greater = s.plus
indicator_for s Less = s.minus
indicator_for s Equal = s.zero

-- all named indicators turn off
abbrev pub named_off : Shows → set.FinSet nat_cmp → set.FinSet nat_cmp
named_off s on = turned_off s.zero (turned_off s.minus (turned_off s.plus on))

-- all named indicators turn on
abbrev pub all_on : Shows → set.FinSet nat_cmp → set.FinSet nat_cmp
all_on s on = turned_on s.zero (turned_on s.minus (turned_on s.plus on))

-- of the named indicators, only the one for this order is on afterwards
unfoldable pub shown : Shows → Ordering → set.FinSet nat_cmp → set.FinSet nat_cmp
shown s order on = turned_on (indicator_for s order) (named_off s on)

-- all named indicators turn off, and if there is an order, its indicator turns on
unfoldable pub shown_if_any : Shows → Option Ordering → set.FinSet nat_cmp → set.FinSet nat_cmp
shown_if_any s None on = named_off s on
shown_if_any s (Some order) on = shown s order on

-- SETON and SETOF
unfoldable pub set_to : Bool → Shows → set.FinSet nat_cmp → set.FinSet nat_cmp
set_to is_on s on = if is_on then all_on s on else named_off s on

-- how a number compares with zero
abbrev pub sign_of : ℤ → Ordering
sign_of n = int_cmp n (pos 0)
