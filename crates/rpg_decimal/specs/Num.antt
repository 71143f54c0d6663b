-- The values of numbers.
use Rattle.rpg_decimal_words.specs.Fraction.{Fraction, with_decimals}
use Rattle.rpg_decimal.specs.declared.num.Num.{Num}

-- the value of a number
abbrev pub value_of : Num → Fraction
value_of a = with_decimals a.value a.dec
