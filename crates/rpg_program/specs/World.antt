-- What operations, input and output read and change. K names the fields, R orders them.
use Rattle.std.specs.Prelude.{ℤ, Bool, true, not, ◌&&◌, List, [], ◌∷◌, Option, None, Some, if◌then◌else◌, unwrap_or, ℕ}
use Rattle.std.specs.Ordering.{nat_cmp}
use Rattle.std.specs.declared.cmp.Ordering.{Ordering}
use Rattle.std.specs.FinMap as map
use Rattle.std.specs.FinSet as set
use Rattle.rpg_decimal_words.specs.Fraction.{Fraction}
use Rattle.rpg_paper.specs.Paper.{Position}
use Rattle.rpg_program.specs.Values.{Value, characters_of, entry_cmp, number_of}
use Rattle.rpg_program.specs.declared.condition.Condition.{Condition}
use Rattle.rpg_program.specs.declared.condition.Conditions.{Conditions}

-- the values by field and position, and the current entry of each table
pub record Fields {K : Type 0} (R : K → K → Ordering) : Type 0 where
  pub values : map.FinMap (entry_cmp R) Value
  pub current : map.FinMap R ℕ

-- what operations and input see and change: the fields, the indicators that are on, and the remainder of the last division
pub record Data {K : Type 0} (R : K → K → Ordering) : Type 0 where
  pub fields : Fields R
  pub on : set.FinSet nat_cmp
  pub remainder : Fraction

-- what lines also see and change: where the form is, and for overflow whether there was an overflow output that isn't settled
-- yet, and whether a movement has turned the indicator on since
pub record Paper : Type 0 where
  pub here : Position
  pub was_overflow : Bool
  pub has_turned_on : Bool

-- the data, and the paper that only lines see
pub record World {K : Type 0} (R : K → K → Ordering) : Type 0 where
  pub «data» : Data R
  pub paper : Paper

-- ---- conditions

-- its indicator is on or, if negated, off
abbrev pub holds : set.FinSet nat_cmp → Condition → Bool
holds on c = if c.is_negated then not (set.contains on c.indicator) else set.contains on c.indicator

-- all conditions of a list hold
abbrev pub all_hold : set.FinSet nat_cmp → List Condition → Bool
all_hold on [] = true
all_hold on (c ∷ cs) = holds on c && all_hold on cs

-- without a condition it holds
abbrev pub holds_if_any : set.FinSet nat_cmp → Option Condition → Bool
holds_if_any on None = true
holds_if_any on (Some c) = holds on c

-- all conditions in the three places hold
abbrev pub three_hold : set.FinSet nat_cmp → Conditions → Bool
three_hold on cs = holds_if_any on cs.first && (holds_if_any on cs.second && holds_if_any on cs.third)

-- ---- entries

module _ {K : Type 0} {R : K → K → Ordering} where
  -- the value of an entry: a field, and a position from 1
  abbrev pub value_in : Fields R → K × ℕ → Option Value
  value_in fields entry = map.get fields.values entry

  -- an entry takes a value
  abbrev pub with_value : K × ℕ → Value → Fields R → Fields R
  with_value entry v fields = record fields { values = map.insert fields.values entry v }

  -- the current entry of a table, at first its first one
  abbrev pub current_in : Fields R → K → ℕ
  current_in fields table = unwrap_or (map.get fields.current table) 1

  -- a position becomes the current one of a table
  abbrev pub with_current : K → ℕ → Fields R → Fields R
  with_current table position fields = record fields { current = map.insert fields.current table position }

  -- the world with that data
  abbrev pub with_data : Data R → World R → World R
  with_data d w = record w { «data» = d }

  -- the value at a position of a field
  abbrev pub value_at : Data R → K → ℕ → Option Value
  value_at d field position = value_in d.fields (field, position)

  -- the number at a position of a field
  abbrev pub number_at : Data R → K → ℕ → ℤ
  number_at d field position = number_of (value_at d field position)

  -- the characters at a position of a field
  abbrev pub characters_at : Data R → K → ℕ → List ℕ
  characters_at d field position = characters_of (value_at d field position)

  -- a value is put at a position of a field
  abbrev pub set_value : Data R → K → ℕ → Value → Data R
  set_value d field position v = record d { fields = with_value (field, position) v d.fields }

  -- a position becomes current in the data
  abbrev pub set_current : Data R → K → ℕ → Data R
  set_current d table position = record d { fields = with_current table position d.fields }
