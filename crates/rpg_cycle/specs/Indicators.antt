-- Indicators that the cycle itself reads and sets, by number.
use Rattle.std.specs.Prelude.{◌≡◌, ℕ, Bool, true, false, ◌||◌, ◌==◌, List, [], ◌∷◌, take, Option, None, Some, if◌then◌else◌}
use Rattle.std.specs.FinSet as set
use Rattle.std.specs.Ordering.{nat_cmp}
use Rattle.rpg_program.specs.Input.{TypeRow}
use Rattle.rpg_program.specs.World.{with_data}
use Rattle.rpg_machine.specs.Config.{Config}
use Rattle.rpg_machine.specs.Ready.{IsReady}
use Rattle.rpg_machine.specs.Running.{Running}

-- LR
abbrev pub last_record : ℕ
last_record = 110

-- 1P
abbrev pub first_page : ℕ
first_page = 111

-- L0, which is always on
abbrev pub level_zero : ℕ
level_zero = 100

-- MR
abbrev pub matching_record : ℕ
matching_record = 129

-- L1 to L9
abbrev pub level_indicators : List ℕ
level_indicators = 101 ∷ 102 ∷ 103 ∷ 104 ∷ 105 ∷ 106 ∷ 107 ∷ 108 ∷ 109 ∷ []

-- H1 to H9
abbrev pub halt_indicators : List ℕ
halt_indicators = 120 ∷ 121 ∷ 122 ∷ 123 ∷ 124 ∷ 125 ∷ 126 ∷ 127 ∷ 128 ∷ []

-- the indicator is on
abbrev pub is_on : Config → ℕ → Bool
is_on c n = set.contains c.world.data.on n

-- one of the indicators is on
abbrev pub any_on : Config → List ℕ → Bool
any_on c [] = false
any_on c (n ∷ ns) = is_on c n || any_on c ns

-- an indicator is set
abbrev pub indicators_turned : ℕ → Bool → set.FinSet nat_cmp → set.FinSet nat_cmp
indicators_turned n on indicators = if on then set.insert indicators n else set.remove indicators n

-- one indicator turned on or off
abbrev pub with_one : ℕ → Bool → Config → Config
with_one n on c = record c { world = with_data (record c.world.data { on = indicators_turned n on c.world.data.on }) c.world }

-- these indicators turned on or off
abbrev pub with_all : List ℕ → Bool → Config → Config
with_all [] on c = c
with_all (n ∷ ns) on c = with_all ns on (with_one n on c)

-- L1 to the n-th level turned on
abbrev pub with_levels : ℕ → Config → Config
with_levels n c = with_all (take n level_indicators) true c

-- a record type's indicator turned on
abbrev pub with_type : Option ℕ → Config → Config
with_type None c = c
with_type (Some n) c = with_one n true c

-- a record type's indicator turned off, unless it is LR
abbrev pub without_type : Option ℕ → Config → Config
without_type None c = c
without_type (Some n) c = if n == last_record then c else with_one n false c

-- the indicators of these record types turned off
abbrev pub without_types : List (TypeRow ℕ) → Config → Config
without_types [] c = c
without_types (t ∷ ts) c = without_types ts (without_type t.indicator c)

-- a machine's indicators were turned like this, it is as ready as before, and nothing else changed
pub record Turns (f : Config → Config) (old new : Running) : Type 0 where
  pub turned : new ≡ record old { config = f old.config }
  pub ready : IsReady old → IsReady new
