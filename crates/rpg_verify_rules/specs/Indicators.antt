-- Which indicators are allowed where: 1 to 99, L0 (100), L1 to LR (101 to 110), 1P (111), overflow (112 to 119), H1 to H9 (120 to 128), MR (129).
use Rattle.std.specs.Prelude.{ℕ, Bool, true, ◌&&◌, ◌||◌, nat_le, Option, None, Some, is_some, if◌then◌else◌}
use Rattle.rpg_program.specs.declared.condition.Condition.{Condition}
use Rattle.rpg_program.specs.declared.condition.Conditions.{Conditions}
use Rattle.rpg_program.specs.declared.operation.Shows.{Shows}
use Rattle.rpg_program.specs.Object.{has_secondary}
use Rattle.rpg_program.specs.declared.rows.Version.{Version}
use Rattle.rpg_text.specs.Texts.{is_between}

-- all but L0, 1P and MR
abbrev pub is_settable : ℕ → Bool
is_settable n = is_between 1 99 n || (is_between 101 110 n || is_between 112 128 n)

-- what a record type may turn on: all that may be set, except overflow
abbrev pub is_of_type : ℕ → Bool
is_of_type n = is_between 1 99 n || (is_between 101 110 n || is_between 120 128 n)

-- it passes, if it exists
abbrev pub if_any : {X : Type 0} → (X → Bool) → Option X → Bool
if_any test None = true
if_any test (Some x) = test x

-- each of three that is present passes
abbrev pub are_settable : Shows → Bool
are_settable s = if_any is_settable s.plus && (if_any is_settable s.minus && if_any is_settable s.zero)

-- one of three is present
abbrev pub has_shows : Shows → Bool
has_shows s = is_some s.plus || (is_some s.minus || is_some s.zero)

-- conditions may name MR only where there can be a secondary file
abbrev pub highest_testable : Version → ℕ
highest_testable v = if has_secondary v then 129 else 128

-- the condition is on an indicator that the version has
abbrev pub is_testable : Version → Condition → Bool
is_testable v c = nat_le c.indicator (highest_testable v)

-- each of three that is present may be tested
abbrev pub all_testable : Version → Conditions → Bool
all_testable v cs = if_any (is_testable v) cs.first && (if_any (is_testable v) cs.second && if_any (is_testable v) cs.third)
