-- A search, in terms of positions.
use Rattle.std.specs.Prelude.{◌≡◌, ℕ, ◌≤◌, ◌<◌, Bool, true, false, MatchOption}
use Rattle.std.specs.declared.cmp.Ordering.{Ordering}
use Rattle.rpg_program.specs.Search.{first_one, last_one, positions, stands}

-- it passes, and none before it does
pub record IsFirst (test : ℕ → Bool) (from last n : ℕ) : Type 0 where
  pub low : from ≤ n
  pub high : n ≤ last
  pub passes : test n ≡ true
  pub before : (m : ℕ) → from ≤ m → m < n → test m ≡ false

-- it passes, and none after it does
pub record IsLast (test : ℕ → Bool) (from last n : ℕ) : Type 0 where
  pub low : from ≤ n
  pub high : n ≤ last
  pub passes : test n ≡ true
  pub following : (m : ℕ) → n < m → m ≤ last → test m ≡ false

-- no position passes
abbrev pub NonePasses : (ℕ → Bool) → ℕ → ℕ → Type 0
NonePasses test from last = (m : ℕ) → from ≤ m → m ≤ last → test m ≡ false

-- a search for the first finds the first position that passes, and none exactly if none does
abbrev pub FindsFirst : Type 0
FindsFirst = (standing : ℕ → Ordering) (order : Ordering) (from last : ℕ) →
    MatchOption (first_one standing order (positions from last)) (NonePasses (stands standing order) from last) (IsFirst (stands standing order) from last)

-- a search for the last finds the last position that passes, and none exactly if none does
abbrev pub FindsLast : Type 0
FindsLast = (standing : ℕ → Ordering) (order : Ordering) (from last : ℕ) →
    MatchOption (last_one standing order (positions from last)) (NonePasses (stands standing order) from last) (IsLast (stands standing order) from last)
