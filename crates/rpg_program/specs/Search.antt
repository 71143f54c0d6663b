-- LOKUP: what a search finds.
use Rattle.std.specs.Prelude.{ℕ, ◌+◌, ◌-◌, Bool, true, false, List, reverse, Option, None, Some}
use Rattle.std.specs.List.{find, range_with_len}
use Rattle.std.specs.declared.cmp.Ordering.{Ordering}
use Rattle.std.specs.declared.cmp.Ordering.TheVariants.{Less, Equal, Greater}
use Rattle.rpg_program.specs.declared.operation.Found.{Found}
use Rattle.rpg_program.specs.declared.operation.Shows.{Shows}

-- two orders are the same
abbrev pub same_order : Ordering → Ordering → Bool
same_order Less Less = true
same_order Equal Equal = true
same_order Greater Greater = true
same_order a b = false

-- the positions from one to the last, in order
abbrev pub positions : ℕ → ℕ → List ℕ
positions from last = range_with_len from (last + 1 - from)

-- a position found, with its order
abbrev pub found_as : Ordering → Option ℕ → Option Found
found_as order None = None
found_as order (Some n) = Some (record { order = order; position = n })

-- what is found, if an indicator is named for it
abbrev pub if_named : Option ℕ → Option Found → Option Found
if_named None f = None
if_named (Some indicator) f = f

-- one, or the other if nothing was found
abbrev pub or_else : Option Found → Option Found → Option Found
or_else None g = g
or_else (Some f) g = Some f

-- `standing` is how the entry at a position compares with the searched value
module _ (standing : ℕ → Ordering) where
  -- the entry at a position has this order relative to the searched value
  abbrev pub stands : Ordering → ℕ → Bool
  stands order n = same_order order (standing n)

  -- the first entry that has that order
  unfoldable pub first_one : Ordering → List ℕ → Option ℕ
  first_one order ns = find (stands order) ns

  -- the last entry that has that order
  unfoldable pub last_one : Ordering → List ℕ → Option ℕ
  last_one order ns = find (stands order) (reverse ns)

  -- of the greater ones the first, of the smaller ones the last, which are next to it in ascending sequence
  abbrev pub nearest : Ordering → List ℕ → Option ℕ
  nearest Equal ns = first_one Equal ns
  nearest Greater ns = first_one Greater ns
  nearest Less ns = last_one Less ns

  -- the nearest of the entries that EQ, HI or LO name; EQ's has priority
  unfoldable pub search_of : Shows → List ℕ → Option Found
  search_of s ns =
      or_else (if_named s.zero (found_as Equal (nearest Equal ns)))
      (or_else (if_named s.plus (found_as Greater (nearest Greater ns)))
      (if_named s.minus (found_as Less (nearest Less ns))))
