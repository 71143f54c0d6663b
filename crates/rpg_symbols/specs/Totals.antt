-- How many names or constants there are, and the bytes that they take.
use Rattle.std.specs.Prelude.{ℕ, ◌+◌, Bool, List, nat_lt, slice_get, unwrap_or, if◌then◌else◌}
use Rattle.rpg_symbols.specs.declared.totals.Totals.{Totals}

-- the totals before each item of a list, and those of all items
pub record TotalsByItem : Type 0 where
  pub before : List Totals
  pub all : Totals

-- the totals with one more item, which counts if it is new
abbrev pub with_item : Totals → Bool → ℕ → Totals
with_item t is_new bytes = if is_new then record { number = t.number + 1; bytes = t.bytes + bytes } else t

-- the totals of the first n items
abbrev pub first_totals : TotalsByItem → ℕ → Totals
first_totals r n = unwrap_or (slice_get r.before n) r.all

-- the item after the first n counts: there are more with it
abbrev pub is_counted_at : TotalsByItem → ℕ → Bool
is_counted_at r n = nat_lt (first_totals r n).number (first_totals r (n + 1)).number
