-- Where no indicator is named.
use Rattle.std.proofs.Common.{◌≡◌, ℕ, true, ◌&&◌, Option, None, Some, is_none, refl}
use Rattle.std.specs.FinSet as set
use Rattle.std.specs.Ordering.{nat_cmp}
use Rattle.std.specs.declared.cmp.Ordering.{Ordering}
use Rattle.std.specs.declared.cmp.Ordering.TheVariants.{Equal, Greater, Less}
use Rattle.rpg_program.specs.Showing.{shown, shown_if_any}
use Rattle.rpg_program.specs.declared.operation.Shows.{Shows}
use Rattle.rpg_memory.specs.Silent.{names_none}

silent : (p m z : Option ℕ) (order : Ordering) (on : set.FinSet nat_cmp) → (is_none p && (is_none m && is_none z)) ≡ true → shown (record { plus = p; minus = m; zero = z }) order on ≡ on
unfolding shown
silent None None None Greater on h = refl
silent None None None Less on h = refl
silent None None None Equal on h = refl
silent None None (Some n) order on h = cc
silent None (Some n) z order on h = cc
silent (Some n) m z order on h = cc

-- nothing changes
pub nothing_shown : (s : Shows) (order : Ordering) (on : set.FinSet nat_cmp) → names_none s ≡ true → shown s order on ≡ on
nothing_shown s order on h = silent s.plus s.minus s.zero order on h

unshown : (p m z : Option ℕ) (on : set.FinSet nat_cmp) → (is_none p && (is_none m && is_none z)) ≡ true → shown_if_any (record { plus = p; minus = m; zero = z }) None on ≡ on
unfolding shown_if_any
unshown None None None on h = refl
unshown None None (Some n) on h = cc
unshown None (Some n) z on h = cc
unshown (Some n) m z on h = cc

-- nor where nothing was found
pub nothing_shown_if_any : (s : Shows) (order : Option Ordering) (on : set.FinSet nat_cmp) → names_none s ≡ true → shown_if_any s order on ≡ on
unfolding shown_if_any
nothing_shown_if_any s None on h = unshown s.plus s.minus s.zero on h
nothing_shown_if_any s (Some order) on h = nothing_shown s order on h
