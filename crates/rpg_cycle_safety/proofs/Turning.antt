-- Indicators that are turned, and steps that are charged: nothing else changes.
use Rattle.std.proofs.Common.{◌≡◌, ℕ, ◌+◌, ◌*◌, Bool, true, false, cond, eqb, List, [], ◌∷◌, Option, None, Some, refl, ap, ◌∙◌, arith}
use Rattle.rpg_cycle.specs.Indicators.{first_page, last_record, level_indicators, with_all, with_one, with_type, without_type, without_types}
use Rattle.rpg_cycle.specs.Phases.{all_off}
use Rattle.rpg_program.specs.Input.{TypeRow}
use Rattle.rpg_cycle_safety.proofs.Writing.{same_fields}
use Rattle.rpg_cycle_safety.specs.Holding.{Holds}
use Rattle.rpg_machine.specs.Config.{Config, here}
use Rattle.rpg_program.specs.Object.{Object}
use Rattle.rpg_cycle_safety.proofs.Working.{reach}
use Rattle.rpg_verify.specs.Bound.{most}

-- the same but for indicators and so many steps more
pub record Still (n : ℕ) (c d : Config) : Type 0 where
  pub fields : d.world.data.fields ≡ c.world.data.fields
  pub form : d.world.paper.here ≡ c.world.paper.here
  pub place : here d ≡ here c
  pub cells : d.cells ≡ c.cells
  pub steps : d.steps ≡ c.steps + n
  pub allowance : d.allowance ≡ c.allowance

pub one_still : (n : ℕ) (on : Bool) (c : Config) → Still 0 c (with_one n on c)
one_still n on c = record { fields = refl; form = refl; place = refl; cells = refl; steps = omega arith; allowance = refl }

pub itself : (c : Config) → Still 0 c c
itself c = record { fields = refl; form = refl; place = refl; cells = refl; steps = omega arith; allowance = refl }

-- so many steps, and so many more
pub still_then : (n m : ℕ) (c d e : Config) → Still n c d → Still m d e → Still (n + m) c e
still_then n m c d e h k = let one = h.steps in let two = k.steps in record { fields = k.fields ∙ h.fields; form = k.form ∙ h.form; place = k.place ∙ h.place; cells = k.cells ∙ h.cells; steps = omega (arith, one, two); allowance = k.allowance ∙ h.allowance }

pub all_still : (ns : List ℕ) (on : Bool) (c : Config) → Still 0 c (with_all ns on c)
all_still [] on c = itself c
all_still (n ∷ ns) on c = still_then 0 0 c (with_one n on c) (with_all ns on (with_one n on c)) (one_still n on c) (all_still ns on (with_one n on c))

pub type_still : (n : Option ℕ) (c : Config) → Still 0 c (with_type n c)
type_still None c = itself c
type_still (Some n) c = one_still n true c

last_still : (b : Bool) (n : ℕ) (c : Config) → Still 0 c (cond b c (with_one n false c))
last_still true n c = itself c
last_still false n c = one_still n false c

without_still : (n : Option ℕ) (c : Config) → Still 0 c (without_type n c)
without_still None c = itself c
without_still (Some n) c = last_still (eqb n last_record) n c

withouts_still : (ts : List (TypeRow ℕ)) (c : Config) → Still 0 c (without_types ts c)
withouts_still [] c = itself c
withouts_still (t ∷ ts) c =
    still_then 0 0 c (without_type t.indicator c) (without_types ts (without_type t.indicator c)) (without_still t.indicator c) (withouts_still ts (without_type t.indicator c))

pub off_still : (p : Object) (c : Config) → Still 0 c (all_off p c)
off_still p c =
    let one = without_types p.types c in
    let two = with_all level_indicators false one in
    still_then 0 0 c two (all_off p c) (still_then 0 0 c one two (withouts_still p.types c) (all_still level_indicators false one)) (one_still first_page false two)

-- LR and all levels
pub last_still_on : (c : Config) → Still 0 c (with_all level_indicators true (with_one last_record true c))
last_still_on c = still_then 0 0 c (with_one last_record true c) _ (one_still last_record true c) (all_still level_indicators true (with_one last_record true c))

-- ---- what stays

pub still_holds : (p : Object) (n : ℕ) (c d : Config) → Still n c d → Holds p c.world.data → Holds p d.world.data
still_holds p n c d s h = same_fields p c.world.data d.world.data h s.fields

pub still_reach : (p : Object) (n : ℕ) (c d : Config) → Still n c d → reach p d ≡ reach p c + n
still_reach p n c d s = let steps = s.steps in let same : d.allowance * most p ≡ c.allowance * most p = ap (λ a. a * most p) s.allowance in omega (arith, steps, same)
