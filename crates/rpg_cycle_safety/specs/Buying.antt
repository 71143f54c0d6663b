-- The costs that a spend can lead to. `most` is the greatest of them.
use Rattle.std.specs.Prelude.{◌≡◌, ℕ, ◌<◌, ◌≤◌, ◌⊎◌, Bool, length}
use Rattle.rpg_program.specs.declared.condition.Conditions.{Conditions}
use Rattle.rpg_program.specs.declared.operation.Instruction.TheVariants.{Branch}
use Rattle.rpg_program.specs.Object.{Object}
use Rattle.rpg_program.specs.Sections.{first_place}
use Rattle.rpg_program.specs.declared.section.Place.{Place}
use Rattle.rpg_program.specs.declared.section.Section.TheVariants.{Subroutine}
use Rattle.rpg_verify_rules.specs.Sound.{IsAt}
use Rattle.rpg_verify.specs.Bound.{cost}

-- a branch leads to a place of its section that isn't later
pub record LeadsBack (p : Object) (x : Place) (target : ℕ) : Type 0 where
  pub is_taken_where : Bool
  pub conditions : Conditions
  pub there : IsAt p x (Branch is_taken_where conditions target)
  pub back : target ≤ x.number

-- nothing; or the cost of such a branch's target; or that of a subroutine's first place
abbrev pub IsSpendCost : Object → ℕ → Type 0
IsSpendCost p n =
    (n ≡ 0)
    ⊎ (((x : Place) × (target : ℕ) × LeadsBack p x target × (n ≡ cost p (record { section = x.section; number = target })))
    ⊎ ((s : ℕ) × (s < length p.subroutines) × (n ≡ cost p (record { section = Subroutine s; number = first_place p (Subroutine s) }))))

-- the greatest of these
pub record IsGreatestSpend (p : Object) (n : ℕ) : Type 0 where
  pub above : (k : ℕ) → IsSpendCost p k → k ≤ n
  pub reached : IsSpendCost p n
