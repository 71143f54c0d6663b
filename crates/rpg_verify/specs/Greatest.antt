-- The meaning of path costs and of the bound, place by place.
use Rattle.std.specs.Prelude.{ℕ, Bool, List, ◌<◌, ◌≤◌, ◌^◌, slice_index}
use Rattle.rpg_program.specs.declared.condition.Conditions.{Conditions}
use Rattle.rpg_program.specs.declared.operation.Instruction.TheVariants.{Branch}
use Rattle.rpg_program.specs.ObjectInstructions.{weight}
use Rattle.rpg_program.specs.Object.{Object}
use Rattle.rpg_program.specs.Sections.{first_place, place_after}
use Rattle.rpg_program.specs.declared.section.Place.{Place}
use Rattle.rpg_program.specs.declared.section.Section.TheVariants.{Subroutine}
use Rattle.rpg_verify_rules.specs.Sound.{IsAt}
use Rattle.rpg_verify.specs.Bound.{bound, cost, most, code_of_section}
use Rattle.rpg_verify.specs.Paths.{IsCost}

-- these are the costs of the places, in order: each the greatest sum of weights along a forward path from its place
abbrev pub AreCostsOf : Object → List ℕ → Type 0
AreCostsOf p costs =
    (x : Place) → first_place p x.section ≤ x.number → x.number < place_after p x.section
    → IsCost (weight p) (code_of_section p x.section) x.number (slice_index costs x.number)

-- The cost of each place of a section is the greatest sum of weights along a forward path from it, and `most` is no less than the costs
-- that a spend leads to: those of targets of branches to a place not later than the branch, and of the first places of subroutines that are
-- called.
pub record AreGreatest (p : Object) : Type 0 where
  pub each : (x : Place) → first_place p x.section ≤ x.number → IsCost (weight p) (code_of_section p x.section) x.number (cost p x)
  pub back : (x : Place) (is_taken_where : Bool) (cs : Conditions) (target : ℕ) → IsAt p x (Branch is_taken_where cs target) → target ≤ x.number → cost p (record { section = x.section; number = target }) ≤ most p
  pub calls : (n : ℕ) → cost p (record { section = Subroutine n; number = first_place p (Subroutine n) }) ≤ most p
  pub few : bound p < 2 ^ 48
