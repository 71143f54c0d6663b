-- What holds of the data throughout a run of an accepted program, and what preserves it.
use Rattle.std.specs.Prelude.{◌≡◌, ◌≤◌}
use Rattle.std.specs.Ordering.{nat_cmp}
use Rattle.rpg_program.specs.Effect.{Effect}
use Rattle.rpg_program.specs.Ended.{Ended}
use Rattle.rpg_program.specs.Ends.{End, Continues, Halt, Wrong}
use Rattle.rpg_program.specs.World.{Data}
use Rattle.rpg_program.specs.Object.{Object}
use Rattle.rpg_memory.specs.Fits.{Fits, KeepsConstants}

-- each entry has a value of its field's form, the current entry of a table is one of its entries, and constants have their first values
pub record Holds (p : Object) (d : Data nat_cmp) : Type 0 where
  pub fits : Fits p.fields d.fields.values d.fields.current
  pub constants : KeepsConstants p d.fields.values

-- nothing is wrong: it continues, or halts at a zero divisor (1), a bad index (2) or a bad digit (4)
abbrev pub IsEffectEnd : End → Type 0
IsEffectEnd Continues = Unit {0}
IsEffectEnd (Halt k) = (1 ≤ k) × (k ≤ 4) × (k ≡ 3 → ⊥)
IsEffectEnd (Wrong f) = ⊥

-- nothing is wrong with what is done to the data, and what must hold of it still holds
pub record KeepsData (p : Object) (e : Ended nat_cmp) : Type 0 where
  pub ending : IsEffectEnd e.ending
  pub holds : Holds p e.data

-- likewise for an effect
pub record Keeps (p : Object) (e : Effect nat_cmp) : Type 0 where
  pub ending : IsEffectEnd e.ending
  pub holds : Holds p e.world.data
