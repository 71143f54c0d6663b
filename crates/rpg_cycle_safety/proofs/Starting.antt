-- What a job starts with holds of it, on any date.
use Rattle.std.proofs.Common.{◌≡◌, refl, nat_cmp}
use Rattle.rpg_program.specs.World.{Data}
use Rattle.rpg_cycle_safety.specs.Holding.{Holds}
use Rattle.rpg_program.specs.Kept.{IsProgram}
use Rattle.rpg_program.specs.Object.{Object}
use Rattle.rpg_memory.proofs.FirstFits.{first_fits}
use Rattle.rpg_store.specs.First.{first_contents, first_currents}

-- the first values and current entries
pub first_holds : (p : Object) (d : Data nat_cmp) → IsProgram p → d.fields ≡ record { values = first_contents p; current = first_currents p } → Holds p d
first_holds p d kept is = record {
  fits = rw is (first_fits p kept);
  constants = rw is (λ field d there constant n. refl);
}
