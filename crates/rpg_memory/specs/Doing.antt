-- What is done to the data of a memory.
use Rattle.std.specs.Prelude.{◌≡◌, ◌≤◌}
use Rattle.std.specs.Ordering.{nat_cmp}
use Rattle.rpg_program.specs.Ended.{Ended, ends_with}
use Rattle.rpg_program.specs.Ends.{End, Continues, Halt, Wrong}
use Rattle.rpg_memory.specs.Memory.{Working, data_put}

-- nothing is wrong: it continues, or halts with a number from 1 to 4
abbrev pub IsRightEnd : End → Type 0
IsRightEnd Continues = Unit {0}
IsRightEnd (Halt k) = 1 ≤ k × k ≤ 4
IsRightEnd (Wrong f) = ⊥

-- this was done to the data, and nothing was wrong; only the data changed
pub record DidData (ended : Ended nat_cmp) (old : Working) (e : End) (new : Working) : Type 0 where
  pub leaves : ends_with e new.world.data ≡ ended
  pub right : IsRightEnd e
  pub rest : new ≡ data_put new.world.data old
