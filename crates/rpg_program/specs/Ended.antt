-- How an operation or an input field ends, and the data that it leaves: it doesn't see the paper, and outputs
-- nothing.
use Rattle.std.specs.Prelude.{ℕ, Option, None, Some}
use Rattle.std.specs.declared.cmp.Ordering.{Ordering}
use Rattle.rpg_program.specs.Effect.{Effect, quiet}
use Rattle.rpg_program.specs.Ends.{End, Fault, Continues, Halt, Wrong}
use Rattle.rpg_program.specs.World.{Data, World, with_data}

-- an ending, and the data then
pub record Ended {K : Type 0} (R : K → K → Ordering) : Type 0 where
  pub ending : End
  pub «data» : Data R

module _ {K : Type 0} {R : K → K → Ordering} where
  -- an ending with data
  abbrev pub ends_with : End → Data R → Ended R
  ends_with e d = record { ending = e; «data» = d }

  -- continues with that data
  abbrev pub Gives : Data R → Ended R
  Gives d = ends_with Continues d

  -- what continues is followed by what comes next
  abbrev pub followed_if : End → Ended R → (Data R → Ended R) → Ended R
  followed_if Continues o go = go o.data
  followed_if (Halt k) o go = o
  followed_if (Wrong f) o go = o

  -- one and then the other, unless the first halts or is wrong
  abbrev pub followed_by : Ended R → (Data R → Ended R) → Ended R
  followed_by o go = followed_if o.ending o go

  -- continues with the value if there is one, or halts with that number
  abbrev pub or_halt : {A : Type 0} → Option A → ℕ → Data R → (A → Ended R) → Ended R
  or_halt None k d go = ends_with (Halt k) d
  or_halt (Some x) k d go = go x

  -- continues if nothing is wrong
  abbrev pub if_right : Option Fault → Data R → Ended R → Ended R
  if_right None d o = o
  if_right (Some f) d o = ends_with (Wrong f) d

  -- what is done to the data, as an effect on a world: the paper is unchanged, and nothing is output
  abbrev pub on_data : (Data R → Ended R) → World R → Effect R
  on_data f w = let o = f w.data in quiet o.ending (with_data o.data w)
