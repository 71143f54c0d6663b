-- What an instruction or an output does: how it ends, the world that it leaves, and what it outputs.
use Rattle.std.specs.Prelude.{ℕ, List, [], ◌++◌, Option, None, Some}
use Rattle.std.specs.declared.cmp.Ordering.{Ordering}
use Rattle.rpg_paper.specs.Paper.{Placed}
use Rattle.rpg_program.specs.Ends.{End, Fault, Continues, Halt, Wrong}
use Rattle.rpg_program.specs.World.{World}

-- the lines placed on the printer's paper, each at its page and line, and the records for the disk
pub record Effect {K : Type 0} (R : K → K → Ordering) : Type 0 where
  pub ending : End
  pub world : World R
  pub lines : List Placed
  pub records : List (List ℕ)

module _ {K : Type 0} {R : K → K → Ordering} where
  -- nothing is output
  abbrev pub quiet : End → World R → Effect R
  quiet e w = record { ending = e; world = w; lines = []; records = [] }

  -- continues with this world, and outputs nothing
  abbrev pub Leaves : World R → Effect R
  Leaves w = quiet Continues w

  -- what an effect outputs follows what another output
  abbrev pub after_output : Effect R → Effect R → Effect R
  after_output d e = record { ending = e.ending; world = e.world; lines = d.lines ++ e.lines; records = d.records ++ e.records }

  -- an effect that continues is followed by another
  abbrev pub go_on : End → Effect R → (World R → Effect R) → Effect R
  go_on Continues e go = after_output e (go e.world)
  go_on (Halt k) e go = e
  go_on (Wrong f) e go = e

  -- one and then the other, unless the first halts or is wrong
  abbrev pub then_go : Effect R → (World R → Effect R) → Effect R
  then_go e go = go_on e.ending e go

  -- continues if nothing is wrong
  abbrev pub unless_wrong : Option Fault → World R → Effect R → Effect R
  unless_wrong None w e = e
  unless_wrong (Some f) w e = quiet (Wrong f) w
