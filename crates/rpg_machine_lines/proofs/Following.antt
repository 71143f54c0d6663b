-- An effect that was done, and what follows where it continues.
use Rattle.std.proofs.Common.{◌≡◌, refl, ap, subst, nat_cmp}
use Rattle.std.specs.Prelude.{Result, Ok, Err, IfOk}
use Rattle.rpg_program.proofs.Putting.{halts_done, then_done}
use Rattle.rpg_program.specs.Effect.{Effect, after_output, go_on, then_go}
use Rattle.rpg_program.specs.Ends.{End, Continues, Halt, Wrong, end_of}
use Rattle.rpg_program.specs.Put.{Bytes, Held, IsDone}
use Rattle.rpg_program.specs.World.{World}
use Rattle.rpg_program.specs.declared.outcome.End as rust
use Rattle.rpg_program.specs.declared.outcome.End.TheVariants as answers
use Rattle.rpg_program.specs.Halts.{halt_number}
use Rattle.rpg_program.specs.declared.halt.Halt as halts

module _ (first next : World nat_cmp → Effect nat_cmp) (w v : Held) (q o : Bytes) (r : rust.End) (done : IsDone first w q (end_of r) v o) where
  -- it went on, and so did what follows
  pub went_on : (u : Held) (t : Bytes) (e : End) → r ≡ answers.Continues → IsDone next v o e u t → IsDone (λ x. then_go (first x) next) w q e u t
  went_on u t e goes h = then_done first next w v u q o t e (subst (λ (x : End). IsDone first w q x v o) (ap end_of goes) done) h

  -- it halted
  pub halted : (k : halts.Halt) → r ≡ answers.Halt k → IsDone (λ x. then_go (first x) next) w q (Halt (halt_number k)) v o
  halted k halts = halts_done first next w v q o (halt_number k) (subst (λ (x : End). IsDone first w q x v o) (ap end_of halts) done)

-- what follows is the same, whatever world it is from
pub goes_same : (first : Effect nat_cmp) (next other : World nat_cmp → Effect nat_cmp) → ((v : World nat_cmp) → next v ≡ other v) → then_go first next ≡ then_go first other
goes_same first next other h = by first.ending
  where
    by : (e : End) → go_on e first next ≡ go_on e first other
    by Continues = ap (after_output first) (h first.world)
    by (Halt k) = refl
    by (Wrong f) = refl

-- what follows from each value
pub ok_each : {T E : Type 0} (r : Result T E) (P Q : T → Type 0) → ((t : T) → P t → Q t) → IfOk r P → IfOk r Q
ok_each (Ok t) P Q f h = f t h
ok_each (Err e) P Q f h = tt
