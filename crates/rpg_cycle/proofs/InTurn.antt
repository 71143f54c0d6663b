-- Phases one after another.
use Rattle.rpg_machine.specs.Config.{Output}
use Rattle.rpg_cycle.specs.Ends.{PhaseEnd, Continues, EndOfJob, Halt, Wrong}
use Rattle.rpg_cycle.specs.Phases.{Phase, UnderWay, ◌before◌}

-- two phases that went on
pub record BothOn (P Q : Phase) (c d : UnderWay) : Type 0 where
  pub mid : UnderWay
  pub put : Output
  pub more : Output
  pub one : P c Continues mid put
  pub two : Q mid Continues d more

pub both_on : (P Q : Phase) (c d : UnderWay) (out : Output) → (P before Q) c Continues d out → BothOn P Q c d
both_on P Q c d out (Continues, m, put, first, rest) = record { mid = m; put = put; more = rest.0; one = first; two = rest.1 }
both_on P Q c d out (EndOfJob, m, put, first, rest) = let h = rest.0 in absurd (cc)
both_on P Q c d out (Halt k, m, put, first, rest) = let h = rest.0 in absurd (cc)
both_on P Q c d out (Wrong k, m, put, first, rest) = let h = rest.0 in absurd (cc)

-- the second of two may be put in the place of another that does the same wherever the first one leads
pub following : (P Q R : Phase) (c : UnderWay) → ((m d : UnderWay) (put out : Output) (e : PhaseEnd) → P c Continues m put → Q m e d out → R m e d out) →
    (e : PhaseEnd) (d : UnderWay) (out : Output) → (P before Q) c e d out → (P before R) c e d out
following P Q R c f e d out (Continues, m, put, first, rest) = (Continues, m, put, first, (rest.0, f m d put rest.0 e first rest.1, rest.2))
following P Q R c f e d out (EndOfJob, m, put, first, rest) = (EndOfJob, m, put, first, rest)
following P Q R c f e d out (Halt k, m, put, first, rest) = (Halt k, m, put, first, rest)
following P Q R c f e d out (Wrong k, m, put, first, rest) = (Wrong k, m, put, first, rest)
