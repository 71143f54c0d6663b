use Rattle.std.proofs.Common.{Option, ℕ, ap, sym, subst, arith}
use Rattle.std.specs.Option.{ForSome}
use Rattle.rpg_program.specs.Kept.{IsIndicator, IsOverflowIndicator}
use Rattle.rpg_program.specs.Object.{Object}
use Rattle.rpg_cycle.proofs.program.overflow_of.Goals as goal

-- the overflow indicator is one
overflow_right : (o : Option ℕ) → ForSome o IsOverflowIndicator → ForSome o IsIndicator
overflow_right o h = λ n e. let i = h n e in record { lowest = omega (arith, i.lowest); highest = omega (arith, i.highest) }

pub returns-clause-right : goal.returns-clause-right
returns-clause-right c =
    subst (λ (o : Option ℕ). ForSome o IsIndicator) (ap (λ (p : Object). p.overflow.indicator) (sym c.rows_of.ensures.same))
    (overflow_right c.args.program.now.overflow.indicator c.rows_of.ensures.kept.overflow)
