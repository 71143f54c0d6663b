use Rattle.std.proofs.Common.{◌≡◌, ℕ, Bool, true, false, List, Option, Ok, refl, sym, subst}
use Rattle.rpg_cycle.specs.Doing.{IsSeen, next_text}
use Rattle.rpg_program.proofs.Fronts.{grows_not}
use Rattle.rpg_engine.proofs.Refusing.{on_err, on_ok}
use Rattle.rpg_engine.proofs.Seen.{seen_record}
use Rattle.rpg_engine.proofs.Stopping.{failed_ask}
use Rattle.rpg_engine.specs.Streaming.{ReadsIfNeeded, CyclesTo, FailsToRead, TakesNone, record_with}
use Rattle.rpg_engine.specs.declared.fault.CycleFault.{CycleFault}
use Rattle.rpg_engine.proofs.cycle.next_cycle.Goals as goal

pub cycle_with-requires-clause-primary : goal.cycle_with-requires-clause-primary
cycle_with-requires-clause-primary g c =
    subst (λ b. IsSeen b c.record_for.result) (sym c.is_given.ensures)
    (seen_record _ _ _ _ c.in-Ok.next c.record_for.result c.in-Ok.ensures.asks c.record_for.ensures)

pub cycle_with-requires-clause-secondary : goal.cycle_with-requires-clause-secondary
cycle_with-requires-clause-secondary g c =
    subst (λ b. IsSeen b c.record_for-2.result) (sym c.is_given-2.ensures)
    (seen_record _ _ _ _ c.in-Ok-read_if_needed.next c.record_for-2.result c.in-Ok-read_if_needed.ensures.asks c.record_for-2.ensures)

-- the primary's reader failed
pub returns-in-Err-clause-none : goal.returns-in-Err-clause-none
returns-in-Err-clause-none g c = (
  subst (λ (b : Bool). FailsToRead g.R1.Read.remaining b c.in-Err.fault c.args.primary.now c.read_if_needed.new.records) c.requires.needs.primary
      (failed_ask g.R1.Read.remaining c.args.need.primary c.in-Err.fault c.args.primary.now c.read_if_needed.new.records c.in-Err.ensures.asks),
  refl,
)

pub returns-in-Err-clause-grows : goal.returns-in-Err-clause-grows
returns-in-Err-clause-grows g c = grows_not c.args.job.now.output

-- the secondary's did, after the primary's
pub returns-in-Err-read_if_needed-clause-none : goal.returns-in-Err-read_if_needed-clause-none
returns-in-Err-read_if_needed-clause-none g c = (
  (c.in-Ok.next, subst (λ (b : Bool). ReadsIfNeeded g.R1.Read.remaining b c.args.primary.now (Ok c.in-Ok.next) c.read_if_needed.new.records) c.requires.needs.primary c.in-Ok.ensures.asks),
  subst (λ (b : Bool). FailsToRead g.R2.Read.remaining b c.in-Err-read_if_needed.fault c.args.secondary.now c.read_if_needed-2.new.records) c.requires.needs.secondary
      (failed_ask g.R2.Read.remaining c.args.need.secondary c.in-Err-read_if_needed.fault c.args.secondary.now c.read_if_needed-2.new.records c.in-Err-read_if_needed.ensures.asks),
)

pub returns-in-Err-read_if_needed-clause-sure : goal.returns-in-Err-read_if_needed-clause-sure
returns-in-Err-read_if_needed-clause-sure g c = λ one two. absurd (let never : false ≡ true = c.in-Err-read_if_needed.ensures.sure two in cc)

pub returns-in-Err-read_if_needed-clause-grows : goal.returns-in-Err-read_if_needed-clause-grows
returns-in-Err-read_if_needed-clause-grows g c = grows_not c.args.job.now.output

-- both were read, and the cycle was done
pub returns-clause-cycle : goal.returns-clause-cycle
returns-clause-cycle g c = on_ok c.cycle_with.result _ _ (λ e cycle. record {
  first = c.in-Ok.next;
  second = c.in-Ok-read_if_needed.next;
  reads_primary = subst (λ (b : Bool). ReadsIfNeeded g.R1.Read.remaining b c.args.primary.now (Ok c.in-Ok.next) c.read_if_needed.new.records) c.requires.needs.primary c.in-Ok.ensures.asks;
  reads_secondary = subst (λ (b : Bool). ReadsIfNeeded g.R2.Read.remaining b c.args.secondary.now (Ok c.in-Ok-read_if_needed.next) c.read_if_needed-2.new.records) c.requires.needs.secondary c.in-Ok-read_if_needed.ensures.asks;
  cycle = subst (λ (x : Option (List ℕ)). CyclesTo c.args.job.now x (record_with c.read_if_needed-2.new.records c.in-Ok-read_if_needed.next) e c.cycle_with.new.job) c.record_for.ensures
      (subst (λ (y : Option (List ℕ)). CyclesTo c.args.job.now (next_text c.record_for.result) y e c.cycle_with.new.job) c.record_for-2.ensures cycle);
}) c.cycle_with.ensures.cycle

-- or memory ran out
pub returns-clause-none : goal.returns-clause-none
returns-clause-none g c = on_err c.cycle_with.result _ _ (λ e is. subst (λ (k : CycleFault). TakesNone g.R1.Read.remaining g.R2.Read.remaining c.args.job.now c.args.primary.now c.args.secondary.now k c.read_if_needed.new.records c.read_if_needed-2.new.records) (sym is) (
  (c.in-Ok.next, subst (λ (b : Bool). ReadsIfNeeded g.R1.Read.remaining b c.args.primary.now (Ok c.in-Ok.next) c.read_if_needed.new.records) c.requires.needs.primary c.in-Ok.ensures.asks),
  (c.in-Ok-read_if_needed.next, subst (λ (b : Bool). ReadsIfNeeded g.R2.Read.remaining b c.args.secondary.now (Ok c.in-Ok-read_if_needed.next) c.read_if_needed-2.new.records) c.requires.needs.secondary c.in-Ok-read_if_needed.ensures.asks),
)) c.cycle_with.ensures.memory
