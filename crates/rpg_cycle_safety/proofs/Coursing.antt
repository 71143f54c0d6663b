-- A run of an accepted program, cycle by cycle.
use Rattle.std.proofs.Common.{◌≡◌, ℕ, zero, suc, ℤ, ◌+◌, ◌<◌, ◌≤◌, ◌^◌, List, [], refl, subst, arith, nat_cmp, unsigned_abs}
use Rattle.std.specs.FinMap as map
use Rattle.rpg_cycle.proofs.Counting.{own_count}
use Rattle.rpg_cycle.proofs.Cycling.{at_first, keeps}
use Rattle.rpg_cycle.proofs.Ending.{few_cycles, shorter}
use Rattle.rpg_cycle.proofs.OneRun.{runs_same}
use Rattle.rpg_cycle.specs.Counting.{records_count, waiting_count}
use Rattle.rpg_cycle.specs.Ends.{PhaseEnd, Continues, EndOfJob, Halt, Wrong}
use Rattle.rpg_cycle.specs.Phases.{UnderWay, begun, needs_record}
use Rattle.rpg_cycle.specs.Runs.{Course, IsRun, Records, RunsIn, last_cycle, left_following, next_of, printed, stored, with_cycle}
use Rattle.rpg_cycle.specs.Starting.{job_first_world, job_start}
use Rattle.rpg_cycle_records.specs.Earlier.{Selected, with_record}
use Rattle.rpg_cycle_records.specs.Merging as merging
use Rattle.rpg_cycle_records.specs.Waiting.{Inputs, unread}
use Rattle.rpg_program.specs.Put.{Bytes}
use Rattle.rpg_program.specs.World.{Fields}
use Rattle.rpg_program.specs.declared.input.InputFile.TheVariants.{Primary, Secondary}
use Rattle.rpg_cycle_safety.specs.Holding.{Holds}
use Rattle.rpg_cycle_safety.specs.Waiting.{AreWaiting}
use Rattle.rpg_machine.specs.Accepted.{IsOrderly}
use Rattle.rpg_machine.specs.Config.{Config, Output}
use Rattle.rpg_program.specs.Object.{Object}
use Rattle.rpg_cycle_safety.proofs.Cycling.{has_cycle}
use Rattle.rpg_cycle_safety.proofs.Dating.{start_holds}
use Rattle.rpg_cycle_safety.proofs.Selecting.{unread_waits}
use Rattle.rpg_cycle_safety.specs.Coming.{CyclesWell, HasRun, IsJobEnd, RunsWell, next_cycle}
use Rattle.rpg_verify.specs.Bound.{bound}

-- the course of a run of at most so many cycles, which ends and stays in the bound
record HasCourse (n : ℕ) (p : Object) (earlier : List Selected) (records : Records) (c : Config) (i : Inputs) : Type 0 where
  pub course : Course
  pub runs : RunsIn n p earlier records c i course
  pub ending : IsJobEnd course.ending
  pub few : course.most ≤ bound p

module _ (p : Object) (orderly : IsOrderly p) where
  -- there is a run from wherever fewer records than that wait or are left
  abbrev RunsFrom : ℕ → Type 0
  RunsFrom n = (earlier : List Selected) (rs : Records) (c : Config) (i : Inputs) → Holds p c.world.data → c.cells ≡ map.empty → AreWaiting p i → merging.AreMergedInOrder p earlier i →
      waiting_count i + records_count rs < n → HasCourse n p earlier rs c i

  by_cycle : (n : ℕ) → RunsFrom n → (earlier : List Selected) (rs : Records) (c : Config) (i : Inputs) → merging.AreMergedInOrder p earlier i → waiting_count i + records_count rs < suc n →
      (e : PhaseEnd) (d : UnderWay) (out : Output) → next_cycle p earlier rs c i (begun p c i) e d out → CyclesWell p e d → HasCourse (suc n) p earlier rs c i
  by_cycle n next earlier rs c i order enough Continues d out cycle well =
      let fewer = shorter p earlier rs c i d out order cycle in
      let order_kept = keeps p earlier (next_of (needs_record p c i Primary) rs.primary) (next_of (needs_record p c i Secondary) rs.secondary) c i d out order cycle in
      let rest = next (with_record d.selected earlier) (left_following p c i rs) d.config d.inputs well.values (well.no_cell refl) well.waiting order_kept (omega (arith, fewer, enough)) in
      let one = well.few in
      let others = rest.few in
      record { course = with_cycle d.config out rest.course; runs = (Continues, d, out, cycle, (rest.course, rest.runs, refl)); ending = rest.ending; few = omega (arith, one, others) }
  by_cycle n next earlier rs c i order enough EndOfJob d out cycle well =
      record { course = last_cycle EndOfJob d out; runs = (EndOfJob, d, out, cycle, refl); ending = tt; few = well.few }
  by_cycle n next earlier rs c i order enough (Halt k) d out cycle well =
      record { course = last_cycle (Halt k) d out; runs = (Halt k, d, out, cycle, refl); ending = well.ending; few = well.few }
  by_cycle n next earlier rs c i order enough (Wrong f) d out cycle well = absurd well.ending

  courses : (n : ℕ) → RunsFrom n
  courses zero earlier rs c i h none waiting order enough = absurd (omega (arith, enough))
  courses (suc n) earlier rs c i h none waiting order enough =
      let one = has_cycle p orderly earlier (next_of (needs_record p c i Primary) rs.primary) (next_of (needs_record p c i Secondary) rs.secondary) c i h none waiting in
      by_cycle n (courses n) earlier rs c i order enough one.ending one.last one.output one.cycle one.well

  -- there is a run, on any date
  pub has_run : (date : ℤ) (fields : Fields nat_cmp) (records : Records) → unsigned_abs date < 10 ^ 6 → Holds p (job_first_world fields).data →
      HasRun p date fields records
  has_run date fields records small h =
      let start = job_start p date fields in
      let n = suc (records_count records) in
      let one = courses n [] records start unread (start_holds p orderly.program date small fields h) refl (unread_waits p) (at_first p) (omega arith) in
      let few = few_cycles n p [] records start unread one.course (at_first p) one.runs in
      record {
        course = one.course;
        bytes = record { print = printed one.course.output; disk = stored one.course.output };
        run = record { runs = own_count p n [] records start unread one.course one.runs; print = refl; disk = refl };
        well = record { ending = one.ending; cycles = omega (arith, few); few = one.few };
      }

  -- and each run is that one
  pub runs_well : (date : ℤ) (fields : Fields nat_cmp) (records : Records) (course : Course) (bytes : Bytes) → unsigned_abs date < 10 ^ 6 →
      Holds p (job_first_world fields).data →
      IsRun p date fields records course bytes → RunsWell p (records_count records) course
  runs_well date fields records course bytes small h run =
      let one = has_run date fields records small h in
      let same = runs_same one.course.cycles course.cycles p [] records (job_start p date fields) unread one.course course one.run.runs run.runs in
      subst (λ (x : Course). RunsWell p (records_count records) x) same one.well
