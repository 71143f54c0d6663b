-- What all cycles of a run output together.
use Rattle.std.proofs.Common.{◌≡◌, ℕ, zero, suc, ◌+◌, ◌*◌, ◌≤◌, ◌<◌, ◌^◌, ℤ, unsigned_abs, List, [], ◌∷◌, length, Option, None, refl, sym, ap, ◌∙◌, subst, arith, length-append, nat_cmp}
use Rattle.std.specs.FinMap as map
use Rattle.rpg_cycle_records.specs.Earlier.{Selected, with_record}
use Rattle.rpg_cycle_records.specs.Waiting.{Inputs, unread}
use Rattle.rpg_cycle.specs.Ends.{PhaseEnd, Continues, EndOfJob, Halt, Wrong}
use Rattle.rpg_cycle.specs.Phases.{UnderWay, needs_record}
use Rattle.rpg_cycle.specs.Runs.{Course, IsRun, Records, RunsIn, ends_or, last_cycle, last_feed, left_following, next_of, with_cycle}
use Rattle.rpg_cycle.specs.Starting.{job_first_world, job_start}
use Rattle.rpg_program.specs.Put.{Bytes, disk_bytes}
use Rattle.rpg_program.specs.World.{Fields}
use Rattle.rpg_program.specs.declared.input.InputFile.TheVariants.{Primary, Secondary}
use Rattle.rpg_cycle_safety.proofs.Cycling.{cycles_well}
use Rattle.rpg_cycle_safety.proofs.Dating.{start_holds}
use Rattle.rpg_cycle_safety.proofs.Measuring.{cycle_in_output, cycle_pays}
use Rattle.rpg_cycle_safety.proofs.Selecting.{unread_waits}
use Rattle.rpg_cycle_safety.proofs.Sizing.{bytes_both}
use Rattle.rpg_cycle_safety.specs.Holding.{Holds}
use Rattle.rpg_cycle_safety.specs.Waiting.{AreWaiting}
use Rattle.rpg_cycle_safety.specs.Measuring.{StandsNear, StaysInOutput, bytes_of_step, output_size}
use Rattle.rpg_machine.specs.Accepted.{IsOrderly}
use Rattle.rpg_machine.specs.Config.{Config, Output, with_more}
use Rattle.rpg_program.specs.Object.{Object}
use Rattle.rpg_paper.specs.Paper.{Placed, Position, last_position_from, paper}
use Rattle.rpg_verify.specs.Bound.{bound}

one_more : (whole one others n k : ℕ) → whole ≡ one + others → one ≤ k → others ≤ n * k → whole ≤ (1 + n) * k
one_more whole one others n k is few rest = omega (arith, is, few, rest)

only_one : (one k : ℕ) → one ≤ k → one ≤ 1 * k
only_one one k few = omega (arith, few)

feed_short : (lines : List Placed) → length (last_feed lines) ≤ 1
feed_short [] = omega arith
feed_short (x ∷ xs) = omega arith

module _ (p : Object) (orderly : IsOrderly p) where
  -- at most so much for each cycle
  abbrev IsFew : Option Position → Course → Type 0
  IsFew previous course = output_size previous course.output ≤ course.cycles * (bound p * bytes_of_step)

  last_few : (previous : Option Position) (e : PhaseEnd) (d : UnderWay) (out : Output) (course : Course) → StaysInOutput p previous out → course ≡ last_cycle e d out → IsFew previous course
  last_few previous e d out course stays is = subst (λ (x : Course). IsFew previous x) (sym is) (only_one (output_size previous out) (bound p * bytes_of_step) stays.few)

  rest_few : (previous : Option Position) (d : UnderWay) (out : Output) (course rest : Course) → StaysInOutput p previous out → IsFew (last_position_from previous out.lines) rest →
      course ≡ with_cycle d.config out rest → IsFew previous course
  rest_few previous d out course rest stays few is =
      let both = bytes_both previous out.lines rest.output.lines out.records rest.output.records in
      subst (λ (x : Course). IsFew previous x) (sym is)
      (one_more (output_size previous (with_more out rest.output)) (output_size previous out) (output_size (last_position_from previous out.lines) rest.output) rest.cycles (bound p * bytes_of_step) both stays.few few)

  ended_few : (e : PhaseEnd) (previous : Option Position) (d : UnderWay) (out : Output) (Rest : UnderWay → Course → Type 0) (course : Course) → StaysInOutput p previous out →
      (e ≡ Continues → (rest : Course) → Rest d rest → IsFew (last_position_from previous out.lines) rest) → ends_or e d out Rest course → IsFew previous course
  ended_few Continues previous d out Rest course stays next (rest, runs, is) = rest_few previous d out course rest stays (next refl rest runs) is
  ended_few EndOfJob previous d out Rest course stays next is = last_few previous EndOfJob d out course stays is
  ended_few (Halt k) previous d out Rest course stays next is = last_few previous (Halt k) d out course stays is
  ended_few (Wrong f) previous d out Rest course stays next is = last_few previous (Wrong f) d out course stays is

  runs_few : (n : ℕ) (earlier : List Selected) (rs : Records) (previous : Option Position) (c : Config) (i : Inputs) (course : Course) → Holds p c.world.data → c.cells ≡ map.empty →
      AreWaiting p i → StandsNear previous c.world.paper.here → RunsIn n p earlier rs c i course → IsFew previous course
  runs_few zero earlier rs previous c i course h none waiting near runs = absurd runs
  runs_few (suc n) earlier rs previous c i course h none waiting near (e, d, out, cycle, ends) =
      let primary = next_of (needs_record p c i Primary) rs.primary in
      let secondary = next_of (needs_record p c i Secondary) rs.secondary in
      let well = cycles_well p orderly earlier primary secondary c i e d out h none waiting cycle in
      let pays = cycle_pays p orderly earlier primary secondary previous c i e d out h none waiting near cycle in
      ended_few e previous d out (λ d rest. RunsIn n p (with_record d.selected earlier) (left_following p c i rs) d.config d.inputs rest) course
      (cycle_in_output p orderly earlier primary secondary previous c i e d out h none waiting near cycle)
      (λ goes rest runs. runs_few n (with_record d.selected earlier) (left_following p c i rs) (last_position_from previous out.lines) d.config d.inputs rest well.values (well.no_cell goes) well.waiting pays.near runs) ends

  -- a whole run, with the line feed after its last line
  pub whole_few : (date : ℤ) (fields : Fields nat_cmp) (records : Records) (course : Course) (bytes : Bytes) → unsigned_abs date < 10 ^ 6 → Holds p (job_first_world fields).data →
      IsRun p date fields records course bytes → length bytes.print + length bytes.disk ≤ course.cycles * (bound p * bytes_of_step) + 1
  whole_few date fields records course bytes small h run =
      let few : output_size None course.output ≤ course.cycles * (bound p * bytes_of_step) =
      runs_few course.cycles [] records None (job_start p date fields) unread course (start_holds p orderly.program date small fields h) refl (unread_waits p)
      (record { line = omega arith; page = omega arith }) run.runs in
      let short = feed_short course.output.lines in
      let print : length bytes.print ≡ length (paper course.output.lines) + length (last_feed course.output.lines) =
      ap (λ (l : List ℕ). length l) run.print ∙ length-append (paper course.output.lines) (last_feed course.output.lines) in
      let disk : length bytes.disk ≡ length (disk_bytes course.output.records) = ap (λ (l : List ℕ). length l) run.disk in
      omega (arith, few, short, print, disk)
