-- A cycle of the machine is a cycle of the cards, and a run of it a run of the cards.
use Rattle.std.proofs.Common.{◌≡◌, ℕ, zero, suc, ◌+◌, not, ◌||◌, ◌&&◌, List, Option, refl, ap, ◌∙◌, subst}
use Rattle.std.specs.FinMap as map
use Rattle.std.specs.FinSet as set
use Rattle.rpg_cards.specs.Keys.{Key, key_cmp}
use Rattle.rpg_cycle.specs.Ends.{PhaseEnd, Continues, EndOfJob, Halt, Wrong}
use Rattle.rpg_cycle.specs.Indicators as indicators
use Rattle.rpg_cycle.specs.Indicators.{halt_indicators, last_record}
use Rattle.rpg_cycle.specs.Phases as machine
use Rattle.rpg_cycle.specs.Phases.{UnderWay, ◌before◌}
use Rattle.rpg_cycle.specs.Runs as runs
use Rattle.rpg_program.specs.World.{World}
use Rattle.rpg_cycle_safety.specs.Holding.{Holds}
use Rattle.rpg_cycle_safety.specs.Waiting.{AreWaiting}
use Rattle.rpg_program.specs.declared.input.InputFile.{InputFile}
use Rattle.rpg_program.specs.declared.input.InputFile.TheVariants.{Primary, Secondary}
use Rattle.rpg_meaning.proofs.Jobs.Following.{Followed, Follows, Same, Selection, follows_then, follows_unless}
use Rattle.rpg_meaning.proofs.Jobs.Selecting.{IsNone, control_same, fields_same, match_follows, selection_follows, takes_same}
use Rattle.rpg_meaning.proofs.Jobs.Steps.{any_same, details_follow, ending_follows, filling_follows, halting_follows, off_follows, overflows_follow, section_follows, totals_follow}
use Rattle.rpg_meaning.specs.Jobs.Cycle as cards
use Rattle.rpg_meaning.proofs.Jobs.ProgramOf.{IsProgramOf}
use Rattle.rpg_meaning.specs.Jobs.Job.{Job, JobState}
use Rattle.rpg_meaning.specs.Jobs.Phases.{MeantPhase, any_on_in, by_effect, calculated, ◌andthen◌}
use Rattle.rpg_meaning.specs.Jobs.Runs.{AtEndOfJob, AtHalt, MeantCourse, MeantRuns, Then, meant_last_cycle, meant_begun, meant_left, meant_needs, meant_next, with_meant_cycle}
use Rattle.rpg_program.specs.Lines.{total_output}
use Rattle.rpg_machine.specs.Accepted.{IsOrderly}
use Rattle.rpg_machine.specs.Config.{Config, Output, with_more}
use Rattle.rpg_machine.specs.declared.time.OutputTime.TheVariants as times
use Rattle.rpg_meaning.specs.Calculations.Parts.{InDetail, InTotal}
use Rattle.rpg_program.specs.Object.{Object}
use Rattle.rpg_program.specs.declared.section.Section.TheVariants as sections
use Rattle.rpg_cycle_records.specs.Earlier.{Selected, is_any, left_by, with_record}
use Rattle.rpg_cycle_records.specs.Waiting.{Inputs, has_match}
use Rattle.rpg_program.specs.Naming.{Agree}
use Rattle.rpg_cycle_safety.proofs.Working.{IsTaken}

-- what is selected may be anything
abbrev IsAny : Selection
IsAny o = Unit {0}

module _ {p : Object} {job : Job} {number : Key → ℕ} (orderly : IsOrderly p) (is : IsProgramOf p job number) where
  totals : MeantPhase
  totals = calculated job.source InTotal andthen by_effect (total_output job.source.forms job.source.words job.source.overflow job.source.lines)

  bypass_same : (earlier : List Selected) (c : UnderWay) (s : JobState) → Same p job number s c → machine.is_bypassed p (left_by p earlier).any (left_by p earlier).control c.config ≡ cards.meant_is_bypassed job earlier s
  bypass_same earlier c s same = λ i. not (set.contains (same.world.data.on i) last_record) && (not (is_any earlier) || (fields_same orderly is i && not (control_same orderly is earlier i)))

  total_follows : (earlier : List Selected) → Follows p job number (IsTaken p) (machine.total_time p (left_by p earlier)) (cards.meant_total_time job earlier) (IsTaken p)
  unfolding totals
  total_follows earlier =
      follows_unless p job number (IsTaken p) (machine.is_bypassed p (left_by p earlier).any (left_by p earlier).control) (cards.meant_is_bypassed job earlier) (machine.section p sections.Total before machine.output p times.Total) totals (bypass_same earlier)
      (follows_then p job number (IsTaken p) (IsTaken p) (IsTaken p) (machine.section p sections.Total) (machine.output p times.Total) (calculated job.source InTotal) (by_effect (total_output job.source.forms job.source.words job.source.overflow job.source.lines))
      (section_follows orderly is (IsTaken p) InTotal refl) (totals_follow orderly is (IsTaken p)))

  pub cycle_follows : (earlier : List Selected) (a b : Option (List ℕ)) → Follows p job number IsNone (machine.Cycle p earlier a b) (cards.MeantCycle job earlier a b) IsAny
  cycle_follows earlier a b =
      follows_then p job number IsNone IsNone IsAny (machine.detail_lines p) _ (cards.meant_detail_lines job) _ (details_follow orderly is IsNone)
      (follows_then p job number IsNone IsNone IsAny machine.halt_if_indicated _ (cards.meant_halt_if_indicated job) _ (halting_follows orderly is IsNone)
      (follows_then p job number IsNone IsNone IsAny (machine.set_off p) _ (cards.meant_set_off job) _ (off_follows orderly is IsNone)
      (follows_then p job number IsNone (IsTaken p) IsAny (machine.select_record p (left_by p earlier) a b) _ (cards.meant_select_record job earlier a b) _ (selection_follows orderly is earlier a b)
      (follows_then p job number (IsTaken p) (IsTaken p) IsAny (machine.total_time p (left_by p earlier)) _ (cards.meant_total_time job earlier) _ (total_follows earlier)
      (follows_then p job number (IsTaken p) (IsTaken p) IsAny machine.end_where_last _ (cards.meant_end_where_last job) _ (ending_follows orderly is (IsTaken p))
      (follows_then p job number (IsTaken p) (IsTaken p) IsAny (machine.overflow_lines p) _ (cards.meant_overflow_lines job) _ (overflows_follow orderly is (IsTaken p))
      (follows_then p job number (IsTaken p) (IsTaken p) IsAny (machine.show_match (has_match p earlier)) _ (cards.meant_show_match job earlier) _ (match_follows orderly is (IsTaken p) earlier)
      (follows_then p job number (IsTaken p) IsAny IsAny (machine.fill_fields p) (machine.detail_calculations p) (cards.meant_fill_fields job) (calculated job.source InDetail) (filling_follows orderly is)
      (section_follows orderly is IsAny InDetail refl)))))))))

  -- ---- whole runs

  -- but for the steps
  pub record SameCourse (k : MeantCourse) (course : runs.Course) : Type 0 where
    pub ending : course.ending ≡ k.ending
    pub cycles : course.cycles ≡ k.cycles
    pub output : course.output ≡ k.output

  pub record HasCourse (earlier : List Selected) (records : runs.Records) (w : World key_cmp) (i : Inputs) (course : runs.Course) : Type 0 where
    pub meant : MeantCourse
    pub runs : MeantRuns job earlier records w i meant
    pub same : SameCourse meant course

  module _ (v : World key_cmp) (c : Config) (i : Inputs) (a : Agree job.source.forms number v c.world) where
    begun_same : Same p job number (meant_begun job v i) (machine.begun p c i)
    begun_same = record { world = a; allowance = is.same_allowance; inputs = refl; selected = refl }

    needs_same : (f : InputFile) → machine.needs_record p c i f ≡ meant_needs job (meant_begun job v i) f
    needs_same f = λ k. not (set.contains (a.data.on k) last_record || halts k) && takes_same orderly is i f k
      where
        halts : indicators.any_on c halt_indicators ≡ any_on_in halt_indicators (meant_begun job v i)
        halts = any_same halt_indicators c v.data.on a.data.on

    next_same : (f : InputFile) (rs : List (List ℕ)) → runs.next_of (machine.needs_record p c i f) rs ≡ meant_next job (meant_begun job v i) f rs
    next_same f rs = ap (λ b. runs.next_of b rs) (needs_same f)

    left_same : (rs : runs.Records) → runs.left_following p c i rs ≡ meant_left job (meant_begun job v i) rs
    left_same rs = λ k. record { primary = runs.rest_where_needed (needs_same Primary k) rs.primary; secondary = runs.rest_where_needed (needs_same Secondary k) rs.secondary }

    cycle_of : (earlier : List Selected) (rs : runs.Records) → Holds p c.world.data → c.cells ≡ map.empty → AreWaiting p i → (e : PhaseEnd) (d : UnderWay) (out : Output)
        → machine.Cycle p earlier (runs.next_of (machine.needs_record p c i Primary) rs.primary) (runs.next_of (machine.needs_record p c i Secondary) rs.secondary) (machine.begun p c i) e d out
        → Followed p job number (cards.MeantCycle job earlier (meant_next job (meant_begun job v i) Primary rs.primary) (meant_next job (meant_begun job v i) Secondary rs.secondary)) IsAny (meant_begun job v i) e d out
    cycle_of earlier rs holds none waiting e d out cycle =
        subst (λ x. Followed p job number (cards.MeantCycle job earlier x (meant_next job (meant_begun job v i) Secondary rs.secondary)) IsAny (meant_begun job v i) e d out) (next_same Primary rs.primary)
        (subst (λ y. Followed p job number (cards.MeantCycle job earlier (runs.next_of (machine.needs_record p c i Primary) rs.primary) y) IsAny (meant_begun job v i) e d out) (next_same Secondary rs.secondary)
        (cycle_follows earlier _ _ (machine.begun p c i) (meant_begun job v i) (record { values = holds; no_cell = none; waiting = waiting; selected = refl }) begun_same e d out cycle))

  ended : (course : runs.Course) (e : PhaseEnd) (d : UnderWay) (out : Output) → course ≡ runs.last_cycle e d out → SameCourse (meant_last_cycle e out) course
  ended course e d out is = record { ending = ap (λ (x : runs.Course). x.ending) is; cycles = ap (λ (x : runs.Course). x.cycles) is; output = ap (λ (x : runs.Course). x.output) is }

  pub runs_follow : (n : ℕ) (rs : runs.Records) (earlier : List Selected) (v : World key_cmp) (c : Config) (i : Inputs) → Agree job.source.forms number v c.world → Holds p c.world.data → c.cells ≡ map.empty → AreWaiting p i
      → (course : runs.Course) → runs.RunsIn n p earlier rs c i course → HasCourse earlier rs v i course
  runs_follow zero rs earlier v c i a holds none waiting course h = absurd h
  runs_follow (suc n) rs earlier v c i a holds none waiting course (e, d, out, cycle, ends) =
      by e d out (cycle_of v c i a earlier rs holds none waiting e d out cycle) ends (λ rs earlier v c i a holds none waiting course ran. runs_follow n rs earlier v c i a holds none waiting course ran)
    where
      by : (e : PhaseEnd) (d : UnderWay) (out : Output) → Followed p job number (cards.MeantCycle job earlier (meant_next job (meant_begun job v i) Primary rs.primary) (meant_next job (meant_begun job v i) Secondary rs.secondary)) IsAny (meant_begun job v i) e d out
          → runs.ends_or e d out (λ d rest. runs.RunsIn n p (with_record d.selected earlier) (runs.left_following p c i rs) d.config d.inputs rest) course
          → ((rs : runs.Records) (earlier : List Selected) (v : World key_cmp) (c : Config) (i : Inputs) → Agree job.source.forms number v c.world → Holds p c.world.data → c.cells ≡ map.empty → AreWaiting p i → (course : runs.Course)
          → runs.RunsIn n p earlier rs c i course → HasCourse earlier rs v i course)
          → HasCourse earlier rs v i course
      by Continues d out f (rest, ran, is) later =
          let settled = f.settled refl in
          let k = later (runs.left_following p c i rs) (with_record d.selected earlier) f.state.world d.config d.inputs f.same.world settled.values settled.no_cell settled.waiting rest ran in
          record {
            meant = with_meant_cycle out k.meant;
            runs = Then earlier rs v i f.state out k.meant f.meets
                (subst (λ o. MeantRuns job (with_record o earlier) (meant_left job (meant_begun job v i) rs) f.state.world f.state.inputs k.meant) f.same.selected
                (subst (λ j. MeantRuns job (with_record d.selected earlier) (meant_left job (meant_begun job v i) rs) f.state.world j k.meant) f.same.inputs
                (subst (λ x. MeantRuns job (with_record d.selected earlier) x f.state.world d.inputs k.meant) (left_same v c i a rs) k.runs)));
            same = record {
              ending = ap (λ (x : runs.Course). x.ending) is ∙ k.same.ending;
              cycles = ap (λ (x : runs.Course). x.cycles) is ∙ ap (λ n. 1 + n) k.same.cycles;
              output = ap (λ (x : runs.Course). x.output) is ∙ ap (with_more out) k.same.output;
            };
          }
      by EndOfJob d out f is later = record { meant = meant_last_cycle EndOfJob out; runs = AtEndOfJob earlier rs v i f.state out f.meets; same = ended course EndOfJob d out is }
      by (Halt k) d out f is later = record { meant = meant_last_cycle (Halt k) out; runs = AtHalt earlier rs v i k f.state out f.meets; same = ended course (Halt k) d out is }
      by (Wrong x) d out f is later = absurd f.fine
