-- Runs under way: what was done so far, and what is left.
use Rattle.rpg_paper.specs.Form.{line_of}
use Rattle.std.proofs.Common.{◌≡◌, ℕ, suc, ◌+◌, max, ◌<◌, ◌≤◌, Bool, true, ◌&&◌, List, [], ◌∷◌, ◌++◌, Option, None, Some, refl, sym, ap, ◌∙◌, subst, append_assoc, append-nil, arith}
use Rattle.rpg_paper.specs.Paper.{Placed, Position, last_position_from, paper}
use Rattle.rpg_program.proofs.Putting.{end_from-lines}
use Rattle.rpg_program.specs.Put.{Bytes, with_output}
use Rattle.rpg_program.specs.declared.input.InputFile.{InputFile}
use Rattle.rpg_program.specs.declared.input.InputFile.TheVariants.{Primary, Secondary}
use Rattle.rpg_cycle.proofs.Composing.{output_both, output_none}
use Rattle.rpg_cycle.proofs.Counting.{own_count}
use Rattle.rpg_cycle.proofs.Cycling.{at_first, keeps}
use Rattle.rpg_cycle.proofs.Ending.{shorter}
use Rattle.rpg_cycle_records.specs.Earlier.{Selected, left_by, with_record}
use Rattle.rpg_cycle_records.specs.Merging.{AreMergedInOrder}
use Rattle.rpg_cycle_records.specs.Waiting.{Inputs, unread}
use Rattle.rpg_cycle.specs.Counting.{records_count, waiting_count}
use Rattle.rpg_cycle.specs.Ends.{PhaseEnd, Continues, EndOfJob, Halt, Wrong}
use Rattle.rpg_cycle.specs.Job.{AtWork, Cycles, DoesCycle, feed_at, job_needs_record, with_feed}
use Rattle.rpg_cycle.specs.Phases.{Cycle, UnderWay, begun, needs_record}
use Rattle.rpg_cycle.specs.RunAnswers.{RunsRecords}
use Rattle.rpg_cycle.specs.Runs.{Course, Records, Runs, ends_or, last_cycle, last_feed, left_following, next_of, rest_where_needed, with_cycle}
use Rattle.rpg_cycle.specs.Stages.{Ended, Going, is_going, job_end, stage_at}
use Rattle.rpg_cycle.specs.declared.ends.JobEnd.{JobEnd}
use Rattle.rpg_cycle.specs.declared.ends.JobEnd.TheVariants as jobs
use Rattle.rpg_cycle.specs.declared.runs.Summary.{Summary}
use Rattle.rpg_machine.specs.Config.{Config, Output, no_output, with_more}
use Rattle.rpg_machine.specs.Running.{config_on, feed_after}
use Rattle.rpg_program.specs.Object.{Object}
use Rattle.rpg_verify.specs.Bound.{bound}

-- ---- how a cycle ended, by the stage that it led to

went : (e : PhaseEnd) → stage_at e ≡ Going → e ≡ Continues
went Continues h = refl
went EndOfJob h = cc
went (Halt k) h = cc
went (Wrong f) h = cc

was_ended : (e : PhaseEnd) (x : PhaseEnd) → stage_at e ≡ Ended x → e ≡ x
was_ended Continues x h = cc
was_ended EndOfJob x h = cc
was_ended (Halt k) x h = cc
was_ended (Wrong f) x h = cc

-- ---- courses

-- a course with cycles before it
abbrev pub following : ℕ → ℕ → Output → Course → Course
following cycles most out course = record {
  ending = course.ending;
  cycles = cycles + course.cycles;
  most = max most course.most;
  output = with_more out course.output;
  there = course.there;
}

-- what the next cycle of a job takes from a file, and what it leaves
abbrev pub next_in : AtWork → InputFile → List (List ℕ) → Option (List ℕ)
next_in j f rs = next_of (needs_record j.program j.config j.inputs f) rs

abbrev pub left_after : AtWork → Records → Records
left_after j rs = left_following j.program j.config j.inputs rs

-- a run from a job after these records and this line
abbrev pub RunsFrom : AtWork → List Selected → Option Position → Records → Course → Type 0
RunsFrom j earlier previous rs course = Runs j.program earlier rs (config_on previous j.config) j.inputs course

-- so many cycles were done from the old job to the new one, over the records up to those that are left
pub record IsUnderWay (old : AtWork) (records : Records) (new : AtWork) (rest : Records) (cycles most : ℕ) : Type 0 where
  pub program : new.program ≡ old.program
  pub earlier : List Selected
  pub left : new.left ≡ left_by new.program earlier
  pub orderly : AreMergedInOrder new.program earlier new.inputs
  pub out : Output
  pub last : new.last ≡ line_of (last_position_from None out.lines)
  pub bytes : new.output ≡ with_output None out.lines out.records old.output
  pub runs : (course : Course) → RunsFrom new earlier (last_position_from None out.lines) rest course → Runs old.program [] records (config_on None old.config) unread (following cycles most out course)
  pub few : cycles + waiting_count new.inputs + records_count rest ≤ records_count records

-- the same ending and the same last cycle
abbrev course_with : PhaseEnd → ℕ → ℕ → Output → UnderWay → Course
course_with e cycles most out there = record { ending = e; cycles = cycles; most = most; output = out; there = there }

same_course : (e : PhaseEnd) (t : UnderWay) (a b c d : ℕ) (x y : Output) → a ≡ b → c ≡ d → x ≡ y → course_with e a c x t ≡ course_with e b d y t
same_course e t a b c d x y h g k = ap (λ n. course_with e n c x t) h ∙ ap (λ n. course_with e b n x t) g ∙ ap (λ o. course_with e b d o t) k

outputs_are : (x y : Output) → x.lines ≡ y.lines → x.records ≡ y.records → x ≡ y
outputs_are x y h g = ap (λ l. let o : Output = record { lines = l; records = x.records } in o) h ∙ ap (λ r. let o : Output = record { lines = y.lines; records = r } in o) g

with_more_assoc : (x y z : Output) → with_more x (with_more y z) ≡ with_more (with_more x y) z
with_more_assoc x y z = outputs_are _ _ (sym (append_assoc x.lines y.lines z.lines)) (sym (append_assoc x.records y.records z.records))

-- at the start
pub begins : (old : AtWork) (records : Records) → old.left ≡ left_by old.program [] → old.inputs ≡ unread → old.last ≡ None → IsUnderWay old records old records 0 0
begins old records h fresh top = record {
  program = refl;
  earlier = [];
  left = h;
  orderly = subst (λ (i : Inputs). AreMergedInOrder old.program [] i) (sym fresh) (at_first old.program);
  out = no_output;
  last = top;
  bytes = output_none None old.output;
  runs = λ course r. subst (λ c. Runs old.program [] records (config_on None old.config) unread c)
      (same_course course.ending course.there course.cycles (0 + course.cycles) course.most (max 0 course.most) course.output (with_more no_output course.output) (omega arith) (omega arith) (outputs_are _ _ refl refl))
      (subst (λ (i : Inputs). Runs old.program [] records (config_on None old.config) i course) fresh r);
  few = let none : waiting_count old.inputs ≡ 0 = ap waiting_count fresh in omega (arith, none);
}

feed_gone : (feed : List ℕ) (b : Bytes) → feed ≡ [] → with_feed feed b ≡ b
feed_gone feed b h = ap (λ f. with_feed f b) h ∙ ap (λ x. let c : Bytes = record { print = x; disk = b.disk } in c) (append-nil b.print)

more_bytes : (old mid new : AtWork) (a b : Output) → mid.output ≡ with_output None a.lines a.records old.output → new.output ≡ with_output (last_position_from None a.lines) b.lines b.records mid.output →
    new.output ≡ with_output None (a.lines ++ b.lines) (a.records ++ b.records) old.output
more_bytes old mid new a b h g = g ∙ ap (with_output (last_position_from None a.lines) b.lines b.records) h ∙ output_both None a.lines b.lines a.records b.records old.output

-- the same cycle, where it was given what is next in the files
abbrev CycleFrom : AtWork → List Selected → Option Position → Option (List ℕ) → Option (List ℕ) → PhaseEnd → UnderWay → Output → Type 0
CycleFrom j earlier previous a b e d out = Cycle j.program earlier a b (begun j.program (config_on previous j.config) j.inputs) e d out

with_next : (j : AtWork) (earlier : List Selected) (previous : Option Position) (rs : Records) (a b : Option (List ℕ)) (e : PhaseEnd) (d : UnderWay) (out : Output) →
    a ≡ next_in j Primary rs.primary → b ≡ next_in j Secondary rs.secondary → CycleFrom j earlier previous a b e d out →
    CycleFrom j earlier previous (next_in j Primary rs.primary) (next_in j Secondary rs.secondary) e d out
with_next j earlier previous rs a b e d out first second cycle =
    subst (λ (x : Option (List ℕ)). CycleFrom j earlier previous x (next_in j Secondary rs.secondary) e d out) first
    (subst (λ (y : Option (List ℕ)). CycleFrom j earlier previous a y e d out) second cycle)

-- one cycle and the rest are a run
more_runs : (j : AtWork) (earlier : List Selected) (previous : Option Position) (rs : Records) (d : UnderWay) (out : Output) (course : Course) →
    CycleFrom j earlier previous (next_in j Primary rs.primary) (next_in j Secondary rs.secondary) Continues d out →
    Runs j.program (with_record d.selected earlier) (left_after j rs) d.config d.inputs course → RunsFrom j earlier previous rs (with_cycle d.config out course)
more_runs j earlier previous rs d out course cycle rest =
    own_count j.program (suc course.cycles) earlier rs (config_on previous j.config) j.inputs (with_cycle d.config out course) (Continues, d, out, cycle, (course, rest, refl))

fewer : (done was left now rest new all : ℕ) → done + was + left ≤ all → now + rest + 1 ≤ was + left → new ≡ now → done + 1 + new + rest ≤ all
fewer done was left now rest new all h g e = omega (arith, h, g, e)

more_done : (old mid new : AtWork) (records rest : Records) (a b : Option (List ℕ)) (cycles most greater : ℕ) (u : IsUnderWay old records mid rest cycles most) →
    a ≡ next_in mid Primary rest.primary → b ≡ next_in mid Secondary rest.secondary →
    DoesCycle mid u.earlier (last_position_from None u.out.lines) a b Continues new → greater ≡ max most new.config.steps → IsUnderWay old records new (left_after mid rest) (cycles + 1) greater
more_done old mid new records rest a b cycles most greater u first second d g =
    let q = last_position_from None u.out.lines in
    let ends = end_from-lines None u.out.lines d.out.lines in
    let next = with_record d.there.selected u.earlier in
    let cycle = with_next mid u.earlier q rest a b Continues d.there d.out first second d.cycle in
    record {
      program = d.program ∙ u.program;
      earlier = next;
      left = d.left refl ∙ ap (λ (p : Object). left_by p next) (sym d.program);
      orderly = subst (λ (p : Object). AreMergedInOrder p next new.inputs) (sym d.program)
          (subst (λ (i : Inputs). AreMergedInOrder mid.program next i) (sym (d.inputs refl)) (keeps mid.program u.earlier a b (config_on q mid.config) mid.inputs d.there d.out u.orderly d.cycle));
      out = with_more u.out d.out;
      last = d.last ∙ ap line_of (sym ends);
      bytes = more_bytes old mid new u.out d.out u.bytes (d.bytes ∙ feed_gone [] _ refl);
      runs = λ course h.
          let by_program : Runs mid.program next (left_after mid rest) (config_on (last_position_from None (u.out.lines ++ d.out.lines)) new.config) new.inputs course =
          subst (λ (p : Object). Runs p next (left_after mid rest) (config_on (last_position_from None (u.out.lines ++ d.out.lines)) new.config) new.inputs course) d.program h in
          let by_config : Runs mid.program next (left_after mid rest) d.there.config new.inputs course =
          subst (λ (c : Config). Runs mid.program next (left_after mid rest) c new.inputs course) (ap (λ (q : Option Position). config_on q new.config) ends ∙ sym d.config) by_program in
          let left : Runs mid.program next (left_after mid rest) d.there.config d.there.inputs course =
          subst (λ (i : Inputs). Runs mid.program next (left_after mid rest) d.there.config i course) (d.inputs refl) by_config in
          subst (λ c. Runs old.program [] records (config_on None old.config) unread c)
          (same_course course.ending course.there (cycles + (1 + course.cycles)) (cycles + 1 + course.cycles) (max most (max d.there.config.steps course.most)) (max greater course.most)
          (with_more u.out (with_more d.out course.output)) (with_more (with_more u.out d.out) course.output) (omega arith) (omega (arith, g, ap (λ (c : Config). c.steps) d.config)) (with_more_assoc u.out d.out course.output))
          (u.runs (with_cycle d.there.config d.out course) (more_runs mid u.earlier q rest d.there d.out course cycle left));
      few = fewer cycles (waiting_count mid.inputs) (records_count rest) (waiting_count d.there.inputs) (records_count (left_after mid rest)) (waiting_count new.inputs) (records_count records) u.few
          (shorter mid.program u.earlier rest (config_on q mid.config) mid.inputs d.there d.out u.orderly cycle) (ap waiting_count (d.inputs refl));
    }

-- how the job's cycle ended, if it continues
went_on : (old mid new : AtWork) (records rest : Records) (a b : Option (List ℕ)) (cycles most : ℕ) (u : IsUnderWay old records mid rest cycles most) → Cycles mid a b new → Going ≡ new.stage →
    DoesCycle mid u.earlier (last_position_from None u.out.lines) a b Continues new
went_on old mid new records rest a b cycles most u h s =
    let q = last_position_from None u.out.lines in
    let d = h.does u.earlier u.left u.orderly q u.last in
    subst (λ (e : PhaseEnd). DoesCycle mid u.earlier q a b e new) (went d.0 (sym d.1.stage ∙ sym s)) d.1

pub one_more : (old mid new : AtWork) (records rest : Records) (a b : Option (List ℕ)) (cycles most greater : ℕ) → IsUnderWay old records mid rest cycles most →
    a ≡ next_in mid Primary rest.primary → b ≡ next_in mid Secondary rest.secondary → Cycles mid a b new → Going ≡ new.stage → greater ≡ max most new.config.steps →
    IsUnderWay old records new (left_after mid rest) (cycles + 1) greater
one_more old mid new records rest a b cycles most greater u first second h s g =
    more_done old mid new records rest a b cycles most greater u first second (went_on old mid new records rest a b cycles most u h s) g

-- what waits and what is left get fewer
pub fewer_left : (old mid new : AtWork) (records rest then : Records) (a b : Option (List ℕ)) (cycles most : ℕ) → IsUnderWay old records mid rest cycles most →
    a ≡ next_in mid Primary rest.primary → b ≡ next_in mid Secondary rest.secondary → then ≡ left_after mid rest → Cycles mid a b new → Going ≡ new.stage →
    waiting_count new.inputs + records_count then < waiting_count mid.inputs + records_count rest
fewer_left old mid new records rest then a b cycles most u first second left h s =
    let q = last_position_from None u.out.lines in
    let d = went_on old mid new records rest a b cycles most u h s in
    let less = shorter mid.program u.earlier rest (config_on q mid.config) mid.inputs d.there d.out u.orderly (with_next mid u.earlier q rest a b Continues d.there d.out first second d.cycle) in
    below (waiting_count new.inputs) (waiting_count d.there.inputs) (records_count then) (records_count (left_after mid rest)) (waiting_count mid.inputs + records_count rest)
    (ap waiting_count (d.inputs refl)) (ap records_count left) less
  where
    below : (x y r s n : ℕ) → x ≡ y → r ≡ s → y + s + 1 ≤ n → x + r < n
    below x y r s n h g k = omega (arith, h, g, k)

-- ---- what a cycle is given, and what is left, by what the job says that it needs

needed : (j : AtWork) (f : InputFile) (need : Bool) → is_going j.stage ≡ true → need ≡ job_needs_record j f → need ≡ needs_record j.program j.config j.inputs f
needed j f need going is = is ∙ ap (λ (b : Bool). b && needs_record j.program j.config j.inputs f) going

pub next_is : (j : AtWork) (f : InputFile) (need : Bool) (rs : List (List ℕ)) (o : Option (List ℕ)) → is_going j.stage ≡ true → need ≡ job_needs_record j f → o ≡ next_of need rs → o ≡ next_in j f rs
next_is j f need rs o going is next = next ∙ ap (λ (b : Bool). next_of b rs) (needed j f need going is)

records_are : (x y : Records) → x.primary ≡ y.primary → x.secondary ≡ y.secondary → x ≡ y
records_are x y h g = ap (λ l. let r : Records = record { primary = l; secondary = x.secondary } in r) h ∙ ap (λ l. let r : Records = record { primary = y.primary; secondary = l } in r) g

pub rest_is : (j : AtWork) (n m : Bool) (rs then : Records) → is_going j.stage ≡ true → n ≡ job_needs_record j Primary → m ≡ job_needs_record j Secondary →
    then.primary ≡ rest_where_needed n rs.primary → then.secondary ≡ rest_where_needed m rs.secondary → then ≡ left_after j rs
rest_is j n m rs then going one two first second =
    records_are then (left_after j rs) (first ∙ ap (λ (b : Bool). rest_where_needed b rs.primary) (needed j Primary n going one)) (second ∙ ap (λ (b : Bool). rest_where_needed b rs.secondary) (needed j Secondary m going two))

-- ---- the end of a course

ends_here : (e : JobEnd) (d : UnderWay) (out : Output) (Rest : UnderWay → Course → Type 0) → ends_or (job_end e) d out Rest (last_cycle (job_end e) d out)
ends_here jobs.EndOfJob d out Rest = refl
ends_here (jobs.Halt k) d out Rest = refl

feed_some : (q : Position) (xs : List Placed) → feed_after (line_of (last_position_from (Some q) xs)) ≡ 10 ∷ []
feed_some q [] = refl
feed_some q (x ∷ xs) = feed_some x.at xs

feed_last : (xs : List Placed) → feed_after (line_of (last_position_from None xs)) ≡ last_feed xs
feed_last [] = refl
feed_last (x ∷ xs) = feed_some x.at xs

feed_ended : (e : JobEnd) (last : Option ℕ) → feed_at (stage_at (job_end e)) last ≡ feed_after last
feed_ended jobs.EndOfJob last = refl
feed_ended (jobs.Halt k) last = refl

done_few : (cycles waiting left all : ℕ) → cycles + waiting + left ≤ all → cycles + 1 ≤ all + 1
done_few cycles waiting left all h = omega (arith, h)

-- the job's last cycle
ends_by : (old mid new : AtWork) (records rest : Records) (a b : Option (List ℕ)) (cycles most : ℕ) (e : JobEnd) (s : Summary) (u : IsUnderWay old records mid rest cycles most) →
    (d : DoesCycle mid u.earlier (last_position_from None u.out.lines) a b (job_end e) new) →
    RunsFrom mid u.earlier (last_position_from None u.out.lines) rest (last_cycle (job_end e) d.there d.out) →
    s ≡ record { ending = e; cycles = cycles + 1; most = max most new.config.steps } → max most new.config.steps ≤ bound old.program → RunsRecords old records s new
ends_by old mid new records rest a b cycles most e s u d last is low =
    let all = with_more u.out d.out in
    let ends = end_from-lines None u.out.lines d.out.lines in
    let bytes = ap (with_output (last_position_from None u.out.lines) d.out.lines d.out.records) u.bytes ∙ output_both None u.out.lines d.out.lines u.out.records d.out.records old.output in
    let feed : feed_at (stage_at (job_end e)) new.last ≡ last_feed all.lines =
    feed_ended e new.last ∙ ap feed_after (d.last ∙ ap line_of (sym ends)) ∙ feed_last all.lines in
    subst (λ (x : Summary). RunsRecords old records x new) (sym is) (record {
      out = all;
      there = d.there;
      runs = subst (λ c. Runs old.program [] records (config_on None old.config) unread c)
          (same_course (job_end e) d.there (cycles + 1) (cycles + 1) (max most d.there.config.steps) (max most new.config.steps) all all refl (ap (λ (c : Config). max most c.steps) d.config) refl)
          (u.runs (last_cycle (job_end e) d.there d.out) last);
      print = ap (λ (b : Bytes). b.print) (d.bytes ∙ ap (with_feed (feed_at (stage_at (job_end e)) new.last)) bytes)
          ∙ ap (λ f. (old.output.print ++ paper all.lines) ++ f) feed ∙ append_assoc old.output.print (paper all.lines) (last_feed all.lines);
      disk = ap (λ (b : Bytes). b.disk) (d.bytes ∙ ap (with_feed (feed_at (stage_at (job_end e)) new.last)) bytes);
      few = done_few cycles (waiting_count mid.inputs) (records_count rest) (records_count records) u.few;
      low = low;
    })

pub ended_so : (old mid new : AtWork) (records rest : Records) (a b : Option (List ℕ)) (cycles most : ℕ) (e : JobEnd) (s : Summary) → IsUnderWay old records mid rest cycles most →
    a ≡ next_in mid Primary rest.primary → b ≡ next_in mid Secondary rest.secondary → Cycles mid a b new → Ended (job_end e) ≡ new.stage →
    s ≡ record { ending = e; cycles = cycles + 1; most = max most new.config.steps } → max most new.config.steps ≤ bound old.program → RunsRecords old records s new
ended_so old mid new records rest a b cycles most e s u first second h g is low =
    let q = last_position_from None u.out.lines in
    let x = h.does u.earlier u.left u.orderly q u.last in
    let d : DoesCycle mid u.earlier q a b (job_end e) new = subst (λ (y : PhaseEnd). DoesCycle mid u.earlier q a b y new) (was_ended x.0 (job_end e) (sym x.1.stage ∙ sym g)) x.1 in
    ends_by old mid new records rest a b cycles most e s u d
    (job_end e, d.there, d.out, with_next mid u.earlier q rest a b (job_end e) d.there d.out first second d.cycle, ends_here e d.there d.out _) is low

-- the steps stay in the bound of the program
pub still_low : (old mid new : AtWork) (records rest : Records) (a b : Option (List ℕ)) (cycles most : ℕ) → IsUnderWay old records mid rest cycles most → Cycles mid a b new → new.config.steps ≤ bound new.program →
    new.config.steps ≤ bound old.program
still_low old mid new records rest a b cycles most u h few =
    subst (λ (p : Object). new.config.steps ≤ bound p) ((h.does u.earlier u.left u.orderly (last_position_from None u.out.lines) u.last).1.program ∙ u.program) few
