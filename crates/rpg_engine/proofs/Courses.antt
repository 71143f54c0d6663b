-- Runs under way: what was done so far, and what is left.
use Rattle.std.proofs.Common.{◌≡◌, ℕ, zero, suc, ◌+◌, ◌<◌, max, List, [], ◌++◌, refl, sym, ap, ◌∙◌, subst, append_assoc, append-nil, add-one, arith}
use Rattle.rpg_cycle.proofs.Counting.{own_count}
use Rattle.rpg_cycle.proofs.OneRun.{cycle_fixed}
use Rattle.rpg_cycle_records.specs.Earlier.{Selected, left_by, with_record}
use Rattle.rpg_cycle_records.specs.Waiting.{Inputs, has_match, unread}
use Rattle.rpg_program.specs.declared.input.InputFile.TheVariants.{Primary, Secondary}
use Rattle.rpg_cycle.specs.Ends.{PhaseEnd, Continues, EndOfJob, Halt, Wrong}
use Rattle.rpg_cycle.specs.Phases.{Cycle, UnderWay, begun, needs_record}
use Rattle.rpg_cycle.specs.Runs.{Course, Records, Runs, RunsIn, ends_or, last_cycle, left_following, next_of, with_cycle}
use Rattle.rpg_paper.specs.Paper.{Placed}
use Rattle.rpg_machine.specs.Config.{Config, Output, no_output, with_more}
use Rattle.rpg_program.specs.Object.{Object}
use Rattle.rpg_engine.specs.Reporting.{ContinuesFor}

-- a course with cycles before it
abbrev pub following : ℕ → ℕ → Output → Course → Course
following cycles most out course = record {
  ending = course.ending;
  cycles = cycles + course.cycles;
  most = max most course.most;
  output = with_more out course.output;
  there = course.there;
}

-- the same ending and the same last cycle
abbrev course_with : PhaseEnd → ℕ → ℕ → Output → UnderWay → Course
course_with e cycles most out there = record { ending = e; cycles = cycles; most = most; output = out; there = there }

same_course : (e : PhaseEnd) (t : UnderWay) (a b c d : ℕ) (x y : Output) → a ≡ b → c ≡ d → x ≡ y → course_with e a c x t ≡ course_with e b d y t
same_course e t a b c d x y h g k = ap (λ n. course_with e n c x t) h ∙ ap (λ n. course_with e b n x t) g ∙ ap (λ o. course_with e b d o t) k

pub same_output : (a b : List Placed) (c d : List (List ℕ)) → a ≡ b → c ≡ d → (let o : Output = record { lines = a; records = c } in o) ≡ (let o : Output = record { lines = b; records = d } in o)
same_output a b c d h g = ap (λ x. let o : Output = record { lines = x; records = c } in o) h ∙ ap (λ x. let o : Output = record { lines = b; records = x } in o) g

more_assoc : (a b c : Output) → with_more a (with_more b c) ≡ with_more (with_more a b) c
more_assoc a b c = same_output _ _ _ _ (sym (append_assoc a.lines b.lines c.lines)) (sym (append_assoc a.records b.records c.records))

pub more_none : (a : Output) → with_more a no_output ≡ a
more_none a = same_output (a.lines ++ []) a.lines (a.records ++ []) a.records (append-nil a.lines) (append-nil a.records)

none_before : (course : Course) → following 0 0 no_output course ≡ course
none_before course = same_course course.ending course.there (0 + course.cycles) course.cycles (max 0 course.most) course.most course.output course.output (omega arith) (omega arith) refl

-- one more cycle before the rest
one_after : (cycles most greater : ℕ) (c : Config) (out more : Output) (course : Course) → greater ≡ max most c.steps
    → following cycles most out (with_cycle c more course) ≡ following (cycles + 1) greater (with_more out more) course
one_after cycles most greater c out more course g =
    same_course course.ending course.there (cycles + (1 + course.cycles)) (cycles + 1 + course.cycles) (max most (max c.steps course.most)) (max greater course.most)
    (with_more out (with_more more course.output)) (with_more (with_more out more) course.output) (omega arith) (omega (arith, g)) (more_assoc out more course.output)

-- ---- cycles that went on

-- the earlier records, the records that are left, the configuration and the files of a run
pub record Stand : Type 0 where
  pub earlier : List Selected
  pub rest : Records
  pub now : Config
  pub inputs : Inputs

abbrev pub stand : List Selected → Records → Config → Inputs → Stand
stand earlier rest now i = record { earlier = earlier; rest = rest; now = now; inputs = i }

-- so many cycles went on, put this out and led there
abbrev pub ContinuesTo : ℕ → Object → List Selected → Records → Config → Inputs → Output → Stand → Type 0
ContinuesTo n p earlier rs c i out there = ContinuesFor n p earlier rs c i out (λ e r d j. stand e r d j ≡ there)

-- one cycle more continues from there
record ContinuesOnce (p : Object) (s : Stand) (o : Output) (Then : List Selected → Records → Config → Inputs → Type 0) : Type 0 where
  d : UnderWay
  cycle : Cycle p s.earlier (next_of (needs_record p s.now s.inputs Primary) s.rest.primary) (next_of (needs_record p s.now s.inputs Secondary) s.rest.secondary) (begun p s.now s.inputs) Continues d o
  then : Then (with_record d.selected s.earlier) (left_following p s.now s.inputs s.rest) d.config d.inputs

go_on_more : (n : ℕ) (p : Object) (earlier : List Selected) (rs : Records) (c : Config) (i : Inputs) (out o : Output) (there : Stand) (Then : List Selected → Records → Config → Inputs → Type 0)
    → ContinuesOnce p there o Then → ContinuesTo n p earlier rs c i out there → ContinuesFor (suc n) p earlier rs c i (with_more out o) Then
go_on_more zero p earlier rs c i out o there Then once (none, at) =
    let here : ContinuesOnce p (stand earlier rs c i) o Then = subst (λ (s : Stand). ContinuesOnce p s o Then) (sym at) once in
    (here.d, o, no_output, here.cycle, ap (λ (x : Output). with_more x o) none ∙ sym (more_none o), (refl, here.then))
go_on_more (suc n) p earlier rs c i out o there Then once (d, first, more, cycle, is, rest) = (
  d,
  first,
  with_more more o,
  cycle,
  ap (λ (x : Output). with_more x o) is ∙ sym (more_assoc first more o),
  go_on_more n p (with_record d.selected earlier) (left_following p c i rs) d.config d.inputs more o there Then once rest,
)

-- what holds there holds of what they led to
pub continues_to : (n : ℕ) (p : Object) (earlier : List Selected) (rs : Records) (c : Config) (i : Inputs) (out : Output) (there : Stand) (Then : List Selected → Records → Config → Inputs → Type 0)
    → Then there.earlier there.rest there.now there.inputs → ContinuesTo n p earlier rs c i out there → ContinuesFor n p earlier rs c i out Then
continues_to zero p earlier rs c i out there Then holds (none, at) = (none, subst (λ (s : Stand). Then s.earlier s.rest s.now s.inputs) (sym at) holds)
continues_to (suc n) p earlier rs c i out there Then holds (d, first, more, cycle, is, rest) =
    (d, first, more, cycle, is, continues_to n p (with_record d.selected earlier) (left_following p c i rs) d.config d.inputs more there Then holds rest)

-- ---- a run under way

-- From the start over all records, so many cycles were done, after which these earlier records, this configuration, these files and these
-- records are left: all these cycles went on, a course of what is left is one of all, and each course of all comes from one of what is left.
pub record IsUnderWay (p : Object) (start : Config) (all : Records) (earlier : List Selected) (now : Config) (i : Inputs) (rest : Records) (cycles most : ℕ) (out : Output) : Type 0 where
  pub gone : ContinuesTo cycles p [] all start unread out (stand earlier rest now i)
  pub forth : (course : Course) → Runs p earlier rest now i course → Runs p [] all start unread (following cycles most out course)
  pub back : (course : Course) → Runs p [] all start unread course → (later : Course) × Runs p earlier rest now i later × (course ≡ following cycles most out later)

pub begins : (p : Object) (start : Config) (all : Records) → IsUnderWay p start all [] start unread all 0 0 no_output
begins p start all = record {
  gone = (refl, refl);
  forth = λ course runs. subst (λ c. Runs p [] all start unread c) (sym (none_before course)) runs;
  back = λ course runs. (course, runs, sym (none_before course));
}

-- ---- one more cycle

-- a cycle with the first of these records in each file that needs one; where it continues, the others are left
pub record HeadCycle (p : Object) (earlier : List Selected) (c : Config) (i : Inputs) (e : PhaseEnd) (d : UnderWay) (out : Output) (rs after : Records) : Type 0 where
  pub cycle : Cycle p earlier (next_of (needs_record p c i Primary) rs.primary) (next_of (needs_record p c i Secondary) rs.secondary) (begun p c i) e d out
  pub left : e ≡ Continues → after ≡ left_following p c i rs

-- what follows the first cycle of a run
abbrev Rest : Object → List Selected → Config → Inputs → Records → UnderWay → Course → Type 0
Rest p earlier c i rs d rest = Runs p (with_record d.selected earlier) (left_following p c i rs) d.config d.inputs rest

-- a run begins with a cycle
record HasFirst (p : Object) (earlier : List Selected) (c : Config) (i : Inputs) (rs : Records) (course : Course) : Type 0 where
  e : PhaseEnd
  d : UnderWay
  out : Output
  cycle : Cycle p earlier (next_of (needs_record p c i Primary) rs.primary) (next_of (needs_record p c i Secondary) rs.secondary) (begun p c i) e d out
  ends : ends_or e d out (Rest p earlier c i rs) course

by_count : (p : Object) (e : PhaseEnd) (d : UnderWay) (out : Output) (P Q : UnderWay → Course → Type 0) (course : Course) → ((rest : Course) → P d rest → Q d rest) → ends_or e d out P course → ends_or e d out Q course
by_count p Continues d out P Q course f h = (h.0, f h.0 h.1, h.2)
by_count p EndOfJob d out P Q course f h = h
by_count p (Halt k) d out P Q course f h = h
by_count p (Wrong k) d out P Q course f h = h

has_first : (n : ℕ) (p : Object) (earlier : List Selected) (c : Config) (i : Inputs) (rs : Records) (course : Course) → RunsIn n p earlier rs c i course → HasFirst p earlier c i rs course
has_first zero p earlier c i rs course runs = absurd runs
has_first (suc n) p earlier c i rs course (e, d, out, cycle, ends) = record {
  e = e;
  d = d;
  out = out;
  cycle = cycle;
  ends = by_count p e d out (λ d rest. RunsIn n p (with_record d.selected earlier) (left_following p c i rs) d.config d.inputs rest) (Rest p earlier c i rs) course
      (λ rest runs. own_count p n (with_record d.selected earlier) (left_following p c i rs) d.config d.inputs rest runs) ends;
}

-- a run has some cycle
pub some_cycles : (n : ℕ) (p : Object) (earlier : List Selected) (c : Config) (i : Inputs) (rs : Records) (course : Course) → RunsIn n p earlier rs c i course → 0 < n
some_cycles zero p earlier c i rs course runs = absurd runs
some_cycles (suc n) p earlier c i rs course runs = omega arith

-- the first cycle of what is left is the one that was done
first_is : (p : Object) (earlier : List Selected) (now : Config) (i : Inputs) (rs after : Records) (e : PhaseEnd) (d : UnderWay) (o : Output) (later : Course)
    → HeadCycle p earlier now i e d o rs after → Runs p earlier rs now i later → ends_or e d o (Rest p earlier now i rs) later
first_is p earlier now i rs after e d o later head runs =
    let first = has_first later.cycles p earlier now i rs later runs in
    let same = (cycle_fixed p (left_by p earlier) (has_match p earlier) (next_of (needs_record p now i Primary) rs.primary) (next_of (needs_record p now i Secondary) rs.secondary)).same
    (begun p now i) first.e e first.d d first.out o first.cycle head.cycle in
    subst (λ (x : PhaseEnd). ends_or x d o (Rest p earlier now i rs) later) same.end
    (subst (λ (x : UnderWay). ends_or first.e x o (Rest p earlier now i rs) later) same.there
    (subst (λ (x : Output). ends_or first.e first.d x (Rest p earlier now i rs) later) same.out first.ends))

-- and a cycle with what follows it is a run
runs_first : (p : Object) (earlier : List Selected) (now : Config) (i : Inputs) (rs after : Records) (e : PhaseEnd) (d : UnderWay) (o : Output) (n : ℕ) (later : Course)
    → HeadCycle p earlier now i e d o rs after → ends_or e d o (λ d rest. RunsIn n p (with_record d.selected earlier) (left_following p now i rs) d.config d.inputs rest) later
    → Runs p earlier rs now i later
runs_first p earlier now i rs after e d o n later head ends = own_count p (suc n) earlier rs now i later (e, d, o, head.cycle, ends)

pub one_more : (p : Object) (start : Config) (all : Records) (earlier : List Selected) (now : Config) (i : Inputs) (rest after : Records) (cycles most greater : ℕ) (out : Output) (d : UnderWay) (o : Output)
    → IsUnderWay p start all earlier now i rest cycles most out → HeadCycle p earlier now i Continues d o rest after → greater ≡ max most d.config.steps
    → IsUnderWay p start all (with_record d.selected earlier) d.config d.inputs after (cycles + 1) greater (with_more out o)
one_more p start all earlier now i rest after cycles most greater out d o u head g = record {
  gone = subst (λ (k : ℕ). ContinuesTo k p [] all start unread (with_more out o) (stand (with_record d.selected earlier) after d.config d.inputs)) (sym (add-one cycles))
      (go_on_more cycles p [] all start unread out o (stand earlier rest now i) (λ e r x j. stand e r x j ≡ stand (with_record d.selected earlier) after d.config d.inputs)
      (record { d = d; cycle = head.cycle; then = ap (λ (rs : Records). stand (with_record d.selected earlier) rs d.config d.inputs) (sym (head.left refl)) }) u.gone);
  forth = λ course runs.
      subst (λ c. Runs p [] all start unread c) (one_after cycles most greater d.config out o course g)
      (u.forth (with_cycle d.config o course) (runs_first p earlier now i rest after Continues d o course.cycles (with_cycle d.config o course) head
      (course, subst (λ (rs : Records). Runs p (with_record d.selected earlier) rs d.config d.inputs course) (head.left refl) runs, refl)));
  back = λ course runs.
      let later = u.back course runs in
      let more = first_is p earlier now i rest after Continues d o later.0 head later.1 in (
        more.0,
        subst (λ (rs : Records). Runs p (with_record d.selected earlier) rs d.config d.inputs more.0) (sym (head.left refl)) more.1,
        later.2 ∙ ap (following cycles most out) more.2 ∙ one_after cycles most greater d.config out o more.0 g,
      );
}

-- ---- the last cycle

abbrev pub IsLast : PhaseEnd → Type 0
IsLast Continues = ⊥
IsLast EndOfJob = Unit {0}
IsLast (Halt k) = Unit {0}
IsLast (Wrong f) = Unit {0}

ends_here : (e : PhaseEnd) (d : UnderWay) (o : Output) (Rest : UnderWay → Course → Type 0) → IsLast e → ends_or e d o Rest (last_cycle e d o)
ends_here Continues d o Rest last = absurd last
ends_here EndOfJob d o Rest last = refl
ends_here (Halt k) d o Rest last = refl
ends_here (Wrong f) d o Rest last = refl

-- the whole run
pub ends : (p : Object) (start : Config) (all : Records) (earlier : List Selected) (now : Config) (i : Inputs) (rest after : Records) (cycles most : ℕ) (out : Output) (e : PhaseEnd) (d : UnderWay) (o : Output)
    → IsUnderWay p start all earlier now i rest cycles most out → HeadCycle p earlier now i e d o rest after → IsLast e
    → Runs p [] all start unread (following cycles most out (last_cycle e d o))
ends p start all earlier now i rest after cycles most out e d o u head last =
    u.forth (last_cycle e d o) (runs_first p earlier now i rest after e d o 0 (last_cycle e d o) head (ends_here e d o _ last))

-- ---- what each run outputs

-- more is output after it, nothing where the cycle is the last
pub record ContinuesWith (e : PhaseEnd) (all out : Output) : Type 0 where
  pub more : Output
  pub output : all ≡ with_more out more
  pub last : IsLast e → more ≡ no_output

with_first : (e : PhaseEnd) (d : UnderWay) (o : Output) (Rest : UnderWay → Course → Type 0) (later : Course) → ends_or e d o Rest later → ContinuesWith e later.output o
with_first Continues d o Rest later is = record { more = is.0.output; output = ap (λ (c : Course). c.output) is.2; last = λ last. absurd last }
with_first EndOfJob d o Rest later is = record { more = no_output; output = ap (λ (c : Course). c.output) is ∙ sym (more_none o); last = λ last. refl }
with_first (Halt k) d o Rest later is = record { more = no_output; output = ap (λ (c : Course). c.output) is ∙ sym (more_none o); last = λ last. refl }
with_first (Wrong f) d o Rest later is = record { more = no_output; output = ap (λ (c : Course). c.output) is ∙ sym (more_none o); last = λ last. refl }

-- a run's output begins with that of the cycles done and of one more
pub begins_with : (p : Object) (start : Config) (all : Records) (earlier : List Selected) (now : Config) (i : Inputs) (rest after : Records) (cycles most : ℕ) (out : Output) (e : PhaseEnd) (d : UnderWay) (o : Output) (course : Course)
    → IsUnderWay p start all earlier now i rest cycles most out → HeadCycle p earlier now i e d o rest after → Runs p [] all start unread course → ContinuesWith e course.output (with_more out o)
begins_with p start all earlier now i rest after cycles most out e d o course u head runs =
    let later = u.back course runs in
    let first = with_first e d o (Rest p earlier now i rest) later.0 (first_is p earlier now i rest after e d o later.0 head later.1) in
    record {
      more = first.more;
      output = ap (λ (c : Course). c.output) later.2 ∙ ap (with_more out) first.output ∙ more_assoc out o first.more;
      last = first.last;
    }
