-- What a machine's cycle means for the job.
use Rattle.rpg_paper.specs.Form.{line_of}
use Rattle.std.proofs.Common.{◌≡◌, ◌≤◌, ℕ, true, false, List, [], Option, None, Some, Result, Ok, Err, refl, sym, ap, ◌∙◌, subst, append-nil}
use Rattle.std.specs.Result.{IsErrAnd}
use Rattle.rpg_paper.specs.Paper.{Position, last_position_from}
use Rattle.rpg_program.specs.Fronts.{OnlyGrows}
use Rattle.rpg_program.specs.Put.{Bytes, with_output}
use Rattle.rpg_cycle.proofs.Cycling.{from_last, keeps}
use Rattle.rpg_cycle.specs.Doing.{Does, Beside, holding, under_way, unselected}
use Rattle.rpg_cycle_records.specs.Earlier.{Left, Selected, left_by, with_record}
use Rattle.rpg_cycle_records.specs.Merging.{AreMergedInOrder}
use Rattle.rpg_cycle_records.specs.Waiting.{Inputs, finds_match}
use Rattle.rpg_cycle.specs.Ends.{Continues, PhaseEnd}
use Rattle.rpg_cycle.specs.Job.{AnswersCycle, AtWork, Cycles, DoesCycle, IsFollowing, feed_at, with_feed}
use Rattle.rpg_cycle_records.specs.Keeping.{noted, renewed_by, selected_as}
use Rattle.rpg_cycle.specs.Phases.{Cycle, CycleOn, UnderWay, begun}
use Rattle.rpg_cycle.specs.Stages.{Ended, Failed, Going, Stage, has_failed, is_going, job_end, stage_at}
use Rattle.rpg_cycle.specs.declared.ends.JobEnd.{JobEnd}
use Rattle.rpg_cycle.specs.declared.ends.JobEnd.TheVariants as jobs
use Rattle.rpg_machine.specs.Config.{Output}
use Rattle.rpg_machine.specs.Running.{Running, config_on, feed_after, finished, refilled}
use Rattle.rpg_program.specs.Object.{Object}
use Rattle.rpg_verify.specs.Bound.{bound}

-- a job with that machine
abbrev pub job : Object → Running → Left → Inputs → Stage → AtWork
job p m left inputs stage = record { program = p; config = m.config; last = m.last; output = m.output; left = left; inputs = inputs; stage = stage }

-- the answer of a job that continues, if it did its cycle
pub answers : {A E : Type 0} (stage_by : A → Stage) (x y : Option (List ℕ)) {old new : AtWork} (a : A) → is_going old.stage ≡ true → Cycles old x y new → stage_by a ≡ new.stage → new.config.steps ≤ bound new.program →
    OnlyGrows old.output new.output → AnswersCycle {A = A} {E = E} stage_by old x y (Ok a) new
answers stage_by x y a on does stage_after few grown = record {
  going = λ _. does;
  stage_after = stage_after;
  over = λ off. absurd (let e : true ≡ false = sym on ∙ off in cc);
  failed = tt;
  bound = λ _. few;
  grows = grown;
}

-- and if memory ran out
pub fails : {A E : Type 0} (stage_by : A → Stage) (x y : Option (List ℕ)) {old new : AtWork} (e : E) → is_going old.stage ≡ true → new.stage ≡ Failed → OnlyGrows old.output new.output →
    AnswersCycle {A = A} {E = E} stage_by old x y (Err e) new
fails stage_by x y {old} {new} e on failed grown = record {
  going = λ _. tt;
  stage_after = tt;
  over = λ off. absurd (let e : true ≡ false = sym on ∙ off in cc);
  failed = failed;
  bound = λ h. absurd (let e : true ≡ false = sym (ap has_failed failed) ∙ h in cc);
  grows = grown;
}

-- so it is if a `?` passes that on
pub passes : {A E : Type 0} (stage_by : A → Stage) (x y : Option (List ℕ)) {old new : AtWork} (r : Result A E) (Q : E → Type 0) → IsErrAnd r Q → is_going old.stage ≡ true → new.stage ≡ Failed → OnlyGrows old.output new.output →
    AnswersCycle stage_by old x y r new
passes stage_by x y (Ok a) Q is on failed grown = absurd is
passes stage_by x y (Err e) Q is on failed grown = fails stage_by x y e on failed grown

-- what is kept of a record is what it leaves
pub leaves : (p : Object) (earlier : List Selected) (t : Option ℕ) (text : List ℕ) → noted p t (renewed_by p t text (left_by p earlier)) ≡ left_by p (with_record (selected_as t text) earlier)
leaves p earlier None text = refl
leaves p earlier (Some t) text = refl

-- a cycle that seeks matches by what these records left
abbrev pub CycleBy : Object → Left → Option (List ℕ) → Option (List ℕ) → UnderWay → PhaseEnd → UnderWay → Output → Type 0
CycleBy p left primary secondary c e d out = CycleOn p left (finds_match p left) primary secondary c e d out

-- a record that was selected is one more of those that left what is kept
pub one_more : (old new : AtWork) (earlier : List Selected) (previous : Option Position) (x y : Option (List ℕ)) → AreMergedInOrder old.program earlier old.inputs → DoesCycle old earlier previous x y Continues new →
    IsFollowing old.program new.left new.inputs
one_more old new earlier previous x y order d = record {
  earlier = with_record d.there.selected earlier;
  leave = d.left refl;
  orderly = subst (λ (i : Inputs). AreMergedInOrder old.program (with_record d.there.selected earlier) i) (sym (d.inputs refl))
      (keeps old.program earlier x y (config_on previous old.config) old.inputs d.there d.out order d.cycle);
}

-- the cycle that a machine did, after the records that left this
cycle_of : (p : Object) (earlier : List Selected) (previous : Option Position) (x y : Option (List ℕ)) (m : Running) (left : Left) (i : Inputs) (e : PhaseEnd) (out : Output) (d : UnderWay) →
    m.program ≡ p → left ≡ left_by p earlier → AreMergedInOrder p earlier i → CycleBy p left x y (under_way (config_on previous (refilled m).config) (unselected i)) e d out →
    Cycle p earlier x y (begun p (config_on previous m.config) i) e d out
cycle_of p earlier previous x y m left i e out d same is order c =
    from_last p earlier x y (config_on previous m.config) i e d out order
    (subst (λ (l : Left). CycleBy p l x y (begun p (config_on previous m.config) i) e d out) is
    (subst (λ (q : Object). CycleBy p left x y (begun q (config_on previous m.config) i) e d out) same c))

feed_none : (b : Bytes) → b ≡ with_feed [] b
feed_none b = ap (λ x. record { print = x; disk = b.disk }) (sym (append-nil b.print))

-- the job continues
pub continues : (p : Object) (earlier : List Selected) (previous : Option Position) (x y : Option (List ℕ)) (m b : Running) (left now : Left) (i j : Inputs) (stage : Stage) (t : Option ℕ) (text : List ℕ) → m.program ≡ p →
    left ≡ left_by p earlier → AreMergedInOrder p earlier i → m.last ≡ line_of previous → now ≡ noted p t (renewed_by p t text left) →
    Does (CycleBy p left x y) (refilled m) (unselected i) Continues b (holding j t text) → DoesCycle (job p m left i stage) earlier previous x y Continues (job p b now j Going)
continues p earlier previous x y m b left now i j stage t text same is order placed kept d =
    let z = d.following previous placed in
    record {
      stage = refl;
      program = refl;
      there = under_way (config_on (last_position_from previous z.out.lines) b.config) (holding j t text);
      out = z.out;
      cycle = cycle_of p earlier previous x y m left i Continues z.out _ same is order z.phase;
      config = refl;
      left = λ h. kept ∙ ap (λ (l : Left). noted p t (renewed_by p t text l)) is ∙ leaves p earlier t text;
      inputs = λ h. refl;
      last = z.last;
      bytes = z.bytes ∙ feed_none _;
    }

stops_not : (e : JobEnd) → job_end e ≡ Continues → ⊥
stops_not jobs.EndOfJob h = cc
stops_not (jobs.Halt k) h = cc

pub ended : (e : JobEnd) → stage_at (job_end e) ≡ Ended (job_end e)
ended jobs.EndOfJob = refl
ended (jobs.Halt k) = refl

-- the job ends, and so does the last line
pub ends : (p : Object) (earlier : List Selected) (previous : Option Position) (x y : Option (List ℕ)) (m b c : Running) (left now : Left) (i j : Inputs) (stage : Stage) (s : Beside) (e : JobEnd) → m.program ≡ p →
    left ≡ left_by p earlier → AreMergedInOrder p earlier i → m.last ≡ line_of previous → Does (CycleBy p left x y) (refilled m) (unselected i) (job_end e) b s → c ≡ finished b →
    DoesCycle (job p m left i stage) earlier previous x y (job_end e) (job p c now j (Ended (job_end e)))
ends p earlier previous x y m b c left now i j stage s e same is order placed d done =
    let z = d.following previous placed in
    subst (λ (r : Running). DoesCycle (job p m left i stage) earlier previous x y (job_end e) (job p r now j (Ended (job_end e)))) (sym done) (record {
      stage = sym (ended e);
      program = refl;
      there = under_way (config_on (last_position_from previous z.out.lines) b.config) s;
      out = z.out;
      cycle = cycle_of p earlier previous x y m left i (job_end e) z.out _ same is order z.phase;
      config = refl;
      left = λ h. absurd (stops_not e h);
      inputs = λ h. absurd (stops_not e h);
      last = z.last;
      bytes = ap (with_feed (feed_after b.last)) z.bytes
          ∙ ap (λ (g : Stage). with_feed (feed_at g b.last) (with_output previous z.out.lines z.out.records m.output)) (sym (ended e));
    })
