-- What a job does is determined: a phase, a cycle and a run have one outcome.
use Rattle.std.proofs.Common.{◌≡◌, ℕ, ℤ, zero, suc, Bool, true, false, cond, List, [], Option, None, Some, refl, sym, ap, ◌∙◌, subst}
use Rattle.std.specs.Ordering.{nat_cmp}
use Rattle.rpg_program.specs.Effect.{Effect}
use Rattle.rpg_program.specs.Ends as effects
use Rattle.rpg_program.specs.Put.{Bytes}
use Rattle.rpg_program.specs.World.{Fields, World}
use Rattle.rpg_cycle_records.specs.Earlier.{Left, Selected, left_by, with_record}
use Rattle.rpg_cycle_records.specs.Waiting.{Inputs, has_match, unread}
use Rattle.rpg_program.specs.declared.input.InputFile.TheVariants.{Primary, Secondary}
use Rattle.rpg_cycle.specs.Ends.{PhaseEnd, Continues, EndOfJob, Halt, Wrong, phase_end}
use Rattle.rpg_cycle.specs.Indicators.{is_on, last_record}
use Rattle.rpg_cycle.specs.Phases.{CycleOn, Done, Phase, UnderWay, begun, by_machine, without_output, either, fill_from, from_there, needs_record, output, nothing_done, section, select_record, unless, ◌before◌}
use Rattle.rpg_cycle.specs.Runs.{Course, IsRun, Records, RunsIn, ends_or, left_following, next_of, printed, stored, with_cycle}
use Rattle.rpg_cycle.specs.Starting.{job_start}
use Rattle.rpg_machine.specs.Config.{Config, Output, no_output, with_more}
use Rattle.rpg_machine.specs.Outputs.{ByEffect}
use Rattle.rpg_machine.specs.Run.{RunsTo, at_first, is_end, onward, put_before, run}
use Rattle.rpg_machine.specs.Running.{Behaviour}
use Rattle.rpg_machine.specs.Step.{Outcome, Next, Stop, step}
use Rattle.rpg_machine.specs.declared.time.OutputTime.{OutputTime}
use Rattle.rpg_machine.specs.declared.time.OutputTime.TheVariants as times
use Rattle.rpg_program.specs.Object.{Object}
use Rattle.rpg_program.specs.declared.section.Section.{Section}
use Rattle.rpg_program.specs.declared.section.Section.TheVariants as sections

-- ---- sections

abbrev IsStop : Outcome → Type 0
IsStop (Next c o) = ⊥
IsStop (Stop e c o) = Unit {0}

put_stop : (o : Output) (r : Outcome) → IsStop (put_before o r) → IsStop r
put_stop o (Next c more) h = absurd h
put_stop o (Stop e c more) h = tt

step_same : (b : Bool) (s : Outcome) (c : Config) (go there : Config → Outcome) → ((d : Config) → IsStop (go d) → IsStop (there d) → go d ≡ there d) →
    IsStop (cond b (Stop effects.Continues c no_output) (onward s go)) → IsStop (cond b (Stop effects.Continues c no_output) (onward s there)) →
    cond b (Stop effects.Continues c no_output) (onward s go) ≡ cond b (Stop effects.Continues c no_output) (onward s there)
step_same true s c go there f h g = refl
step_same false (Stop e d o) c go there f h g = refl
step_same false (Next d o) c go there f h g = ap (put_before o) (f d (put_stop o (go d) h) (put_stop o (there d) g))

run_same : (p : Object) (n m : ℕ) (c : Config) → IsStop (run p n c) → IsStop (run p m c) → run p n c ≡ run p m c
run_same p zero m c h g = absurd h
run_same p (suc n) zero c h g = absurd g
run_same p (suc n) (suc m) c h g = step_same (is_end p c) (step p c) c (run p n) (run p m) (λ d x y. run_same p n m d x y) h g

-- ---- what one outcome is

pub record IsSame (e f : PhaseEnd) (c d : UnderWay) (x y : Output) : Type 0 where
  pub end : e ≡ f
  pub there : c ≡ d
  pub out : x ≡ y

-- a phase that leads to one place alone
pub record IsFixed (P : Phase) : Type 0 where
  pub same : (c : UnderWay) (e f : PhaseEnd) (x y : UnderWay) (a b : Output) → P c e x a → P c f y b → IsSame e f x y a b

-- the same of what the machine does
pub record IsFixedAct (P : Behaviour) : Type 0 where
  pub ends : (c : Config) (e f : effects.End) (x y : Config) (a b : Output) → P c e x a → P c f y b → e ≡ f
  pub leads : (c : Config) (e f : effects.End) (x y : Config) (a b : Output) → P c e x a → P c f y b → x ≡ y
  pub puts : (c : Config) (e f : effects.End) (x y : Config) (a b : Output) → P c e x a → P c f y b → a ≡ b

effect_fixed : (weight : ℕ) (effect : World nat_cmp → Effect nat_cmp) → IsFixedAct (ByEffect weight effect)
effect_fixed weight effect = record {
  ends = λ c e f x y a b h g. h.ends ∙ sym g.ends;
  leads = λ c e f x y a b h g. h.leads ∙ sym g.leads;
  puts = λ c e f x y a b h g. h.puts ∙ sym g.puts;
}

same_stop : (p : Object) (s : Section) (c : Config) (e f : effects.End) (x y : Config) (a b : Output) → RunsTo p s c e x a → RunsTo p s c f y b → Stop e x a ≡ Stop f y b
same_stop p s c e f x y a b h g =
    sym h.run ∙ run_same p h.enough g.enough (at_first p s c) (subst (λ (o : Outcome). IsStop o) (sym h.run) tt) (subst (λ (o : Outcome). IsStop o) (sym g.run) tt) ∙ g.run

run_fixed : (p : Object) (s : Section) → IsFixedAct (RunsTo p s)
run_fixed p s = record {
  ends = λ c e f x y a b h g. let k = same_stop p s c e f x y a b h g in cc;
  leads = λ c e f x y a b h g. let k = same_stop p s c e f x y a b h g in cc;
  puts = λ c e f x y a b h g. let k = same_stop p s c e f x y a b h g in cc;
}

under_way_same : (x y : UnderWay) → x.config ≡ y.config → x.inputs ≡ y.inputs → x.selected ≡ y.selected → x ≡ y
under_way_same x y h f g =
    ap (λ c. let u : UnderWay = record { config = c; inputs = x.inputs; selected = x.selected } in u) h
    ∙ ap (λ i. let u : UnderWay = record { config = y.config; inputs = i; selected = x.selected } in u) f
    ∙ ap (λ s. let u : UnderWay = record { config = y.config; inputs = y.inputs; selected = s } in u) g

machine_fixed : (P : Behaviour) → IsFixedAct P → IsFixed (by_machine P)
machine_fixed P p = record {
  same = λ c e f x y a b h g. record {
    end = h.2 ∙ ap phase_end (p.ends c.config h.0 g.0 x.config y.config a b h.1 g.1) ∙ sym g.2;
    there = under_way_same x y (p.leads c.config h.0 g.0 x.config y.config a b h.1 g.1) (h.3 ∙ sym g.3) (h.4 ∙ sym g.4);
    out = p.puts c.config h.0 g.0 x.config y.config a b h.1 g.1;
  };
}

does_fixed : (f : UnderWay → Done) → IsFixed (without_output f)
does_fixed f = record { same = λ c e k x y a b h g. record { end = h.0 ∙ sym g.0; there = h.1 ∙ sym g.1; out = h.2 ∙ sym g.2 } }

from_there_fixed : (Q : Phase) → IsFixed Q → (f : PhaseEnd) (m : UnderWay) (put : Output) (e k : PhaseEnd) (x y : UnderWay) (a b : Output) → from_there Q f m put e x a → from_there Q f m put k y b → IsSame e k x y a b
from_there_fixed Q q Continues m put e k x y a b h g =
    let s = q.same m e k x y h.0 g.0 h.1 g.1 in record { end = s.end; there = s.there; out = h.2 ∙ ap (with_more put) s.out ∙ sym g.2 }
from_there_fixed Q q EndOfJob m put e k x y a b h g = record { end = h.0 ∙ sym g.0; there = h.1 ∙ sym g.1; out = h.2 ∙ sym g.2 }
from_there_fixed Q q (Halt n) m put e k x y a b h g = record { end = h.0 ∙ sym g.0; there = h.1 ∙ sym g.1; out = h.2 ∙ sym g.2 }
from_there_fixed Q q (Wrong n) m put e k x y a b h g = record { end = h.0 ∙ sym g.0; there = h.1 ∙ sym g.1; out = h.2 ∙ sym g.2 }

from_same : (Q : Phase) (f k : PhaseEnd) (m n : UnderWay) (u v : Output) (e : PhaseEnd) (x : UnderWay) (a : Output) → IsSame f k m n u v → from_there Q k n v e x a → from_there Q f m u e x a
from_same Q f k m n u v e x a s h =
    subst (λ (z : PhaseEnd). from_there Q z m u e x a) (sym s.end) (subst (λ (z : UnderWay). from_there Q k z u e x a) (sym s.there) (subst (λ (z : Output). from_there Q k n z e x a) (sym s.out) h))

before_fixed : (P Q : Phase) → IsFixed P → IsFixed Q → IsFixed (P before Q)
before_fixed P Q p q = record {
  same = λ c e k x y a b h g.
      from_there_fixed Q q h.0 h.1 h.2 e k x y a b h.4 (from_same Q h.0 g.0 h.1 g.1 h.2 g.2 k y b (p.same c h.0 g.0 h.1 g.1 h.2 g.2 h.3 g.3) g.4);
}

either_fixed : (b : Bool) (P Q : Phase) → IsFixed P → IsFixed Q → IsFixed (either b P Q)
either_fixed true P Q p q = p
either_fixed false P Q p q = q

unless_fixed : (test : Config → Bool) (P : Phase) → IsFixed P → IsFixed (unless test P)
unless_fixed test P p = record { same = λ c e f x y a b h g. (either_fixed (test c.config) nothing_done P (does_fixed _) p).same c e f x y a b h g }

fill_fixed : (p : Object) (s : Option Selected) → IsFixed (fill_from p s)
fill_fixed p None = does_fixed _
fill_fixed p (Some s) = machine_fixed _ (effect_fixed _ _)

output_fixed : (p : Object) (time : OutputTime) → IsFixed (output p time)
output_fixed p time = machine_fixed _ (effect_fixed _ _)

section_fixed : (p : Object) (s : Section) → IsFixed (section p s)
section_fixed p s = machine_fixed _ (run_fixed p s)

-- ---- a cycle

select_fixed : (p : Object) (left : Left) (a b : Option (List ℕ)) → IsFixed (select_record p left a b)
select_fixed p left a b = record {
  same = λ c e f x y u v h g.
      (either_fixed (is_on c.config last_record) _ _ (does_fixed _) (before_fixed _ _ (does_fixed _) (before_fixed _ _ (does_fixed _) (does_fixed _)))).same c e f x y u v h g;
}

pub cycle_fixed : (p : Object) (left : Left) (matches : Inputs → Selected → Bool) (a b : Option (List ℕ)) → IsFixed (CycleOn p left matches a b)
cycle_fixed p left matches a b =
    before_fixed _ _ (output_fixed p times.Detail)
    (before_fixed _ _ (does_fixed _)
    (before_fixed _ _ (does_fixed _)
    (before_fixed _ _ (select_fixed p left a b)
    (before_fixed _ _ (unless_fixed _ _ (before_fixed _ _ (section_fixed p sections.Total) (output_fixed p times.Total)))
    (before_fixed _ _ (does_fixed _)
    (before_fixed _ _ (unless_fixed _ _ (output_fixed p times.Overflow))
    (before_fixed _ _ (does_fixed _)
    (before_fixed _ _ (record { same = λ c e f x y u v h g. (fill_fixed p c.selected).same c e f x y u v h g })
    (section_fixed p sections.Detail)))))))))

-- ---- a run

ends_same : (e f : PhaseEnd) (x y : UnderWay) (a b : Output) (R S : UnderWay → Course → Type 0) (u v : Course) → IsSame e f x y a b → ((r s : Course) → R x r → S x s → r ≡ s) → ends_or e x a R u → ends_or f y b S v → u ≡ v
ends_same e f x y a b R S u v s one h g =
    cases e h (subst (λ (z : PhaseEnd). ends_or z x a S v) (sym s.end) (subst (λ (z : UnderWay). ends_or f z a S v) (sym s.there) (subst (λ (z : Output). ends_or f y z S v) (sym s.out) g)))
  where
    cases : (k : PhaseEnd) → ends_or k x a R u → ends_or k x a S v → u ≡ v
    cases Continues l m = l.2 ∙ ap (with_cycle x.config a) (one l.0 m.0 l.1 m.1) ∙ sym m.2
    cases EndOfJob l m = l ∙ sym m
    cases (Halt n) l m = l ∙ sym m
    cases (Wrong n) l m = l ∙ sym m

pub runs_same : (n m : ℕ) (p : Object) (earlier : List Selected) (rs : Records) (c : Config) (i : Inputs) (u v : Course) → RunsIn n p earlier rs c i u → RunsIn m p earlier rs c i v → u ≡ v
runs_same zero m p earlier rs c i u v h g = absurd h
runs_same (suc n) zero p earlier rs c i u v h g = absurd g
runs_same (suc n) (suc m) p earlier rs c i u v (e, x, a, h, r) (f, y, b, g, s) =
    ends_same e f x y a b (λ d rest. RunsIn n p (with_record d.selected earlier) (left_following p c i rs) d.config d.inputs rest)
    (λ d rest. RunsIn m p (with_record d.selected earlier) (left_following p c i rs) d.config d.inputs rest) u v
    ((cycle_fixed p (left_by p earlier) (has_match p earlier) (next_of (needs_record p c i Primary) rs.primary) (next_of (needs_record p c i Secondary) rs.secondary)).same (begun p c i) e f x y a b h g)
    (λ k l o q. runs_same n m p (with_record x.selected earlier) (left_following p c i rs) x.config x.inputs k l o q) r s

pub course_one : (p : Object) (date : ℤ) (fields : Fields nat_cmp) (records : Records) (u v : Course) (a b : Bytes) → IsRun p date fields records u a → IsRun p date fields records v b → u ≡ v
course_one p date fields records u v a b h g = runs_same u.cycles v.cycles p [] records (job_start p date fields) unread u v h.runs g.runs

bytes_are : (x y : Bytes) → x.print ≡ y.print → x.disk ≡ y.disk → x ≡ y
bytes_are x y h g = ap (λ z. let o : Bytes = record { print = z; disk = x.disk } in o) h ∙ ap (λ z. let o : Bytes = record { print = y.print; disk = z } in o) g

pub bytes_one : (p : Object) (date : ℤ) (fields : Fields nat_cmp) (records : Records) (u v : Course) (a b : Bytes) → IsRun p date fields records u a → IsRun p date fields records v b → a ≡ b
bytes_one p date fields records u v a b h g =
    let same = course_one p date fields records u v a b h g in
    bytes_are a b (h.print ∙ ap (λ (c : Course). printed c.output) same ∙ sym g.print) (h.disk ∙ ap (λ (c : Course). stored c.output) same ∙ sym g.disk)
