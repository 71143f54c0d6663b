-- A run goes by the count of its own cycles.
use Rattle.std.proofs.Common.{◌≡◌, ℕ, zero, suc, ◌+◌, List, sym, ap, subst, arith}
use Rattle.rpg_program.specs.declared.input.InputFile.TheVariants.{Primary, Secondary}
use Rattle.rpg_program.specs.Object.{Object}
use Rattle.rpg_cycle_records.specs.Earlier.{Selected, with_record}
use Rattle.rpg_cycle.specs.Ends.{PhaseEnd, Continues, EndOfJob, Halt, Wrong}
use Rattle.rpg_machine.specs.Config.{Config, Output}
use Rattle.rpg_cycle.specs.Phases.{Cycle, UnderWay, begun, needs_record}
use Rattle.rpg_cycle.specs.Runs.{Course, Records, Runs, RunsIn, ends_or, left_following, next_of}
use Rattle.rpg_cycle_records.specs.Waiting.{Inputs}

one_more : (n m : ℕ) → n ≡ 1 + m → n ≡ suc m
one_more n m h = omega (arith, h)

module _ (p : Object) where
  abbrev Done : List Selected → Records → Config → Inputs → PhaseEnd → UnderWay → Output → Type 0
  Done earlier rs c i e d out = Cycle p earlier (next_of (needs_record p c i Primary) rs.primary) (next_of (needs_record p c i Secondary) rs.secondary) (begun p c i) e d out

  last : (earlier : List Selected) (rs : Records) (c : Config) (i : Inputs) (course : Course) (e : PhaseEnd) (d : UnderWay) (out : Output) → Done earlier rs c i e d out → course.cycles ≡ 1 →
      ((k : ℕ) → ends_or e d out (λ d rest. RunsIn k p (with_record d.selected earlier) (left_following p c i rs) d.config d.inputs rest) course) → Runs p earlier rs c i course
  last earlier rs c i course e d out cycle one h =
      subst (λ (k : ℕ). RunsIn k p earlier rs c i course) (sym (one_more course.cycles 0 (omega (arith, one)))) (e, d, out, cycle, h 0)

  by_end : (n : ℕ) (earlier : List Selected) (rs : Records) (c : Config) (i : Inputs) (course : Course) (e : PhaseEnd) (d : UnderWay) (out : Output) → Done earlier rs c i e d out →
      ((rest : Course) → RunsIn n p (with_record d.selected earlier) (left_following p c i rs) d.config d.inputs rest → Runs p (with_record d.selected earlier) (left_following p c i rs) d.config d.inputs rest) →
      ends_or e d out (λ d rest. RunsIn n p (with_record d.selected earlier) (left_following p c i rs) d.config d.inputs rest) course → Runs p earlier rs c i course
  by_end n earlier rs c i course Continues d out cycle more (rest, g, is) =
      subst (λ (k : ℕ). RunsIn k p earlier rs c i course) (sym (one_more course.cycles rest.cycles (ap (λ (x : Course). x.cycles) is)))
      (Continues, d, out, cycle, (rest, more rest g, is))
  by_end n earlier rs c i course EndOfJob d out cycle more is = last earlier rs c i course EndOfJob d out cycle (ap (λ (x : Course). x.cycles) is) (λ k. is)
  by_end n earlier rs c i course (Halt h) d out cycle more is = last earlier rs c i course (Halt h) d out cycle (ap (λ (x : Course). x.cycles) is) (λ k. is)
  by_end n earlier rs c i course (Wrong h) d out cycle more is = last earlier rs c i course (Wrong h) d out cycle (ap (λ (x : Course). x.cycles) is) (λ k. is)

  pub own_count : (n : ℕ) (earlier : List Selected) (rs : Records) (c : Config) (i : Inputs) (course : Course) → RunsIn n p earlier rs c i course → Runs p earlier rs c i course
  own_count zero earlier rs c i course h = absurd h
  own_count (suc n) earlier rs c i course (e, d, out, cycle, rest) =
      by_end n earlier rs c i course e d out cycle (λ r g. own_count n (with_record d.selected earlier) (left_following p c i rs) d.config d.inputs r g) rest
