-- Phases one after another, with all that is known of how each came out.
use Rattle.std.proofs.Common.{Result, Ok, Err, IfOk, ◌≡◌, ℕ, Bool, ◌+◌, ◌*◌, ◌≤◌, ◌<◌, ◌^◌, true, false, Option, ap, subst, arith}
use Rattle.std.specs.Result.{IsErrAnd}
use Rattle.rpg_cycle.proofs.Composing.{ends, goes, goes_own, left_out, memory_both, memory_map, not_left_out, ok_map, ok_of_err, passed_map, passed_memory, passes_ends, same_program, stops_map}
use Rattle.rpg_cycle.proofs.Growing.{and_grows}
use Rattle.rpg_cycle.proofs.Spending.{and_less, and_then, costs_none, of_same}
use Rattle.rpg_cycle.specs.Doing.{Beside, Does, DoesAlone, DoesHolding}
use Rattle.rpg_cycle.specs.Ends.{Continues, PhaseEnd, phase_end}
use Rattle.rpg_cycle.specs.Phases.{Phase, detail_lines, halt_if_indicated, set_off, unless, ◌before◌}
use Rattle.rpg_cycle.specs.Spending.{Spends, cycle_weight, reach, section_cost}
use Rattle.rpg_cycle.specs.Stages.{IfStops, job_end}
use Rattle.rpg_cycle.specs.Staging.{CanDo, CanSpend, DoesPhase, DoesStage}
use Rattle.rpg_cycle.specs.declared.ends.PhaseStop.{PhaseStop}
use Rattle.rpg_program.proofs.Fronts.{grows_not}
use Rattle.rpg_program.specs.Ends as effects
use Rattle.rpg_program.specs.declared.outcome.End as answers
use Rattle.rpg_program.specs.declared.outcome.End.TheVariants as ways
use Rattle.rpg_program.specs.Fronts.{OnlyGrows}
use Rattle.rpg_machine.specs.Config.{Config}
use Rattle.rpg_machine.specs.Ready.{IsReady}
use Rattle.rpg_machine.specs.Running.{Running, config_on}
use Rattle.rpg_program.specs.Object.{Object}
use Rattle.rpg_program.specs.declared.section.Section.TheVariants as sections
use Rattle.rpg_paper.specs.Paper.{Position}
use Rattle.rpg_verify.specs.Bound.{bound, most}

-- ---- what is still to come

left_few : (x y n m k : ℕ) → x + (n + m) ≤ k → y ≤ x + n → y + m ≤ k
left_few x y n m k h g = omega (arith, h, g)

-- it stays as few
pub still_few : {p : Object} {n : ℕ} (m k : ℕ) {a b : Running} → Spends p n a b → reach p a + (n + m) ≤ k → reach p b + m ≤ k
still_few {p} {n} m k {a} {b} s few = left_few (reach p a) (reach p b) n m k few s.few

-- after a phase that costs nothing
pub still_free : {p : Object} (m k : ℕ) {a b : Running} → Spends p 0 a b → reach p a + m ≤ k → reach p b + m ≤ k
still_free {p} m k {a} {b} s few = free (reach p a) (reach p b) m k few s.few
  where
    free : (x y m k : ℕ) → x + m ≤ k → y ≤ x + 0 → y + m ≤ k
    free x y m k h g = omega (arith, h, g)

-- and so do the steps
pub steps_few : (p : Object) (m : ℕ) (b : Running) → reach p b + m ≤ 2 ^ 59 → b.config.steps ≤ 2 ^ 60
steps_few p m b h = low b.config.steps (b.config.allowance * most p) m h
  where
    low : (s x m : ℕ) → s + x + m ≤ 2 ^ 59 → s ≤ 2 ^ 60
    low s x m h = omega (arith, h)

pub steps_low : (p : Object) (m : ℕ) (b : Running) → reach p b + m ≤ 2 ^ 48 → b.config.steps ≤ 2 ^ 49
steps_low p m b h = low b.config.steps (b.config.allowance * most p) m h
  where
    low : (s x m : ℕ) → s + x + m ≤ 2 ^ 48 → s ≤ 2 ^ 49
    low s x m h = omega (arith, h)

pub fewer : (x : ℕ) → x ≤ 2 ^ 48 → x ≤ 2 ^ 59
fewer x h = omega (arith, h)

-- nothing was spent
pub unspent : (p : Object) (a : Running) → Spends p 0 a a
unspent p a = record { few = same (reach p a) }
  where
    same : (x : ℕ) → x ≤ x + 0
    same x = omega arith

-- room for phases is room for one
pub can_do : {m : ℕ} {a : Running} → CanSpend m a → CanDo a
can_do {m} {a} h = record { ready = h.ready; few = steps_few a.program m a h.few }

pub can_less : (m : ℕ) {a : Running} → CanSpend m a → CanSpend 0 a
can_less m {a} h = record { ready = h.ready; few = less (reach a.program a) m h.few }
  where
    less : (x m : ℕ) → x + m ≤ 2 ^ 59 → x + 0 ≤ 2 ^ 59
    less x m h = omega (arith, h)

-- total lines still have room after total calculations
pub lines_few : (p : Object) {a b : Running} → reach p a + 0 ≤ 2 ^ 59 → Spends p (section_cost p sections.Total) a b → cycle_weight p ≤ bound p → bound p < 2 ^ 48 → b.config.steps ≤ 2 ^ 60
lines_few p {a} {b} few s within low =
    in_all b.config.steps (b.config.allowance * most p) (reach p a) (section_cost p sections.Total) _ _ _ _ _ _ _ few s.few within low
  where
    in_all : (s x r t f o y l d w k : ℕ) → r + 0 ≤ 2 ^ 59 → s + x ≤ r + t → f + o + y + (t + l) + d + w ≤ k → k < 2 ^ 48 → s ≤ 2 ^ 60
    in_all s x r t f o y l d w n h g k low = omega (arith, h, g, k, low)

-- ---- a phase that selects nothing, whatever is beside it

-- what the machine answered is passed on
pub answered : {P : Phase} {n : ℕ} {a b : Running} (last : answers.End) (r : Result (Unit {0}) PhaseStop) → IfOk r (λ _. last ≡ ways.Continues) → IfStops r (λ e. phase_end (effects.end_of last) ≡ job_end e) →
    ((e : PhaseEnd) → phase_end (effects.end_of last) ≡ e → DoesAlone P a e b) → (last ≡ ways.Continues → IsReady b) → Spends a.program n a b → OnlyGrows a.output b.output → DoesPhase P n a r b
answered last r on off did ready few grown = record {
  goes = ok_map r _ _ (λ x h. did Continues (ap (λ (e : answers.End). phase_end (effects.end_of e)) h)) on;
  stops = stops_map r _ _ (λ e h. did (job_end e) h) off;
  ready = ok_map r _ _ (λ x h. ready h) on;
  spends = memory_both r _ few;
  grows = grown;
}

-- what is beside it stays
pub of_phase : {P : Phase} {n : ℕ} {a b : Running} {r : Result (Unit {0}) PhaseStop} (h : Beside) → DoesPhase P n a r b → DoesStage a.program P n h a r b
of_phase {P} {n} {a} {b} {r} h x = record {
  goes = ok_map r _ _ (λ u e. e.each h) x.goes;
  stops = stops_map r _ _ (λ e f. f.each h) x.stops;
  ready = x.ready;
  spends = x.spends;
  grows = x.grows;
}

-- it weighs another number
pub weighs : {P : Phase} {n m : ℕ} {a b : Running} {r : Result (Unit {0}) PhaseStop} → (Spends a.program n a b → Spends a.program m a b) → DoesPhase P n a r b → DoesPhase P m a r b
weighs {P} {n} {m} {a} {b} {r} f x = record { goes = x.goes; stops = x.stops; ready = x.ready; spends = memory_map r _ _ f x.spends; grows = x.grows }

-- it is left out, or it isn't
pub leaves_out : (test : Config → Bool) (P : Phase) (n : ℕ) (a : Running) → IsReady a → ((previous : Option Position) → test (config_on previous a.config) ≡ true) → DoesPhase (unless test P) n a (Ok tt) a
leaves_out test P n a ready h = record { goes = left_out test P a h; stops = tt; ready = ready; spends = costs_none a.program n a; grows = grows_not a.output }

pub leaves_in : (test : Config → Bool) {P : Phase} {n : ℕ} {a b : Running} {r : Result (Unit {0}) PhaseStop} → ((previous : Option Position) → test (config_on previous a.config) ≡ false) → DoesPhase P n a r b →
    DoesPhase (unless test P) n a r b
leaves_in test {P} {n} {a} {b} {r} h x = record {
  goes = ok_map r _ _ (λ u d. not_left_out test P a b Continues h d) x.goes;
  stops = stops_map r _ _ (λ e d. not_left_out test P a b (job_end e) h d) x.stops;
  ready = x.ready;
  spends = x.spends;
  grows = x.grows;
}

-- it ends the job before another
pub phase_ends : {P : Phase} (Q : Phase) {n : ℕ} (m : ℕ) {a b : Running} (s : PhaseStop) (r : Result (Unit {0}) PhaseStop) → IsErrAnd r (λ x. x ≡ s) → DoesPhase P n a (Err s) b → DoesPhase (P before Q) (n + m) a r b
phase_ends {P} Q {n} m {a} {b} s r is x = record {
  goes = ok_of_err r _ _ is;
  stops = passed_map (Unit {0}) (Unit {0}) r s _ _ (λ e h. passes_ends e h) is x.stops;
  ready = ok_of_err r _ _ is;
  spends = passed_memory (Unit {0}) (Unit {0}) r s _ _ (λ t. and_less m t) is x.spends;
  grows = x.grows;
}

-- it continues, and then one of the machine's own program is done
pub phase_then : (F : Object → Phase) (w : Object → ℕ) {P : Phase} {n : ℕ} {a b c : Running} {u : Unit {0}} {r : Result (Unit {0}) PhaseStop} → DoesPhase P n a (Ok u) b → DoesPhase (F b.program) (w b.program) b r c →
    DoesPhase (P before F a.program) (n + w a.program) a r c
phase_then F w {P} {n} {a} {b} {c} {u} {r} x y = record {
  goes = ok_map r _ _ (λ v h. goes_own F x.goes h) y.goes;
  stops = stops_map r _ _ (λ e h. goes_own F x.goes h) y.stops;
  ready = y.ready;
  spends = memory_map r _ _ (λ h. and_then x.spends (of_same w (same_program x.goes) h)) y.spends;
  grows = and_grows x.grows y.grows;
}

-- a stage of the machine's own program
pub stage_own : (F : Object → Phase) (w : Object → ℕ) {p : Object} {h : Beside} {a b : Running} {r : Result (Unit {0}) PhaseStop} → a.program ≡ p → DoesStage a.program (F a.program) (w a.program) h a r b → DoesStage p (F p) (w p) h a r b
stage_own F w {p} {h} {a} {b} {r} same x = subst (λ (o : Object). DoesStage o (F o) (w o) h a r b) same x

-- a test that ends the job leaves the machine as it was
pub of_test : {P : Phase} {p : Object} {a : Running} (h : Beside) (s : PhaseStop) → IfStops {A = Unit {0}} (Err s) (λ e. DoesHolding P h a (job_end e) a) → DoesStage p P 0 h a (Err s) a
of_test {P} {p} {a} h s d = record { goes = tt; stops = d; ready = tt; spends = memory_both {A = Unit {0}} (Err s) _ (unspent p a); grows = grows_not a.output }

-- ---- one phase, and those that follow it

module _ {p : Object} {P Q : Phase} {n : ℕ} (m : ℕ) {h : Beside} {a b : Running} where
  -- the one continues
  pub continues : {c : Running} {r : Result (Unit {0}) PhaseStop} → DoesHolding P h a Continues b → Spends p n a b → OnlyGrows a.output b.output → DoesStage p Q m h b r c → DoesStage p (P before Q) (n + m) h a r c
  continues {c} {r} d s g x = record {
    goes = ok_map r _ _ (λ u e. goes d e) x.goes;
    stops = stops_map r _ _ (λ e f. goes d f) x.stops;
    ready = x.ready;
    spends = memory_map r _ _ (λ t. and_then s t) x.spends;
    grows = and_grows g x.grows;
  }

  -- the one ends the job
  pub ends_here : (s : PhaseStop) (r : Result (Unit {0}) PhaseStop) → IsErrAnd r (λ x. x ≡ s) → DoesStage p P n h a (Err s) b → DoesStage p (P before Q) (n + m) h a r b
  ends_here s r is x = record {
    goes = ok_of_err r _ _ is;
    stops = passed_map (Unit {0}) (Unit {0}) r s _ _ (λ e d. ends e d) is x.stops;
    ready = ok_of_err r _ _ is;
    spends = passed_memory (Unit {0}) (Unit {0}) r s _ _ (λ t. and_less m t) is x.spends;
    grows = x.grows;
  }

free_then : (x y z m : ℕ) → y ≤ x + 0 → z ≤ y + m → z ≤ x + m
free_then x y z m h g = omega (arith, h, g)

module _ {p : Object} {P Q : Phase} (m : ℕ) {h : Beside} {a b : Running} where
  -- a phase that costs nothing continues
  pub goes_free : {c : Running} {r : Result (Unit {0}) PhaseStop} → DoesHolding P h a Continues b → Spends p 0 a b → OnlyGrows a.output b.output → DoesStage p Q m h b r c → DoesStage p (P before Q) m h a r c
  goes_free {c} {r} d s g x = record {
    goes = ok_map r _ _ (λ u e. goes d e) x.goes;
    stops = stops_map r _ _ (λ e f. goes d f) x.stops;
    ready = x.ready;
    spends = memory_map r (Spends p m b c) (Spends p m a c) (λ t. record { few = free_then (reach p a) (reach p b) (reach p c) m s.few t.few }) x.spends;
    grows = and_grows g x.grows;
  }

  -- a phase that costs nothing ends the job
  pub ends_free : (s : PhaseStop) (r : Result (Unit {0}) PhaseStop) → IsErrAnd r (λ x. x ≡ s) → DoesStage p P 0 h a (Err s) b → DoesStage p (P before Q) m h a r b
  ends_free s r is x = record {
    goes = ok_of_err r _ _ is;
    stops = passed_map (Unit {0}) (Unit {0}) r s _ _ (λ e d. ends e d) is x.stops;
    ready = ok_of_err r _ _ is;
    spends = passed_memory (Unit {0}) (Unit {0}) r s (Spends p 0 a b) (Spends p m a b) (λ t. record { few = costly (reach p a) (reach p b) m t.few }) is x.spends;
    grows = x.grows;
  }
    where
      costly : (x y m : ℕ) → y ≤ x + 0 → y ≤ x + m
      costly x y m h = omega (arith, h)

-- ---- the phases before the selection

-- they went on, and then others were done
pub first_three : (p : Object) {Q : Phase} {a b d c : Running} (h : Beside) {u : Beside} {e : PhaseEnd} → DoesAlone (detail_lines p) a Continues b → DoesAlone halt_if_indicated b Continues b → DoesAlone (set_off p) b Continues d →
    Does Q d h e c u → Does (detail_lines p before halt_if_indicated before set_off p before Q) a h e c u
first_three p h x y z r = goes (x.each h) (goes (y.each h) (goes (z.each h) r))
