-- Steps and sections of an accepted program pay for what they output.
use Rattle.std.proofs.Common.{◌≡◌, ℕ, zero, suc, ◌+◌, Bool, true, false, ◌&&◌, cond, eqb, [], Option, None, Some, refl, sym, subst, arith, nat_cmp}
use Rattle.std.specs.FinMap as map
use Rattle.rpg_program.specs.Effect.{Effect}
use Rattle.rpg_program.specs.Ends.{End, Continues, Halt, Wrong}
use Rattle.rpg_program.specs.declared.operation.Instruction.{Instruction}
use Rattle.rpg_cycle_safety.proofs.Outputting.{instruction_few}
use Rattle.rpg_cycle_safety.proofs.Sizing.{PutsFew, bytes_both, near_both}
use Rattle.rpg_cycle_safety.proofs.Stepping.{leads_well}
use Rattle.rpg_cycle_safety.specs.Holding.{Holds}
use Rattle.rpg_cycle_safety.specs.Leading.{IsSteady, StepsWell}
use Rattle.rpg_cycle_safety.specs.Measuring.{StandsNear, PaysForOutput}
use Rattle.rpg_machine.proofs.Ranges.{never_none}
use Rattle.rpg_machine.proofs.Safe.{never_wrong}
use Rattle.rpg_machine.proofs.Starting.{first_is_place}
use Rattle.rpg_machine.proofs.Steps.{no_fault, output_of, step_right}
use Rattle.rpg_machine.specs.Accepted.{IsOrderly}
use Rattle.rpg_machine.specs.Config.{Config, Output, charged, here, no_output, with_more}
use Rattle.rpg_machine.specs.Control.{spends}
use Rattle.rpg_machine.specs.Run.{RunsTo, at_first, is_end, onward, put_before, run}
use Rattle.rpg_machine.specs.Step.{Outcome, Next, Stop, arrived, control_in, destination, effect, outcome_of, step, went}
use Rattle.rpg_machine.specs.declared.control.Control.{Control}
use Rattle.rpg_program.specs.ObjectInstructions.{weight}
use Rattle.rpg_program.specs.Object.{Object}
use Rattle.rpg_program.specs.Sections.{has_end, instruction_at}
use Rattle.rpg_program.specs.declared.section.Place.{Place}
use Rattle.rpg_program.specs.declared.section.Section.{Section}
use Rattle.rpg_paper.specs.Paper.{Position, last_position_from}

-- ---- from one configuration to another

-- nothing was output, and the form stayed
pub nothing_paid : (previous : Option Position) (n : ℕ) (c d : Config) → d.steps ≡ c.steps + n → d.world.paper.here ≡ c.world.paper.here → StandsNear previous c.world.paper.here →
    PaysForOutput previous c d no_output
nothing_paid previous n c d steps same near = record { few = omega (arith, steps); near = subst (λ (x : Position). StandsNear previous x) (sym same) near }

-- an effect that weighs what it outputs
pub effect_paid : (previous : Option Position) (n : ℕ) (c d : Config) (e : Effect nat_cmp) → d.steps ≡ c.steps + n → d.world ≡ e.world → PutsFew previous n e →
    PaysForOutput previous c d (output_of e)
effect_paid previous n c d e steps world h =
    let few = h.few in
    record { few = omega (arith, steps, few); near = rw world h.near }

-- the one, and then the other
pub paid_then : (previous : Option Position) (c d e : Config) (o more : Output) → PaysForOutput previous c d o →
    PaysForOutput (last_position_from previous o.lines) d e more → PaysForOutput previous c e (with_more o more)
paid_then previous c d e o more h k =
    let both = bytes_both previous o.lines more.lines o.records more.records in
    let one = h.few in
    let two = k.few in
    record { few = omega (arith, both, one, two); near = near_both previous o.lines more.lines e.world.paper.here k.near }

-- ---- a step

abbrev pub PaysFor : Option Position → Config → Outcome → Type 0
PaysFor previous c (Next d o) = PaysForOutput previous c d o
PaysFor previous c (Stop e d o) = PaysForOutput previous c d o

arrived_steps : (c : Config) (k : Control) (to : Option Place) → (arrived c k to).steps ≡ c.steps
arrived_steps c k None = refl
arrived_steps c k (Some to) = refl

module _ (p : Object) (orderly : IsOrderly p) where
  ended_paid : (ending : End) (previous : Option Position) (n : ℕ) (c m a : Config) (e : Effect nat_cmp) → m.steps ≡ c.steps + n → a.steps ≡ c.steps + n →
      PutsFew previous n e → PaysFor previous c (outcome_of ending m a e.world (output_of e))
  ended_paid Continues previous n c m a e one two h = effect_paid previous n c (record a { world = e.world }) e two refl h
  ended_paid (Halt k) previous n c m a e one two h = effect_paid previous n c (record m { world = e.world }) e one refl h
  ended_paid (Wrong f) previous n c m a e one two h = effect_paid previous n c (record m { world = e.world }) e one refl h

  spent_paid : (b : Bool) (previous : Option Position) (n : ℕ) (c m a : Config) (e : Effect nat_cmp) → m.steps ≡ c.steps + n → a.steps ≡ c.steps + n →
      m.world.paper.here ≡ c.world.paper.here → StandsNear previous c.world.paper.here → PutsFew previous n e → PaysFor previous c (cond b (Stop (Halt 5) m no_output) (went m a e))
  spent_paid true previous n c m a e one two same near h = nothing_paid previous n c m one same near
  spent_paid false previous n c m a e one two same near h = ended_paid e.ending previous n c m a e one two h

  by_instruction : (o : Option (Instruction ℕ)) (previous : Option Position) (c : Config) → instruction_at p (here c) ≡ o → is_end p c ≡ false → IsSteady p c → StandsNear previous c.world.paper.here →
      PaysFor previous c (step p c)
  by_instruction None previous c at more steady near = absurd (never_none p c steady.control.place more at)
  by_instruction (Some i) previous c at more steady near =
      let n = weight p i in
      let m = charged n c in
      let k = control_in c i in
      let a = arrived m k (destination p c k) in
      let is = step_right p c i at (no_fault p m i k (never_wrong p c i orderly steady.control at)) in
      let few = instruction_few p orderly.program orderly.sound i previous c.world steady.values near in
      subst (λ (x : Outcome). PaysFor previous c x) (sym is)
      (spent_paid (spends k && eqb c.allowance 0) previous n c m a (effect p i c.world) refl (arrived_steps m k (destination p c k)) refl near few)

  step_paid : (previous : Option Position) (c : Config) → is_end p c ≡ false → IsSteady p c → StandsNear previous c.world.paper.here → PaysFor previous c (step p c)
  step_paid previous c more steady near = by_instruction (instruction_at p (here c)) previous c refl more steady near

  -- ---- a section

  before_paid : (previous : Option Position) (c d : Config) (o : Output) (x : Outcome) → PaysForOutput previous c d o → PaysFor (last_position_from previous o.lines) d x →
      PaysFor previous c (put_before o x)
  before_paid previous c d o (Next e more) h k = paid_then previous c d e o more h k
  before_paid previous c d o (Stop f e more) h k = paid_then previous c d e o more h k

  abbrev RunPays : (Config → Outcome) → Type 0
  RunPays go = (previous : Option Position) (c : Config) → IsSteady p c → StandsNear previous c.world.paper.here → PaysFor previous c (go c)

  onward_paid : (previous : Option Position) (c : Config) (x : Outcome) (go : Config → Outcome) → StepsWell p x → PaysFor previous c x → RunPays go →
      PaysFor previous c (onward x go)
  onward_paid previous c (Next d o) go steady h next = before_paid previous c d o (go d) h (next (last_position_from previous o.lines) d steady h.near)
  onward_paid previous c (Stop e d o) go steady h next = h

  one_more : (n : ℕ) → RunPays (run p n) → (b : Bool) (previous : Option Position) (c : Config) → is_end p c ≡ b → IsSteady p c → StandsNear previous c.world.paper.here →
      PaysFor previous c (cond b (Stop Continues c no_output) (onward (step p c) (run p n)))
  one_more n next true previous c at_end steady near = nothing_paid previous 0 c c (omega arith) refl near
  one_more n next false previous c at_end steady near = onward_paid previous c (step p c) (run p n) (leads_well p orderly c steady at_end) (step_paid previous c at_end steady near) next

  run_paid : (n : ℕ) → RunPays (run p n)
  run_paid zero previous c steady near = nothing_paid previous 0 c c (omega arith) refl near
  run_paid (suc n) previous c steady near = one_more n (run_paid n) (is_end p c) previous c refl steady near

  -- however it ends
  pub section_paid : (section : Section) (previous : Option Position) (c : Config) (e : End) (d : Config) (o : Output) → has_end section ≡ true → c.cells ≡ map.empty →
      Holds p c.world.data → StandsNear previous c.world.paper.here → RunsTo p section c e d o → PaysForOutput previous c d o
  section_paid section previous c e d o ended none h near runs =
      let first = at_first p section c in
      let steady : IsSteady p first = record { values = h; control = record { place = first_is_place p section ended; cells = []; chain = (ended, none) } } in
      let paid : PaysForOutput previous first d o = subst (λ (x : Outcome). PaysFor previous first x) runs.run (run_paid runs.enough previous first steady near) in
      record { few = paid.few; near = paid.near }
