-- Phases that nothing stops but the end of the job or a halt, one after another, and what they take.
use Rattle.std.proofs.Common.{◌≡◌, ℕ, ◌+◌, ◌*◌, ◌≤◌, Bool, true, false, cond, length, Option, None, Some, is_some, All, refl, arith, nat_cmp}
use Rattle.std.specs.FinMap as map
use Rattle.rpg_cycle_records.specs.Earlier.{Selected}
use Rattle.rpg_cycle_records.specs.Fitting.{IsFilledAs}
use Rattle.rpg_cycle.specs.Ends.{PhaseEnd, Continues, EndOfJob, Halt, Wrong, phase_end}
use Rattle.rpg_cycle.specs.Phases.{Done, Phase, UnderWay, by_machine, without_output, done, either, has_no_overflow, nothing_done, unless, ◌before◌}
use Rattle.rpg_program.specs.Effect.{Effect}
use Rattle.rpg_program.specs.Ends as effects
use Rattle.rpg_program.specs.World.{World}
use Rattle.rpg_cycle_safety.specs.Holding.{Holds, IsEffectEnd, Keeps}
use Rattle.rpg_machine.specs.Config.{Config, Output, charged, no_output, with_more}
use Rattle.rpg_machine.specs.Outputs.{ByEffect, inputs_at}
use Rattle.rpg_machine.specs.Running.{Behaviour}
use Rattle.rpg_program.specs.Kept.{IsCharacter}
use Rattle.rpg_program.specs.Object.{Object}
use Rattle.rpg_cycle_safety.specs.Coming.{IsCycleEnd}
use Rattle.rpg_cycle_safety.specs.Waiting.{AreWaiting}
use Rattle.rpg_verify.specs.Bound.{most}

-- the steps used, and those that what is left of the allowance can still buy
abbrev pub reach : Object → Config → ℕ
reach p c = c.steps + c.allowance * most p

-- what is still to be paid for the record that was selected
abbrev pub Owed : Type 0
Owed = Option Selected → ℕ

abbrev pub nothing : Owed
nothing s = 0

-- the fields that it fills
abbrev pub its_fields : Object → Owed
its_fields p None = 0
its_fields p (Some s) = length (inputs_at p s.type)

module _ (p : Object) where
  -- a record that was selected is as long as the records of its type's file, and characters
  pub record IsRecord (s : Selected) : Type 0 where
    pub long : IsFilledAs p s.type s.text
    pub characters : All IsCharacter s.text

  abbrev pub IsTaken : Option Selected → Type 0
  IsTaken None = Unit {0}
  IsTaken (Some s) = IsRecord s

  -- a cycle under way that has taken so many steps at most
  pub record Ready (owed : Owed) (n : ℕ) (c : UnderWay) : Type 0 where
    pub values : Holds p c.config.world.data
    pub no_cell : c.config.cells ≡ map.empty
    pub waiting : AreWaiting p c.inputs
    pub taken : IsTaken c.selected
    pub few : reach p c.config + owed c.selected ≤ n

  -- what a phase comes to
  pub record Comes (owed : Owed) (n : ℕ) (e : PhaseEnd) (d : UnderWay) : Type 0 where
    pub named : IsCycleEnd e
    pub values : Holds p d.config.world.data
    pub waiting : AreWaiting p d.inputs
    pub few : reach p d.config ≤ n
    pub ready : e ≡ Continues → Ready owed n d

  pub record Outcome (P : Phase) (owed : Owed) (n : ℕ) (c : UnderWay) : Type 0 where
    pub ending : PhaseEnd
    pub leads : UnderWay
    pub output : Output
    pub phase : P c ending leads output
    pub comes : Comes owed n ending leads

  -- a phase does something from everywhere, and takes so many steps at most
  abbrev pub Works : Phase → Owed → Owed → ℕ → Type 0
  Works P owed left a = (n : ℕ) (c : UnderWay) → Ready owed n c → Outcome P left (n + a) c

  ready_more : (owed : Owed) (n m : ℕ) (c : UnderWay) → n ≤ m → Ready owed n c → Ready owed m c
  ready_more owed n m c l r = let few = r.few in record { values = r.values; no_cell = r.no_cell; waiting = r.waiting; taken = r.taken; few = omega (arith, few, l) }

  comes_more : (owed : Owed) (n m : ℕ) (e : PhaseEnd) (d : UnderWay) → n ≤ m → Comes owed n e d → Comes owed m e d
  comes_more owed n m e d l r = let few = r.few in record { named = r.named; values = r.values; waiting = r.waiting; few = omega (arith, few, l); ready = λ is. ready_more owed n m d l (r.ready is) }

  -- continues from there
  pub goes : (owed : Owed) (n : ℕ) (d : UnderWay) → Ready owed n d → Comes owed n Continues d
  goes owed n d r = let few = r.few in record { named = tt; values = r.values; waiting = r.waiting; few = omega (arith, few); ready = λ is. r }

  -- ends there
  pub ends : (owed : Owed) (n : ℕ) (e : PhaseEnd) (d : UnderWay) → IsCycleEnd e → (e ≡ Continues → ⊥) → Holds p d.config.world.data → AreWaiting p d.inputs → reach p d.config ≤ n →
      Comes owed n e d
  ends owed n e d named stops values waiting few = record { named = named; values = values; waiting = waiting; few = few; ready = λ is. absurd (stops is) }

  -- ---- one after another

  module _ (P Q : Phase) (x y z : Owed) (a b n : ℕ) (c : UnderWay) where
    then_by : (e : PhaseEnd) (m : UnderWay) (put : Output) → P c e m put → Comes y (n + a) e m → Works Q y z b → Outcome (P before Q) z (n + (a + b)) c
    then_by Continues m put h comes second =
        let q = second (n + a) m (comes.ready refl) in record {
          ending = q.ending;
          leads = q.leads;
          output = with_more put q.output;
          phase = (Continues, m, put, h, (q.output, q.phase, refl));
          comes = comes_more z (n + a + b) (n + (a + b)) q.ending q.leads (omega arith) q.comes;
        }
    then_by EndOfJob m put h comes second = record {
      ending = EndOfJob;
      leads = m;
      output = put;
      phase = (EndOfJob, m, put, h, (refl, refl, refl));
      comes = let few = comes.few in ends z (n + (a + b)) EndOfJob m tt (λ is. cc) comes.values comes.waiting (omega (arith, few));
    }
    then_by (Halt k) m put h comes second = record {
      ending = Halt k;
      leads = m;
      output = put;
      phase = (Halt k, m, put, h, (refl, refl, refl));
      comes = let few = comes.few in ends z (n + (a + b)) (Halt k) m comes.named (λ is. cc) comes.values comes.waiting (omega (arith, few));
    }
    then_by (Wrong f) m put h comes second = absurd comes.named

  pub both : (P Q : Phase) (x y z : Owed) (a b : ℕ) → Works P x y a → Works Q y z b → Works (P before Q) x z (a + b)
  both P Q x y z a b first second n c r = let o = first n c r in then_by P Q x y z a b n c o.ending o.leads o.output o.phase o.comes second

  -- ---- phases without output

  pub does_work : (f : UnderWay → Done) (x y : Owed) (a : ℕ) → ((n : ℕ) (c : UnderWay) → Ready x n c → Comes y (n + a) (f c).end (f c).leads) → Works (without_output f) x y a
  does_work f x y a h n c r = record { ending = (f c).end; leads = (f c).leads; output = no_output; phase = (refl, refl, refl); comes = h n c r }

  pub pass_works : (x : Owed) (a : ℕ) → Works nothing_done x x a
  pass_works x a = does_work (done Continues) x x a (λ n c r. goes x (n + a) c (ready_more x n (n + a) c (omega arith) r))

  either_works : (P : Phase) (x : Owed) (a : ℕ) → Works P x x a → (b : Bool) → Works (either b nothing_done P) x x a
  either_works P x a h true = pass_works x a
  either_works P x a h false = h

  as_either : (test : Config → Bool) (P : Phase) (x : Owed) (n : ℕ) (c : UnderWay) → Outcome (either (test c.config) nothing_done P) x n c → Outcome (unless test P) x n c
  as_either test P x n c o = record { ending = o.ending; leads = o.leads; output = o.output; phase = o.phase; comes = o.comes }

  pub unless_works : (test : Config → Bool) (P : Phase) (x : Owed) (a : ℕ) → Works P x x a → Works (unless test P) x x a
  unless_works test P x a h n c r = as_either test P x (n + a) c (either_works P x a h (test c.config) n c r)

  -- where there is no overflow indicator, nothing is taken
  pub overflow_works : (o : Option ℕ) (P : Phase) (x : Owed) (a : ℕ) → Works P x x a → Works (unless (has_no_overflow o) P) x x (cond (is_some o) a 0)
  overflow_works None P x a h n c r = as_either (has_no_overflow None) P x (n + 0) c (pass_works x 0 n c r)
  overflow_works (Some i) P x a h n c r = unless_works (has_no_overflow (Some i)) P x a h n c r

  -- ---- what the machine does

  pub record Acted (P : Behaviour) (a : ℕ) (c : Config) : Type 0 where
    pub last : effects.End
    pub leads : Config
    pub output : Output
    pub act : P c last leads output
    pub named : IsCycleEnd (phase_end last)
    pub values : Holds p leads.world.data
    pub no_cell : last ≡ effects.Continues → leads.cells ≡ map.empty
    pub few : reach p leads ≤ reach p c + a

  pub going : (last : effects.End) → phase_end last ≡ Continues → last ≡ effects.Continues
  going effects.Continues h = refl
  going (effects.Halt k) h = cc
  going (effects.Wrong f) h = cc

  pub machine_works : (P : Behaviour) (x : Owed) (a : ℕ) → ((c : Config) → Holds p c.world.data → c.cells ≡ map.empty → Acted P a c) → Works (by_machine P) x x a
  machine_works P x a h n c r =
      let o = h c.config r.values r.no_cell in
      let grown = o.few in
      let few = r.few in
      record {
        ending = phase_end o.last;
        leads = record { config = o.leads; inputs = c.inputs; selected = c.selected };
        output = o.output;
        phase = (o.last, o.act, refl, refl, refl);
        comes = record {
          named = o.named;
          values = o.values;
          waiting = r.waiting;
          few = omega (arith, grown, few);
          ready = λ is. record { values = o.values; no_cell = o.no_cell (going o.last is); waiting = r.waiting; taken = r.taken; few = omega (arith, grown, few) };
        };
      }

  right_named : (e : effects.End) → IsEffectEnd e → IsCycleEnd (phase_end e)
  right_named effects.Continues h = tt
  right_named (effects.Halt k) h = (h.0, omega (arith, h.1))
  right_named (effects.Wrong f) h = absurd h

  -- an effect that keeps what holds
  pub effect_acts : (weight : ℕ) (effect : World nat_cmp → Effect nat_cmp) (c : Config) → Keeps p (effect c.world) → c.cells ≡ map.empty →
      Acted (ByEffect weight effect) weight c
  effect_acts weight effect c k none = record {
    last = (effect c.world).ending;
    leads = record (charged weight c) { world = (effect c.world).world };
    output = record { lines = (effect c.world).lines; records = (effect c.world).records };
    act = record { ends = refl; leads = refl; puts = refl };
    named = right_named (effect c.world).ending k.ending;
    values = k.holds;
    no_cell = λ is. none;
    few = omega arith;
  }
