-- A phase by cards follows a phase of the machine's cycle.
use Rattle.std.proofs.Common.{◌≡◌, ℕ, Bool, true, false, Option, refl, sym, ap, ◌∙◌, subst, nat_cmp}
use Rattle.std.specs.FinMap as map
use Rattle.rpg_cards.specs.Keys.{Key, key_cmp}
use Rattle.rpg_cycle.specs.Ends.{PhaseEnd, Continues, EndOfJob, Halt, Wrong, phase_end}
use Rattle.rpg_cycle.specs.Phases as machine
use Rattle.rpg_cycle.specs.Phases.{Done, UnderWay, ◌before◌}
use Rattle.rpg_program.specs.Effect.{Effect}
use Rattle.rpg_program.specs.Ends as effects
use Rattle.rpg_program.specs.World.{World}
use Rattle.rpg_cycle_safety.specs.Holding.{Holds, IsEffectEnd, Keeps}
use Rattle.rpg_cycle_safety.specs.Waiting.{AreWaiting}
use Rattle.rpg_meaning.specs.Jobs.Job.{Job, JobState}
use Rattle.rpg_meaning.specs.Jobs.Phases.{MeantPhase, by_effect, meant_does, meant_either, meant_passes, meant_unless, ◌andthen◌}
use Rattle.rpg_machine.specs.Config.{Config, Output}
use Rattle.rpg_machine.specs.Outputs.{ByEffect}
use Rattle.rpg_program.specs.Object.{Object}
use Rattle.rpg_cycle_records.specs.Earlier.{Selected}
use Rattle.rpg_program.specs.Naming.{Agree, SameEffect}

-- nothing is wrong
abbrev pub IsFine : PhaseEnd → Type 0
IsFine Continues = Unit {0}
IsFine EndOfJob = Unit {0}
IsFine (Halt k) = Unit {0}
IsFine (Wrong f) = ⊥

right_fine : (e : effects.End) → IsEffectEnd e → IsFine (phase_end e)
right_fine effects.Continues h = tt
right_fine (effects.Halt k) h = tt
right_fine (effects.Wrong f) h = h

-- what is to hold of the record that was selected
abbrev pub Selection : Type 1
Selection = Option Selected → Type 0

module _ (p : Object) (job : Job) (number : Key → ℕ) where
  -- the cards and the machine agree
  pub record Same (s : JobState) (c : UnderWay) : Type 0 where
    pub world : Agree job.source.forms number s.world c.config.world
    pub allowance : c.config.allowance ≡ s.allowance
    pub inputs : c.inputs ≡ s.inputs
    pub selected : c.selected ≡ s.selected

  -- between two phases
  pub record IsSettled (P : Selection) (c : UnderWay) : Type 0 where
    pub values : Holds p c.config.world.data
    pub no_cell : c.config.cells ≡ map.empty
    pub waiting : AreWaiting p c.inputs
    pub selected : P c.selected

  pub record Followed (Q : MeantPhase) (P : Selection) (s : JobState) (e : PhaseEnd) (d : UnderWay) (out : Output) : Type 0 where
    pub state : JobState
    pub meets : Q s e state out
    pub same : Same state d
    pub fine : IsFine e
    pub settled : e ≡ Continues → IsSettled P d

  -- whatever the machine comes to, the cards come to
  abbrev pub Follows : Selection → machine.Phase → MeantPhase → Selection → Type 0
  Follows P M Q R = (c : UnderWay) (s : JobState) → IsSettled P c → Same s c → (e : PhaseEnd) (d : UnderWay) (out : Output) → M c e d out → Followed Q R s e d out

  -- ---- one after the other

  pub follows_then : (P R T : Selection) (M N : machine.Phase) (Q O : MeantPhase) → Follows P M Q R → Follows R N O T → Follows P (M before N) (Q andthen O) T
  follows_then P R T M N Q O first second c s settled same e d out (f, m, put, h, rest) = by f (first c s settled same f m put h) rest
    where
      by : (f : PhaseEnd) → Followed Q R s f m put → machine.from_there N f m put e d out → Followed (Q andthen O) T s e d out
      by Continues o (more, g, is) =
          let b = second m o.state (o.settled refl) o.same e d more g in
          record { state = b.state; meets = (Continues, o.state, put, o.meets, (more, b.meets, is)); same = b.same; fine = b.fine; settled = b.settled }
      by EndOfJob o (g, there, is) = record {
        state = o.state;
        meets = (EndOfJob, o.state, put, o.meets, (g, refl, is));
        same = subst (Same o.state) (sym there) o.same;
        fine = subst IsFine (sym g) tt;
        settled = λ on. let never = sym g ∙ on in absurd cc;
      }
      by (Halt k) o (g, there, is) = record {
        state = o.state;
        meets = (Halt k, o.state, put, o.meets, (g, refl, is));
        same = subst (Same o.state) (sym there) o.same;
        fine = subst IsFine (sym g) tt;
        settled = λ on. let never = sym g ∙ on in absurd cc;
      }
      by (Wrong x) o (g, there, is) = absurd o.fine

  -- ---- what puts nothing out

  pub record Alike (R : Selection) (m : Done) (q : PhaseEnd × JobState) : Type 0 where
    pub ends : m.end ≡ q.0
    pub same : Same q.1 m.leads
    pub fine : IsFine m.end
    pub settled : m.end ≡ Continues → IsSettled R m.leads

  pub follows_does : (P R : Selection) (f : UnderWay → Done) (g : JobState → PhaseEnd × JobState) → ((c : UnderWay) (s : JobState) → IsSettled P c → Same s c → Alike R (f c) (g s)) → Follows P (machine.without_output f) (meant_does g) R
  follows_does P R f g alike c s settled same e d out (ends, leads, put) =
      let a = alike c s settled same in
      record {
        state = (g s).1;
        meets = (ends ∙ a.ends, refl, put);
        same = subst (Same (g s).1) (sym leads) a.same;
        fine = subst IsFine (sym ends) a.fine;
        settled = λ on. subst (IsSettled R) (sym leads) (a.settled (sym ends ∙ on));
      }

  pub follows_pass : (P : Selection) → Follows P machine.nothing_done meant_passes P
  follows_pass P = follows_does P P (machine.done Continues) (λ s. (Continues, s)) (λ c s settled same. record { ends = refl; same = same; fine = tt; settled = λ on. settled })

  follows_either : (P : Selection) (M : machine.Phase) (Q : MeantPhase) → Follows P M Q P → (b : Bool) → Follows P (machine.either b machine.nothing_done M) (meant_either b meant_passes Q) P
  follows_either P M Q h true = follows_pass P
  follows_either P M Q h false = h

  pub follows_both : (P R : Selection) (M N : machine.Phase) (Q O : MeantPhase) → Follows P M Q R → Follows P N O R → (b : Bool) → Follows P (machine.either b M N) (meant_either b Q O) R
  follows_both P R M N Q O first second true = first
  follows_both P R M N Q O first second false = second

  pub follows_unless : (P : Selection) (test : Config → Bool) (asks : JobState → Bool) (M : machine.Phase) (Q : MeantPhase) → ((c : UnderWay) (s : JobState) → Same s c → test c.config ≡ asks s) → Follows P M Q P
      → Follows P (machine.unless test M) (meant_unless asks Q) P
  follows_unless P test asks M Q equal h c s settled same e d out met =
      let one = follows_either P M Q h (test c.config) c s settled same e d out met in
      record { state = one.state; meets = subst (λ b. meant_either b meant_passes Q s e one.state out) (equal c s same) one.meets; same = one.same; fine = one.fine; settled = one.settled }

  -- ---- what the machine does

  pub follows_effect : (P : Selection) (weight : ℕ) (effect : World nat_cmp → Effect nat_cmp) (f : World key_cmp → Effect key_cmp)
      → ((w : World nat_cmp) → Holds p w.data → Keeps p (effect w)) → ((v : World key_cmp) (w : World nat_cmp) → Agree job.source.forms number v w → SameEffect job.source.forms number (f v) (effect w))
      → Follows P (machine.by_machine (ByEffect weight effect)) (by_effect f) P
  follows_effect P weight effect f keeps equal c s settled same e d out (last, act, ends, files, kept) =
      let w = c.config.world in
      let k = keeps w settled.values in
      let q = equal s.world w same.world in
      let world = ap (λ (x : Config). x.world) act.leads in
      record {
        state = record s { world = (f s.world).world };
        meets = (ends ∙ ap phase_end (act.ends ∙ q.ending), refl, act.puts ∙ (λ i. record { lines = q.lines i; records = q.records i }));
        same = record {
          world = subst (Agree job.source.forms number (f s.world).world) (sym world) q.world;
          allowance = ap (λ (x : Config). x.allowance) act.leads ∙ same.allowance;
          inputs = files ∙ same.inputs;
          selected = kept ∙ same.selected;
        };
        fine = subst IsFine (sym ends) (right_fine last (subst IsEffectEnd (sym act.ends) k.ending));
        settled = λ on. record {
          values = subst (λ (x : World nat_cmp). Holds p x.data) (sym world) k.holds;
          no_cell = ap (λ (x : Config). x.cells) act.leads ∙ settled.no_cell;
          waiting = subst (AreWaiting p) (sym files) settled.waiting;
          selected = subst P (sym kept) settled.selected;
        };
      }
