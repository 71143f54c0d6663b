-- Phases of a cycle by cards, one after another.
use Rattle.std.specs.Prelude.{◌≡◌, ℕ, Bool, true, false, List, [], ◌∷◌}
use Rattle.std.specs.FinSet as set
use Rattle.std.specs.List.{list_any}
use Rattle.std.specs.Ordering.{nat_cmp}
use Rattle.rpg_cards.specs.Keys.{key_cmp}
use Rattle.rpg_cycle.specs.Ends.{PhaseEnd, Continues, EndOfJob, Halt, phase_end}
use Rattle.rpg_cycle.specs.Indicators.{indicators_turned}
use Rattle.rpg_program.specs.Effect.{Effect}
use Rattle.rpg_program.specs.World.{World, with_data}
use Rattle.rpg_meaning.specs.Jobs.Job.{JobState}
use Rattle.rpg_machine.specs.Config.{Output, no_output, with_more}
use Rattle.rpg_meaning.specs.Calculations.Laws as calculations
use Rattle.rpg_meaning.specs.Calculations.Meaning.{CardsCome, MeantOutcome, On, Over, Source, Stops}
use Rattle.rpg_meaning.specs.Calculations.Parts.{Part}

-- A phase leads from one state to another; it continues or ends the job, and it outputs something.
abbrev pub MeantPhase : Type 1
MeantPhase = JobState → PhaseEnd → JobState → Output → Type 0

-- a phase from where the previous one led, unless that ended the job
abbrev pub meant_from_there : MeantPhase → PhaseEnd → JobState → Output → PhaseEnd → JobState → Output → Type 0
meant_from_there Q Continues m put e t out = (more : Output) × Q m e t more × (out ≡ with_more put more)
meant_from_there Q EndOfJob m put e t out = (e ≡ EndOfJob) × (t ≡ m) × (out ≡ put)
meant_from_there Q (Halt k) m put e t out = (e ≡ Halt k) × (t ≡ m) × (out ≡ put)
meant_from_there Q other m put e t out = ⊥

-- one phase, then the other
infixr 5 ◌andthen◌
-- one phase after the other; the second is skipped if the first ends the job
abbrev pub ◌andthen◌ : MeantPhase → MeantPhase → MeantPhase
(P andthen Q) s e t out = (f : PhaseEnd) × (m : JobState) × (put : Output) × P s f m put × meant_from_there Q f m put e t out

-- ---- kinds of phases

-- outputs nothing
abbrev pub meant_does : (JobState → PhaseEnd × JobState) → MeantPhase
meant_does f s e t out = (e ≡ (f s).0) × (t ≡ (f s).1) × (out ≡ no_output)

-- nothing is done
abbrev pub meant_passes : MeantPhase
meant_passes = meant_does (λ s. (Continues, s))

-- one of two phases, by a test
abbrev pub meant_either : Bool → MeantPhase → MeantPhase → MeantPhase
meant_either true P Q = P
meant_either false P Q = Q

-- a phase, unless the test holds
abbrev pub meant_unless : (JobState → Bool) → MeantPhase → MeantPhase
meant_unless test P s = meant_either (test s) meant_passes P s

-- the world is changed
abbrev pub by_effect : (World key_cmp → Effect key_cmp) → MeantPhase
by_effect f s e t out = (e ≡ phase_end (f s.world).ending) × (t ≡ record s { world = (f s.world).world }) × (out ≡ record { lines = (f s.world).lines; records = (f s.world).records })

-- calculations have reached an end or a halt
abbrev pub Came : MeantOutcome → MeantPhase
Came (On u o) s e t out = (e ≡ Continues) × (t ≡ record s { world = u.world; allowance = u.allowance }) × (out ≡ o)
Came (Stops k u o) s e t out = (e ≡ Halt k) × (t ≡ record s { world = u.world; allowance = u.allowance }) × (out ≡ o)
Came Over s e t out = ⊥

-- the calculations of a part
abbrev pub calculated : Source → Part → MeantPhase
calculated source part s e t out = (x : MeantOutcome) × CardsCome source (calculations.part_begun part s.world s.allowance) x × Came x s e t out

-- ---- indicators

-- the indicator is on
abbrev pub is_on_in : ℕ → JobState → Bool
is_on_in n s = set.contains s.world.data.on n

-- one of the indicators is on
abbrev pub any_on_in : List ℕ → JobState → Bool
any_on_in ns s = list_any (λ n. set.contains s.world.data.on n) ns

-- the indicators that are on, after these are turned on or off
abbrev pub turned_all : List ℕ → Bool → set.FinSet nat_cmp → set.FinSet nat_cmp
turned_all [] is_on on = on
turned_all (n ∷ ns) is_on on = turned_all ns is_on (indicators_turned n is_on on)

-- the state, after these indicators are turned on or off
abbrev pub with_turned : List ℕ → Bool → JobState → JobState
with_turned ns is_on s = record s { world = with_data (record s.world.data { on = turned_all ns is_on s.world.data.on }) s.world }
