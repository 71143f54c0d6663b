-- When a state of the cards and a configuration of the machine agree.
use Rattle.std.specs.Prelude.{◌≡◌, ℕ, ◌+◌, zero, suc, List, [], ◌∷◌}
use Rattle.rpg_cards.specs.Statements.{Calculation}
use Rattle.rpg_cards.specs.Keys.{Key}
use Rattle.rpg_cards.specs.Sections.{Sections, callee}
use Rattle.rpg_compile_program.specs.Code.{size}
use Rattle.rpg_program.specs.Ends.{Halt}
use Rattle.rpg_machine.specs.Chain.{IsSafe}
use Rattle.rpg_machine.specs.Config.{Config, Output}
use Rattle.rpg_machine.specs.Laws.{FitsIn}
use Rattle.rpg_machine.specs.Run.{put_before, run}
use Rattle.rpg_machine.specs.Step.{Stop}
use Rattle.rpg_meaning.specs.Calculations.Meaning.{MeantOutcome, On, Over, Source, State, Stops}
use Rattle.rpg_meaning.specs.Calculations.Parts.{InDetail, InSubroutine, InTotal, Part, calculations_in}
use Rattle.rpg_program.specs.Object.{Object}
use Rattle.rpg_program.specs.Sections.{first_place}
use Rattle.rpg_program.specs.declared.section.Section.{Section}
use Rattle.rpg_program.specs.declared.section.Section.TheVariants as sections
use Rattle.rpg_program.specs.Naming.{Agree}

-- the section that a part compiles to
abbrev pub part_section : Sections Key → Part → Section
part_section c InDetail = sections.Detail
part_section c InTotal = sections.Total
part_section c (InSubroutine name) = sections.Subroutine (callee name c.subroutines)

-- the place of the n-th of these calculations, given that of the first one; after them all the place after the last
abbrev pub place_at : ℕ → List (Calculation Key) → ℕ → ℕ
place_at place [] n = place
place_at place (g ∷ gs) zero = place
place_at place (g ∷ gs) (suc n) = place_at (place + size g) gs n

-- the place of the n-th calculation of a part; after them all the section's end
abbrev pub place_in : Object → Sections Key → Part → ℕ → ℕ
place_in p c part n = place_at (first_place p (part_section c part)) (calculations_in c part) n

-- a configuration as in the runs of an accepted program: no step from it is wrong
abbrev pub IsRunnable : Object → Config → Type 0
IsRunnable p d = IsSafe p d × FitsIn p.fields d.world.data

-- from one configuration the machine reaches another, with this output on the way
pub record Comes (p : Object) (c d : Config) (o : Output) : Type 0 where
  pub by : (k : ℕ) → (j : ℕ) × (run p j c ≡ put_before o (run p k d))

module _ (p : Object) (source : Source) (number : Key → ℕ) where
  -- values, indicators and everything else agree, the remaining allowance, and where they are: at the first place of the next
  -- calculation, or the section's end
  pub record AgreeAt (s : State) (d : Config) : Type 0 where
    pub world : Agree source.forms number s.world d.world
    pub allowance : d.allowance ≡ s.allowance
    pub section : d.section ≡ part_section source.sections s.part
    pub place : d.place ≡ place_in p source.sections s.part s.next
    pub fit : IsRunnable p d

  -- where both have ended
  pub record AgreeEnded (s : State) (d : Config) : Type 0 where
    pub world : Agree source.forms number s.world d.world
    pub allowance : d.allowance ≡ s.allowance

  -- what the machine does if the cards do this; return cells stay as they are
  abbrev pub MachineFollows : Config → MeantOutcome → Type 0
  MachineFollows d (On t o) = (e : Config) × Comes p d e o × AgreeAt t e × (e.cells ≡ d.cells)
  MachineFollows d (Stops k t o) = (e : Config) × ((j : ℕ) × (run p j d ≡ Stop (Halt k) e o)) × AgreeEnded t e
  MachineFollows d Over = ⊥
