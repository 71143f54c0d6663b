-- What holds of a configuration throughout a run of an accepted program, and the possible results of a step and of a section's run.
use Rattle.std.specs.Prelude.{◌≡◌, ◌+◌, ◌*◌, ◌≤◌, true}
use Rattle.std.specs.FinMap as map
use Rattle.rpg_program.specs.Ends.{End, Continues, Halt, Wrong}
use Rattle.rpg_cycle_safety.specs.Holding.{Holds}
use Rattle.rpg_machine.specs.Chain.{IsSafe}
use Rattle.rpg_machine.specs.Config.{Config, Output}
use Rattle.rpg_machine.specs.Potential.{potential}
use Rattle.rpg_machine.specs.Run.{RunsTo, is_end}
use Rattle.rpg_machine.specs.Step.{Outcome, Next, Stop}
use Rattle.rpg_program.specs.Object.{Object}
use Rattle.rpg_program.specs.Sections.{first_place}
use Rattle.rpg_program.specs.declared.section.Section.{Section}
use Rattle.rpg_verify.specs.Bound.{cost, most}

-- the values are valid, the place is in the running section, and the return cells form one chain
pub record IsSteady (p : Object) (c : Config) : Type 0 where
  pub values : Holds p c.world.data
  pub control : IsSafe p c

-- nothing is wrong: it continues, or halts as an effect does, or at a spent allowance (5)
abbrev pub IsNamedEnd : End → Type 0
IsNamedEnd Continues = Unit {0}
IsNamedEnd (Halt k) = (1 ≤ k) × (k ≤ 5) × (k ≡ 3 → ⊥)
IsNamedEnd (Wrong f) = ⊥

-- a step continues or halts, at such a configuration; at a section's end there is no step
abbrev pub StepsWell : Object → Outcome → Type 0
StepsWell p (Next d o) = IsSteady p d
StepsWell p (Stop Continues d o) = ⊥
StepsWell p (Stop (Halt k) d o) = IsNamedEnd (Halt k) × IsSteady p d
StepsWell p (Stop (Wrong f) d o) = ⊥

-- the progress of a run: at such a configuration, at one that is its end, or at one where it halted
abbrev pub StandsWell : Object → Outcome → Type 0
StandsWell p (Next d o) = IsSteady p d
StandsWell p (Stop Continues d o) = IsSteady p d × (is_end p d ≡ true)
StandsWell p (Stop (Halt k) d o) = IsNamedEnd (Halt k) × IsSteady p d
StandsWell p (Stop (Wrong f) d o) = ⊥

-- The result of a section's run: its end or a halt, with valid values. At the section's end no subroutine runs. Its steps, and what the
-- remaining allowance can still buy, are at most the cost of the section's first place plus what the allowance could buy before.
pub record EndsWell (p : Object) (section : Section) (c : Config) (e : End) (d : Config) : Type 0 where
  pub ending : IsNamedEnd e
  pub values : Holds p d.world.data
  pub no_cell : e ≡ Continues → d.cells ≡ map.empty
  pub spent : d.allowance ≤ c.allowance
  pub bound : d.steps + d.allowance * most p ≤ c.steps + cost p (record { section = section; number = first_place p section }) + c.allowance * most p

-- a section has a run, with this result
pub record HasSectionRun (p : Object) (section : Section) (c : Config) : Type 0 where
  pub ending : End
  pub last : Config
  pub output : Output
  pub runs : RunsTo p section c ending last output
  pub ends : EndsWell p section c ending last

-- a step leads to a place of its section, with a chain of cells, and the steps so far plus those that may still come haven't grown
pub record StaysInBound (p : Object) (c : Config) (d : Config) (before : IsSafe p c) : Type 0 where
  pub control : IsSafe p d
  pub bound : potential (cost p) (most p) d control.cells ≤ potential (cost p) (most p) c before.cells
