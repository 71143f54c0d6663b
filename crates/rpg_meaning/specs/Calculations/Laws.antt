-- What it means that a program does what calculation cards mean.
use Rattle.std.specs.Prelude.{◌≡◌, ℕ, Bool, true, false, List, [], Some, slice_get}
use Rattle.std.specs.FinMap as map
use Rattle.rpg_cards.specs.Statements.{Calculation, Statement, Ends, Executes}
use Rattle.rpg_cards.specs.Keys.{Key, key_cmp}
use Rattle.rpg_cards.specs.declared.spec_card.SpecCard.{SpecCard}
use Rattle.rpg_compile_program.specs.Program.{key_numbers, program_of}
use Rattle.rpg_program.specs.Ends.{End, Continues, Halt}
use Rattle.rpg_program.specs.World.{World}
use Rattle.rpg_machine.specs.Config.{Config, Output}
use Rattle.rpg_machine.specs.Laws.{FitsIn}
use Rattle.rpg_machine.specs.Run.{RunsTo}
use Rattle.rpg_meaning.specs.Calculations.Agreement.{AgreeAt, AgreeEnded, MachineFollows, part_section}
use Rattle.rpg_meaning.specs.Calculations.Meaning.{CardsCome, MeantOutcome, On, Over, Source, State, Stops, cards_step, part_has_end}
use Rattle.rpg_meaning.specs.Calculations.Parts.{Part, calculations_in}
use Rattle.rpg_meaning.specs.Calculations.Sections.{AreOpen, Meets}
use Rattle.rpg_meaning.specs.Calculations.Sources.{source_of}
use Rattle.rpg_program.specs.Object.{Object}
use Rattle.rpg_program.specs.Naming.{Agree}

-- every statement but EXSR and ENDSR
abbrev pub stays_in_part : Statement Key → Bool
stays_in_part (Executes n) = false
stays_in_part (Ends l) = false
stays_in_part _ = true

-- One calculation: from where they agree its code leads to where the cards lead, or halts where they halt, and then they agree.
abbrev pub KeepsCalculations : Object → Source → (Key → ℕ) → Type 0
KeepsCalculations p source number =
    (s : State) (d : Config) (g : Calculation Key) → slice_get (calculations_in source.sections s.part) s.next ≡ Some g → stays_in_part g.statement ≡ true
    → AgreeAt p source number s d → MachineFollows p source number d (cards_step source s)

-- Whole sections, from anywhere in them: if the cards reach an end, the section reaches the same.
abbrev pub KeepsSections : Object → Source → (Key → ℕ) → Type 0
KeepsSections p source number =
    (s : State) (d : Config) → AgreeAt p source number s d → AreOpen p source.sections d.cells s.part s.back
    → (e : MeantOutcome) × CardsCome source s e × Meets p source number d e

-- the cards reach the same end as the section
abbrev pub EndsAs : Object → Source → (Key → ℕ) → MeantOutcome → End → Config → Output → Type 0
EndsAs p source number (On t o) e d out = (e ≡ Continues) × (out ≡ o) × AgreeEnded p source number t d
EndsAs p source number (Stops k t o) e d out = (e ≡ Halt k) × (out ≡ o) × AgreeEnded p source number t d
EndsAs p source number Over e d out = ⊥

-- before the first calculation of a part
abbrev pub part_begun : Part → World key_cmp → ℕ → State
part_begun part w allowance = record { world = w; part = part; next = 0; back = []; allowance = allowance }

-- Runs of the machine: whatever end a run of the detail or total section reaches, the cards reach it from a world that agrees.
abbrev pub KeepsRuns : Object → Source → (Key → ℕ) → Type 0
KeepsRuns p source number =
    (part : Part) → part_has_end part ≡ true
    → (v : World key_cmp) (c : Config) → Agree source.forms number v c.world → FitsIn p.fields c.world.data → c.cells ≡ map.empty
    → (e : End) (d : Config) (out : Output) → RunsTo p (part_section source.sections part) c e d out
    → (x : MeantOutcome) × CardsCome source (part_begun part v c.allowance) x × EndsAs p source number x e d out

-- a program that does what its source's calculations mean
pub record KeepsMeaning (p : Object) (source : Source) (number : Key → ℕ) : Type 0 where
  pub calculations : KeepsCalculations p source number
  pub sections : KeepsSections p source number
  pub runs : KeepsRuns p source number

-- the program of a source, with that allowance, does what its calculation cards mean
abbrev pub KeepsMeaningOfCards : List SpecCard → ℕ → Type 0
KeepsMeaningOfCards cards allowance = KeepsMeaning (program_of cards allowance) (source_of cards) (key_numbers cards)
