-- What it means that a program does what cards mean.
use Rattle.std.specs.Prelude.{◌≡◌, ℕ, ℤ, List, Some}
use Rattle.std.specs.Ordering.{nat_cmp}
use Rattle.rpg_cards.specs.Keys.{key_cmp}
use Rattle.rpg_cards.specs.declared.spec_card.SpecCard.{SpecCard}
use Rattle.rpg_cycle.specs.Job.{first_fields}
use Rattle.rpg_cycle.specs.Runs as machine
use Rattle.rpg_cycle.specs.Starting.{date_in}
use Rattle.rpg_program.specs.Put.{Bytes}
use Rattle.rpg_program.specs.World.{World}
use Rattle.rpg_meaning.specs.Jobs.Sources.{IsMeant}
use Rattle.rpg_meaning.specs.Jobs.Start.{ConstantsStand, IsStart}
use Rattle.rpg_meaning.specs.Calculations.Laws.{KeepsMeaning}
use Rattle.rpg_meaning.specs.Calculations.Sources.{source_of}
use Rattle.rpg_memory.specs.Fits.{KeepsConstants}
use Rattle.rpg_program.specs.Object.{Object}
use Rattle.rpg_program.specs.Naming.{Agree}
use Rattle.rpg_compile_program.specs.Program.{key_numbers}

-- each run of the program over records on a date is the run of the cards, from the values that they start with
abbrev pub RunsAsMeant : List SpecCard → ℕ → Object → ℤ → Type 0
RunsAsMeant cards allowance p date =
    (w : World key_cmp) → IsStart cards date w
    → (records : machine.Records) (course : machine.Course) (bytes : Bytes) → machine.IsRun p date (first_fields p) records course bytes
    → IsMeant cards allowance w records course bytes

-- the program does what the cards mean, over all records
pub record DoesAsMeant (cards : List SpecCard) (allowance : ℕ) (p : Object) : Type 0 where
  -- from where both agree: one calculation, whole sections with the subroutines that they call, and runs of them
  pub calculations : KeepsMeaning p (source_of cards) (key_numbers cards)
  -- for any values of the program's fields, there are values by name that agree
  pub agreeing : (w : World nat_cmp) → (v : World key_cmp) × Agree (source_of cards).forms (key_numbers cards) v w
  -- Constants have the values as written: before the first cycle, and wherever the program's constants have their first values, which a run
  -- of an accepted program preserves.
  pub constants_begin : (date : ℤ) (w : World key_cmp) → IsStart cards date w → ConstantsStand cards w
  pub constants_stay : (v : World key_cmp) (w : World nat_cmp) → Agree (source_of cards).forms (key_numbers cards) v w → KeepsConstants p w.data.fields.values → ConstantsStand cards v
  -- whole jobs, from records to bytes, on each date; and there are values that the cards start with
  pub jobs : (digits : List ℕ) (date : ℤ) → date_in digits ≡ Some date → RunsAsMeant cards allowance p date
  pub start : (date : ℤ) → (w : World key_cmp) × IsStart cards date w
