-- What the proofs need of a program that stands for a job.
use Rattle.std.specs.Prelude.{◌≡◌, ℕ, map}
use Rattle.rpg_cards.specs.Keys.{Key}
use Rattle.rpg_program.specs.Naming.{renamed_type}
use Rattle.rpg_meaning.specs.Jobs.Job.{Job}
use Rattle.rpg_meaning.specs.Calculations.Translation.{IsTranslation}
use Rattle.rpg_program.specs.Object.{Object}

-- the program is what the cards stand for
pub record IsProgramOf (p : Object) (job : Job) (number : Key → ℕ) : Type 0 where
  pub calculations : IsTranslation p job.source number
  pub same_types : p.types ≡ map (renamed_type number) job.types
  pub same_length : p.record_length ≡ job.record_length
  pub same_secondary : p.secondary_length ≡ job.secondary_length
  pub same_ends : p.ends ≡ job.ends
  pub same_allowance : p.allowance ≡ job.allowance
