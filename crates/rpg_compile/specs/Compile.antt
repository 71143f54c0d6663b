-- What a source compiles to.
use Rattle.std.specs.Prelude.{◌≡◌, ℕ, List, None}
use Rattle.rpg_faults.specs.Faults.{Faultless}
use Rattle.rpg_program.specs.Object.{Object}
use Rattle.rpg_verify_rules.specs.Accepted.{IsAccepted}
use Rattle.rpg_sheet.specs.Sheet.{first_sheet_fault, source}
use Rattle.rpg_faults.specs.Source.{cards_in}
use Rattle.rpg_compile_program.specs.Program.{program_of}

-- a source without faults, and the program that it compiles to, which obeys all
-- rules
pub record Compiles (text : List ℕ) (allowance : ℕ) (p : Object) : Type 0 where
  pub readable : first_sheet_fault (source text) ≡ None
  pub faultless : Faultless (cards_in text)
  pub program : p ≡ program_of (cards_in text) allowance
  pub accepted : IsAccepted p
