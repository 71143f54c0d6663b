-- What a verified program holds besides its rows, and what a rejection reports.
use Rattle.std.specs.Prelude.{◌≡◌, ℕ, List}
use Rattle.rpg_program.specs.Kept.{IsProgram}
use Rattle.rpg_program.specs.Object.{Object}
use Rattle.rpg_verify_rules.specs.Accepted.{IsAccepted}
use Rattle.rpg_verify_rules.specs.Least.{IsLeast}
use Rattle.rpg_verify_rules.specs.Rules.{broken, rule_number}
use Rattle.rpg_verify.specs.Bound.{bound, costs}
use Rattle.rpg_verify.specs.declared.verified.VerifyFault.{VerifyFault}
use Rattle.rpg_verify.specs.declared.verified.VerifyFault.TheVariants.{Refused, NoMemory}

-- it obeys all rules, and its costs and its bound are stored
pub record IsVerified (p : Object) (stored : List ℕ) (most_steps : ℕ) : Type 0 where
  pub program : IsProgram p
  pub accepted : IsAccepted p
  pub costs : stored ≡ costs p
  pub bound : most_steps ≡ bound p

-- the lowest-numbered broken rule and its first row; memory runs out only for accepted programs
abbrev pub IsRefusal : Object → VerifyFault → Type 0
IsRefusal p (Refused rule row) = IsLeast rule_number (broken p) rule row
IsRefusal p NoMemory = IsAccepted p
