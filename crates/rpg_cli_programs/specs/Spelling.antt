-- What the bytes of an object program are.
use Rattle.std.specs.Prelude.{◌≡◌, ◌≢◌, ℕ, List, Ok}
use Rattle.rpg_compile.specs.Compile.{Compiles}
use Rattle.rpg_object.specs.Program.{reading, spelling}
use Rattle.rpg_program.specs.Kept.{IsProgram}
use Rattle.rpg_engine.specs.Object.{Object}

-- these bytes are the object program's
pub record IsSpelled (p : Object) (bytes : List ℕ) : Type 0 where
  pub program : IsProgram p
  pub spelled : bytes ≡ spelling p

-- They are those of the program that a source compiles to, which obeys all rules; and they decode to exactly that program.
abbrev pub CompilesTo : List ℕ → ℕ → List ℕ → Type 0
CompilesTo text allowance bytes = (p : Object) × Compiles text allowance p × IsSpelled p bytes × (reading bytes ≡ Ok p)

-- a source that is compiled, and not to these bytes
abbrev pub CompilesToOther : List ℕ → ℕ → List ℕ → Type 0
CompilesToOther text allowance bytes = (own : List ℕ) × CompilesTo text allowance own × (own ≢ bytes)
