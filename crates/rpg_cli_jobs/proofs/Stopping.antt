-- Why an object isn't run.
use Rattle.std.proofs.Common.{◌≡◌, Result, Ok, Err, IfErr, subst, sym}
use Rattle.std.specs.Result.{IsErrAnd}
use Rattle.rpg_cli_answers.specs.declared.answer.Answer.{Answer}

-- the answer that a `?` passes on
pub passed_on : {A : Type 0} (given : Result A Answer) (answer : Answer) (Stops : Answer → Type 0) → IsErrAnd given (λ e. e ≡ answer) → Stops answer → IfErr given Stops
passed_on (Ok x) answer Stops is stops = tt
passed_on (Err e) answer Stops is stops = subst Stops (sym is) stops
