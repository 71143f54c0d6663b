-- A compiled program does what the cards of its text mean.
use Rattle.std.proofs.Common.{ℕ, List, subst, sym}
use Rattle.rpg_compile.proofs.Kept.{keeps_rules}
use Rattle.rpg_cards.specs.declared.spec_card.SpecCard.{SpecCard}
use Rattle.rpg_faults.specs.Faults.{Faultless}
use Rattle.rpg_meaning.proofs.Jobs.Constants.{constants_begin, constants_stay}
use Rattle.rpg_meaning.proofs.Jobs.Meant.{has_start, runs_are_meant}
use Rattle.rpg_compile.specs.Compile.{Compiles}
use Rattle.rpg_meaning.specs.Jobs.Meant.{DoesAsMeant}
use Rattle.rpg_meaning.proofs.Calculations.Accepted.{orderly_of}
use Rattle.rpg_meaning.proofs.Calculations.Runs.{meaning_kept}
use Rattle.rpg_meaning.proofs.Calculations.Sources.{meant_world, translates}
use Rattle.rpg_program.specs.Kept.{IsProgram}
use Rattle.rpg_program.specs.Object.{Object}
use Rattle.rpg_verify_rules.specs.Accepted.{IsAccepted}
use Rattle.rpg_faults.specs.Source.{cards_in}
use Rattle.rpg_compile_program.specs.Program.{program_of}

-- of the program that cards stand for
cards_do : (cards : List SpecCard) (allowance : ℕ) → Faultless cards → IsProgram (program_of cards allowance) → IsAccepted (program_of cards allowance)
    → DoesAsMeant cards allowance (program_of cards allowance)
cards_do cards allowance faultless program accepted =
    let kept = (keeps_rules cards faultless).f9 in
    record {
      calculations = meaning_kept (orderly_of (program_of cards allowance) program accepted) (translates cards allowance kept);
      agreeing = λ w. meant_world cards w;
      constants_begin = λ date w is. constants_begin cards date w is;
      constants_stay = λ v w agrees keeps. constants_stay cards allowance program v w agrees keeps;
      jobs = λ digits date dated. runs_are_meant cards allowance digits date program accepted kept dated;
      start = λ date. has_start cards allowance date program;
    }

pub does_as_meant : (text : List ℕ) (allowance : ℕ) (p : Object) → IsProgram p → Compiles text allowance p → DoesAsMeant (cards_in text) allowance p
does_as_meant text allowance p program compiled =
    subst (λ q. IsProgram q → IsAccepted q → DoesAsMeant (cards_in text) allowance q) (sym compiled.program)
    (cards_do (cards_in text) allowance compiled.faultless) program compiled.accepted
