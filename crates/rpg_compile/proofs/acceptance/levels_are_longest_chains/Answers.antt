use Rattle.std.proofs.Common.{length, sym, subst}
use Rattle.rpg_cards.specs.Plain.{calls_of}
use Rattle.rpg_compile_program.proofs.Flow.{has_code, plain}
use Rattle.rpg_compile_program.proofs.Heights.{callers_below}
use Rattle.rpg_compile_program.proofs.Whole.{level_there}
use Rattle.rpg_compile_program.specs.Levels.{subroutine_level}
use Rattle.rpg_compile_program.specs.Program.{key_numbers, program_of, sections}
use Rattle.rpg_compile.proofs.Kept.{keeps_rules}
use Rattle.rpg_compile.proofs.Levels.{longest_is}
use Rattle.rpg_compile.proofs.acceptance.levels_are_longest_chains.Goals as goal
use Rattle.rpg_symbols.specs.Chains.{IsCallLevel}

pub returns : goal.returns
returns c = λ cards allowance none s low.
    let all = (sections cards).subroutines in
    let rules = keeps_rules cards none in
    let level = level_there (key_numbers cards) (subroutine_level all) (sections cards) (program_of cards allowance) (has_code cards rules allowance) s low in
    subst (IsCallLevel (calls_of all) s) (sym level) (longest_is (calls_of all) (length all) (plain cards rules).forward (callers_below all) s low)
