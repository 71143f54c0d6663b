use Rattle.std.proofs.Common.{refl}
use Rattle.rpg_compile_program.proofs.Lines.{lines_same}
use Rattle.rpg_compile_program.proofs.Words.{words_same}
use Rattle.rpg_compile_program.proofs.laws.programs_say_what_cards_say.Goals as goal
use Rattle.rpg_compile_program.specs.Program.{program_of}

pub returns-clause-lines : goal.returns-clause-lines
returns-clause-lines c = lines_same

pub returns-clause-words : goal.returns-clause-words
returns-clause-words c = words_same

pub returns-clause-code : goal.returns-clause-code
unfolding program_of
returns-clause-code c = λ cards allowance. record { detail = refl; total = refl; subroutines = refl }
