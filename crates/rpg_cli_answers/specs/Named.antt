-- The fault of a file that a word names.
use Rattle.std.specs.Prelude.{Result, Ok, Err}
use Rattle.rpg_cli_files.specs.declared.files.FileFault.{FileFault}
use Rattle.rpg_cli_words.specs.declared.files.FileArgument.{FileArgument}
use Rattle.rpg_cli_answers.specs.declared.answer.Answer.{Answer}
use Rattle.rpg_cli_answers.specs.declared.answer.Answer.TheVariants as answers

-- the fault of the file that a word names
abbrev pub named_fault : {T : Type 0} → FileArgument → Result T FileFault → Result T Answer
named_fault argument (Ok x) = Ok x
named_fault argument (Err fault) = Err (answers.File argument fault)
