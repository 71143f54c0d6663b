use Rattle.rpg_program.proofs.Renaming.Inputs.{record_same}
use Rattle.rpg_program.proofs.Renaming.Lines.{lines_same}
use Rattle.rpg_program.proofs.Renaming.Operations.{operate_same}
use Rattle.rpg_program.proofs.Renaming.Rows.{right_before, right_same}
use Rattle.rpg_program.proofs.renaming_laws.names_make_no_difference.Goals as goal

pub returns-clause-operations : goal.returns-clause-operations
returns-clause-operations g c = λ old new at r x v w a h. operate_same r x v w a h

pub returns-clause-lines : goal.returns-clause-lines
returns-clause-lines g c = λ old new at r words new_words same overflow pass ls v w a named. lines_same r words new_words same overflow pass ls named v w a

pub returns-clause-rows : goal.returns-clause-rows
returns-clause-rows g c = λ old new at r x. (right_same r x, right_before r x)

pub returns-clause-inputs : goal.returns-clause-inputs
returns-clause-inputs g c = λ old new at r text fs v w a. record_same r text fs v w a
