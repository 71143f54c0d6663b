use Rattle.rpg_object.proofs.PlainPrograms.{program_kept, program_from}
use Rattle.rpg_object.proofs.laws.the_format_holds_programs.Goals as goal

pub returns-clause-kept : goal.returns-clause-kept
returns-clause-kept c = program_kept

pub returns-clause-held : goal.returns-clause-held
returns-clause-held c = program_from
