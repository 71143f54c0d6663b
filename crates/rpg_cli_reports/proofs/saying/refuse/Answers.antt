use Rattle.std.proofs.Common.{inr}
use Rattle.rpg_cli_answers.specs.declared.answer.Answer.TheVariants.{NoMemory}
use Rattle.rpg_cli_words.specs.declared.options.Format.TheVariants.{Text}
use Rattle.rpg_cli_reports.proofs.saying.refuse.Goals as goal

pub returns-then-is_no_memory : goal.returns-then-is_no_memory
returns-then-is_no_memory g c = inr (Text, NoMemory, c.say.ensures)
