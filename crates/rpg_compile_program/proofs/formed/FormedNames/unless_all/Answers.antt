use Rattle.std.proofs.Common.{◌∙◌, sym}
use Rattle.rpg_cards.specs.Names.{definitions}
use Rattle.rpg_compile_program.proofs.FormedLemmas.{all_formed}
use Rattle.rpg_compile_program.proofs.formed.FormedNames.unless_all.Goals as goal

pub returns-then-all_have_forms : goal.returns-then-all_have_forms
returns-then-all_have_forms c = all_formed (definitions c.args.source.now) (sym c.all_have_forms.ensures ∙ c.if-all_have_forms.true)
