use Rattle.std.proofs.Common.{◌∙◌, sym}
use Rattle.rpg_cli_warnings.proofs.Codes.{all_wanted}
use Rattle.rpg_cli_warnings.proofs.warnings.without.Goals as goal

pub returns-then-has_none : goal.returns-then-has_none
returns-then-has_none c = sym (all_wanted c.args.allowed (sym c.has_none.ensures ∙ c.if-has_none.true) c.args.warnings.items)
