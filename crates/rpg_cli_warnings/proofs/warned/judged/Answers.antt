use Rattle.std.proofs.Common.{◌∙◌, sym, rules}
use Rattle.rpg_cli_warnings.proofs.Codes.{none_denied}
use Rattle.rpg_cli_warnings.proofs.warned.judged.Goals as goal

pub returns-then-has_none : goal.returns-then-has_none
returns-then-has_none c = record { ok = none_denied c.args.arguments.denied (sym c.has_none.ensures ∙ c.if-has_none.true) c.args.warnings.now; err = search rules }
