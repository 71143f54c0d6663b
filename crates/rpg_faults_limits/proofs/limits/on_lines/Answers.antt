use Rattle.std.proofs.Common.{◌∙◌, ap, sym}
use Rattle.std.specs.Prelude.{option_copied}
use Rattle.rpg_faults_limits.proofs.ApartLemmas.{no_lines}
use Rattle.rpg_faults_limits.proofs.limits.on_lines.Goals as goal

pub returns-in_default : goal.returns-in_default
returns-in_default c = sym (no_lines c.args.before.now c.args.card.now (sym c.output.ensures ∙ ap option_copied c.in_default.is))
