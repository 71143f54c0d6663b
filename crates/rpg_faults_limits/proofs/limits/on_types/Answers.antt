use Rattle.std.proofs.Common.{◌∙◌, ap, sym}
use Rattle.std.specs.Prelude.{option_copied}
use Rattle.rpg_faults_limits.proofs.ApartLemmas.{no_types}
use Rattle.rpg_faults_limits.proofs.limits.on_types.Goals as goal

pub returns-in_default : goal.returns-in_default
returns-in_default c = sym (no_types c.args.before.now c.args.card.now (sym c.input.ensures ∙ ap option_copied c.in_default.is))
