use Rattle.std.proofs.Common.{◌∙◌, ap, sym}
use Rattle.std.specs.Option.{option_map_or}
use Rattle.std.specs.Prelude.{false, option_copied}
use Rattle.rpg_causes_flow.proofs.TargetRules.{leaves_is}
use Rattle.rpg_causes_flow.specs.Index.{leaves_section}
use Rattle.rpg_causes_flow.proofs.targets.leaves_its_section.Goals as goal

pub returns-in-Some : goal.returns-in-Some
returns-in-Some c =
    c.leaves_section.ensures ∙ ap (λ x. option_map_or (leaves_section c.args.labels.now c.args.flow.now) x false) (sym (ap option_copied c.in-Some.is) ∙ c.last_card.ensures)
    ∙ sym (leaves_is c.args.labels.now c.args.before.now c.args.card.now c.args.after.now c.args.flow.now c.requires)
