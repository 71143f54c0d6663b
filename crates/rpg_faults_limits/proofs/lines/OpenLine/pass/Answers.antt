use Rattle.std.proofs.Common.{◌≡◌, List, [], ◌∷◌, ◌++◌, Option, None, ◌∙◌, sym, ap, subst}
use Rattle.std.specs.Prelude.{option_copied}
use Rattle.rpg_cards.proofs.GroupLemmas.{open_group-push}
use Rattle.rpg_cards.specs.Cards.{output_on}
use Rattle.rpg_cards.specs.Groups.{output_card_role, output_role, open_group, role_on, with_card}
use Rattle.rpg_cards.specs.declared.spec_card.SpecCard.{SpecCard}
use Rattle.rpg_faults_limits.specs.State.{IsOpenLine}
use Rattle.rpg_faults_limits.specs.declared.lines.OpenLine.{OpenLine}
use Rattle.rpg_sheet_specs.specs.declared.output.OutputSpec.{OutputSpec}
use Rattle.rpg_faults_limits.proofs.lines.OpenLine.pass.Goals as goal

with_output : (before : List SpecCard) (c : SpecCard) (i : Option OutputSpec) (t : OpenLine) → i ≡ output_on c.spec
    → IsOpenLine (with_card (open_group output_role before) (role_on output_card_role i)) t → IsOpenLine (open_group output_role (before ++ c ∷ [])) t
with_output before c i t is was =
    subst (λ g. IsOpenLine g t) (ap (λ j. with_card (open_group output_role before) (role_on output_card_role j)) is ∙ sym (open_group-push output_role before c)) was

pub returns-in_default-clause-open : goal.returns-in_default-clause-open
returns-in_default-clause-open c = with_output c.args.before.now c.args.card.now None c.args.self.now (sym (sym c.output.ensures ∙ ap option_copied c.in_default.is)) c.requires.open

pub returns-in-Some-clause-open : goal.returns-in-Some-clause-open
returns-in-Some-clause-open c =
    with_output c.args.before.now c.args.card.now _ c.with_output.result c.in-Some.ensures (c.with_output.ensures.open (open_group output_role c.args.before.now) c.requires.open)
