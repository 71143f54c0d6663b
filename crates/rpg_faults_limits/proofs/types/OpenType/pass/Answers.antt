use Rattle.std.proofs.Common.{◌≡◌, List, [], ◌∷◌, ◌++◌, Option, None, ◌∙◌, sym, ap, subst}
use Rattle.std.specs.Prelude.{option_copied}
use Rattle.rpg_cards.proofs.GroupLemmas.{open_group-push}
use Rattle.rpg_cards.specs.Cards.{input_on}
use Rattle.rpg_cards.specs.Groups.{input_card_role, input_role, open_group, role_on, with_card}
use Rattle.rpg_cards.specs.declared.spec_card.SpecCard.{SpecCard}
use Rattle.rpg_faults_limits.specs.State.{IsOpenType}
use Rattle.rpg_faults_limits.specs.declared.types.OpenType.{OpenType}
use Rattle.rpg_sheet_specs.specs.declared.input.InputSpec.{InputSpec}
use Rattle.rpg_faults_limits.proofs.types.OpenType.pass.Goals as goal

with_input : (before : List SpecCard) (c : SpecCard) (i : Option InputSpec) (t : OpenType) → i ≡ input_on c.spec
    → IsOpenType (with_card (open_group input_role before) (role_on input_card_role i)) t → IsOpenType (open_group input_role (before ++ c ∷ [])) t
with_input before c i t is was =
    subst (λ g. IsOpenType g t) (ap (λ j. with_card (open_group input_role before) (role_on input_card_role j)) is ∙ sym (open_group-push input_role before c)) was

pub returns-in_default-clause-open : goal.returns-in_default-clause-open
returns-in_default-clause-open c = with_input c.args.before.now c.args.card.now None c.args.self.now (sym (sym c.input.ensures ∙ ap option_copied c.in_default.is)) c.requires.open

pub returns-in-Some-clause-open : goal.returns-in-Some-clause-open
returns-in-Some-clause-open c =
    with_input c.args.before.now c.args.card.now _ c.with_input.result c.in-Some.ensures (c.with_input.ensures.open (open_group input_role c.args.before.now) c.requires.open)
