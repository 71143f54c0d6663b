use Rattle.std.proofs.Common.{List, [], ◌∷◌, ◌++◌, ◌≡◌, ◌∙◌, sym, ap, subst}
use Rattle.std.specs.Prelude.{option_copied}
use Rattle.rpg_cards.specs.Groups.{Apart, input_card_role, input_role, role_on}
use Rattle.rpg_cards.specs.declared.spec_card.SpecCard.{SpecCard}
use Rattle.rpg_faults_places.proofs.MatchLemmas.{all_with_apart}
use Rattle.rpg_faults_places.proofs.TypeLemmas.{with_apart}
use Rattle.rpg_faults_places.specs.State.{IsPlaces}
use Rattle.rpg_faults_places.specs.declared.state.Places.{Places}
use Rattle.rpg_faults_places.proofs.state.Places.pass.Goals as goal

pub returns-in_default : goal.returns-in_default
returns-in_default c =
    let before = c.args.before.now in
    let card = c.args.card.now in
    let after = c.args.after.now in
    let was : IsPlaces (before ++ card ∷ after) before c.args.self.now = subst (λ (cards : List SpecCard). IsPlaces cards before c.args.self.now) c.requires.split c.requires.places in
    let apart : input_role card.spec ≡ Apart = ap (role_on input_card_role) (sym c.input.ensures ∙ ap option_copied c.in_default.is) in
    let new : Places = c.args.self.now in
    subst (λ (cards : List SpecCard). IsPlaces cards (before ++ card ∷ []) new) (sym c.requires.split)
    (record {
      lengths = with_apart before card after c.args.self.now.lengths was.lengths apart;
      matches = all_with_apart before card after c.args.self.now.matches was.matches apart;
    })

pub returns : goal.returns
returns c =
    let before = c.args.before.now in
    let card = c.args.card.now in
    let after = c.args.after.now in
    let was : IsPlaces (before ++ card ∷ after) before c.args.self.now = subst (λ (cards : List SpecCard). IsPlaces cards before c.args.self.now) c.requires.split c.requires.places in
    let new : Places = record { lengths = c.with-self.result; matches = c.with-self-2.result } in
    subst (λ (cards : List SpecCard). IsPlaces cards (before ++ card ∷ []) new) (sym c.requires.split)
    (record {
      lengths = c.with-self.ensures before was.lengths;
      matches = c.with-self-2.ensures before was.matches;
    })
