use Rattle.std.proofs.Common.{◌≡◌, ◌∙◌, ◌∷◌, [], ap, refl, rules, sym}
use Rattle.rpg_faults_places.proofs.MatchLemmas.{matched_none, no_cards, none_so_far}
use Rattle.rpg_faults_places.specs.Matches.{matches_up_to}
use Rattle.rpg_faults_places.proofs.matches.valid_matches.Goals as goal

pub cards-init : goal.cards-init
cards-init c = ([], none_so_far, refl)

pub returns-in-OtherType : goal.returns-in-OtherType
returns-in-OtherType c =
    let card = c.in-Some.card.now in
    let rest = c.in-Some.following.now in
    let split : c.cards.rest.now ≡ card ∷ rest = search rules in
    let so_far = c.cards.invariant in
    c.in-OtherType.ensures so_far.0 so_far.1 rest ∙ ap (matches_up_to so_far.0) (sym split) ∙ so_far.2

pub returns-in-Bad : goal.returns-in-Bad
returns-in-Bad c =
    let card = c.in-Some.card.now in
    let rest = c.in-Some.following.now in
    let split : c.cards.rest.now ≡ card ∷ rest = search rules in
    let so_far = c.cards.invariant in
    c.in-Bad.ensures so_far.0 so_far.1 rest ∙ ap (matches_up_to so_far.0) (sym split) ∙ so_far.2

pub cards-preserved : goal.cards-preserved
cards-preserved c =
    let card = c.in-Some.card.now in
    let rest = c.in-Some.following.now in
    let split : c.cards.rest.now ≡ card ∷ rest = search rules in
    let so_far = c.cards.invariant in
    let more = c.in-Lengths.ensures so_far.0 so_far.1 in
    (more.0, more.1, more.2 rest ∙ ap (matches_up_to so_far.0) (sym split) ∙ so_far.2)

pub returns : goal.returns
returns c =
    let none : c.cards.rest.now ≡ [] = no_cards c.cards.rest.now (search rules) in
    let so_far = c.cards.invariant in
    matched_none so_far.0 c.cards.found so_far.1 ∙ ap (matches_up_to so_far.0) (sym none) ∙ so_far.2
