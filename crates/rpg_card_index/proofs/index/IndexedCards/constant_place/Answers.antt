use Rattle.std.proofs.Common.{◌≡◌, Some, None, sym, ap, length, take, [], ◌∙◌}
use Rattle.std.specs.Option.{option_map}
use Rattle.rpg_card_index.proofs.PlaceLemmas.{placed}
use Rattle.rpg_card_index.specs.Index.{place_of_constant}
use Rattle.rpg_cards.specs.Constants.{constants_in, is_same}
use Rattle.rpg_cards.specs.First.{first_at}
use Rattle.rpg_cards.specs.Insertions.{insert_all}
use Rattle.rpg_cards.specs.SameConstants.{is_same_equiv}
use Rattle.rpg_card_index.proofs.index.IndexedCards.constant_place.Goals as goal

pub returns-in_err-first : goal.returns-in_err-first
returns-in_err-first c =
    let x = c.args.constant.now in
    let xs = constants_in c.args.self.now in
    let found : first_at (is_same x) place_of_constant 0 xs ≡ None =
    sym (ap (λ cards. first_at (is_same x) place_of_constant 0 (constants_in cards)) c.self.view_is) ∙ sym (c.self.invariant.constants.standing x) ∙ sym c.first.ensures ∙ c.in_err-first.was in
    c.from_residual.ensures ∙ sym (placed is_same is_same_equiv [] x xs ∙ ap (option_map (λ p. length (insert_all is_same [] (take p xs)))) found)

pub returns : goal.returns
returns c =
    let x = c.args.constant.now in
    let xs = constants_in c.args.self.now in
    let found : first_at (is_same x) place_of_constant 0 xs ≡ Some c.in_ok-first.first =
    sym (ap (λ cards. first_at (is_same x) place_of_constant 0 (constants_in cards)) c.self.view_is) ∙ sym (c.self.invariant.constants.standing x) ∙ sym c.first.ensures ∙ c.in_ok-first.was in
    ap (λ t. Some t.number) c.constant_totals.ensures.value ∙ sym (placed is_same is_same_equiv [] x xs ∙ ap (option_map (λ p. length (insert_all is_same [] (take p xs)))) found)
