use Rattle.std.proofs.Common.{◌≡◌, ℕ, List, Option, None, Some, length, refl, sym, ap, take, ◌∙◌}
use Rattle.std.specs.Option.{option_map, option_or}
use Rattle.std.specs.Prelude.{position}
use Rattle.rpg_card_index.proofs.PlaceLemmas.{first_places, own_place, placed}
use Rattle.rpg_card_index.proofs.TotalLemmas.{same_name_equiv}
use Rattle.rpg_card_index.specs.Index.{placed_definition}
use Rattle.rpg_card_index.specs.declared.name_index.FirstDefinition.{FirstDefinition}
use Rattle.rpg_cards.specs.First.{first_at}
use Rattle.rpg_cards.specs.Insertions.{insert_all}
use Rattle.rpg_cards.specs.Names.{definitions, given_names, is_of, same_name, names}
use Rattle.rpg_cards.specs.declared.names.Definition.{Definition}
use Rattle.rpg_cards.specs.declared.spec_card.SpecCard.{SpecCard}
use Rattle.rpg_card_index.proofs.index.IndexedCards.name_place.Goals as goal

-- where a name is among the given ones, or how many different ones there are before its first definition
abbrev place_with : List SpecCard → Option ℕ → Option FirstDefinition → Option ℕ
place_with cards given first =
    option_or given (option_map (λ p. length (insert_all same_name given_names (take p (definitions cards)))) (option_map (λ (d : FirstDefinition). d.place) first))

position_is : (cards : List SpecCard) (name : List ℕ) (given : Option ℕ) (first : Option FirstDefinition) → position (is_of name) given_names ≡ given
    → first_at (is_of name) placed_definition 0 (definitions cards) ≡ first → position (is_of name) (names cards) ≡ place_with cards given first
position_is cards name given first known found =
    let sought : Definition = record { name = name; form = None } in
    placed same_name same_name_equiv given_names sought (definitions cards)
    ∙ ap (λ o. option_or o (option_map (λ p. length (insert_all same_name given_names (take p (definitions cards)))) (first_at (is_of name) own_place 0 (definitions cards)))) known
    ∙ ap (λ o. option_or given (option_map (λ p. length (insert_all same_name given_names (take p (definitions cards)))) o)) (first_places (is_of name) 0 (definitions cards) ∙ ap (option_map (λ (d : FirstDefinition). d.place)) found)

pub returns-in_err-first-in-None : goal.returns-in_err-first-in-None
returns-in_err-first-in-None c =
    c.from_residual.ensures ∙ sym (position_is c.args.self.now c.args.name.now None None (sym c.given_place.ensures ∙ c.in-None.is) (sym c.first_definition.ensures ∙ c.in_err-first-in-None.was))

pub returns-in-Some : goal.returns-in-Some
returns-in-Some c =
    let cards = c.args.self.now in
    sym (position_is cards c.args.name.now (Some c.in-Some.place) (first_at (is_of c.args.name.now) placed_definition 0 (definitions cards)) (sym c.given_place.ensures ∙ c.in-Some.is) refl)

pub returns-in_ok-first-in-None : goal.returns-in_ok-first-in-None
returns-in_ok-first-in-None c =
    ap (λ t. Some t.number) c.name_totals.ensures.value
    ∙ sym (position_is c.args.self.now c.args.name.now None (Some c.in_ok-first-in-None.first) (sym c.given_place.ensures ∙ c.in-None.is) (sym c.first_definition.ensures ∙ c.in_ok-first-in-None.was))
