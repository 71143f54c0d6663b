use Rattle.std.proofs.Common.{Bor, ◌++◌, ◌∷◌, ◌∙◌, ℕ, [], List, ap, append_assoc, append-nil, get_or, map, sym, take}
use Rattle.std.proofs.lemmas.Grind.{flat_map-append}
use Rattle.std.proofs.lemmas.List.{map_push, take_more}
use Rattle.std.specs.List.{flat_map}
use Rattle.rpg_text.specs.Lines.{with_line_feed}
use Rattle.rpg_fit_deck.proofs.render.text.Goals as goal

abbrev texts : List (Bor (List ℕ)) → List (List ℕ)
texts cards = map (λ line. line.now) cards

pub loop-card-preserved : goal.loop-card-preserved
loop-card-preserved c =
    let cards = c.args.cards.now in
    let i = c.loop-card.card-index in
    let done = flat_map with_line_feed (texts (take i cards)) in
    let card = get_or cards i _ in
    let more = ap texts (take_more cards i _ c.loop-card-test.true) ∙ map_push (λ line. line.now) (take i cards) card in
    let all = ap (flat_map with_line_feed) more ∙ flat_map-append with_line_feed (texts (take i cards)) (card.now ∷ [])
    ∙ ap (λ l. done ++ l) (append-nil (with_line_feed card.now)) in
    c.in_ok-push.ensures.items
    ∙ ap (λ l. l ++ 10 ∷ []) (c.in_ok-extend_from_slice.ensures.items ∙ ap (λ l. l ++ card.now) c.loop-card.invariant)
    ∙ append_assoc done card.now (10 ∷ [])
    ∙ sym all
