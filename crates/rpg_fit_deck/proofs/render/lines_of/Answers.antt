use Rattle.std.proofs.Common.{Bor, ◌++◌, ◌∷◌, ◌∙◌, ℕ, [], List, ap, append_assoc, map, sym}
use Rattle.std.proofs.lemmas.List.{map_push}
use Rattle.std.specs.Str.Lines.{lines}
use Rattle.rpg_fit_deck.proofs.render.lines_of.Goals as goal

abbrev texts : List (Bor (List ℕ)) → List (List ℕ)
texts found = map (λ line. line.now) found

pub loop-rest-preserved : goal.loop-rest-preserved
loop-rest-preserved c =
    let found = c.loop-rest.found.items in
    let line = c.first_line.result.0 in
    let more = lines c.first_line.result.1.now in
    ap (λ ls. texts ls ++ more) c.in_ok-push.ensures.items
    ∙ ap (λ ls. ls ++ more) (map_push (λ line. line.now) found line)
    ∙ append_assoc (texts found) (line.now ∷ []) more
    ∙ ap (λ ls. texts found ++ ls) (sym c.first_line.ensures.cut)
    ∙ c.loop-rest.invariant
