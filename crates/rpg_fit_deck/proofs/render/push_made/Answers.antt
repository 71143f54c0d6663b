use Rattle.std.proofs.Common.{Bor, ◌++◌, ◌∷◌, ◌∙◌, ℕ, [], List, ap, append_assoc, get_or, map, sym, take}
use Rattle.std.proofs.lemmas.List.{map_push, take_more}
use Rattle.rpg_fit_deck.specs.New.{made_lines}
use Rattle.rpg_fit_deck.specs.declared.slot.Made.{Made}
use Rattle.rpg_text.specs.Texts.{trimmed}
use Rattle.rpg_fit_deck.proofs.render.push_made.Goals as goal

abbrev texts : List (Bor (List ℕ)) → List (List ℕ)
texts lines = map (λ line. line.now) lines

pub loop-one-preserved : goal.loop-one-preserved
loop-one-preserved c =
    let made = c.args.made.now in
    let i = c.loop-one.one-index in
    let none : Made = record { id = 0; from = 0; card = record { columns = [] } } in
    let line = c.text.result in
    let before = texts c.args.cards.now.items in
    let more = ap made_lines (take_more made i none c.loop-one-test.true) ∙ map_push (λ m. trimmed m.card.columns) (take i made) (get_or made i none) in
    ap texts c.in_ok-push.ensures.items
    ∙ map_push (λ line. line.now) c.loop-one.cards.items line
    ∙ ap (λ ls. ls ++ line.now ∷ []) c.loop-one.invariant
    ∙ append_assoc before (made_lines (take i made)) (line.now ∷ [])
    ∙ ap (λ l. before ++ (made_lines (take i made) ++ l ∷ [])) c.text.ensures
    ∙ sym (ap (λ ls. before ++ ls) more)
