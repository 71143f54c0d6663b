use Rattle.std.proofs.Common.{Some, None, cond, sym, ap, take, ◌∙◌}
use Rattle.std.proofs.lemmas.Bool.{le-ltb, lt-ltb}
use Rattle.rpg_card_index.proofs.IndexLemmas.{found_before}
use Rattle.rpg_card_index.specs.Index.{placed_definition}
use Rattle.rpg_cards.specs.First.{first_at}
use Rattle.rpg_cards.specs.Names.{definitions, is_of}
use Rattle.rpg_card_index.proofs.index.IndexedCards.first_before.Goals as goal

pub returns-in-Some : goal.returns-in-Some
returns-in-Some c =
    let first = c.in-Some.first in
    sym (ap (λ b. cond b (Some first) None) (lt-ltb first.place c.args.place c.if-first-place.true))
    ∙ found_before _ _ c.self.invariant.names c.args.name.now c.args.place (Some first) (sym c.in-Some.is ∙ c.first.ensures)
    ∙ ap (λ cards. first_at (is_of c.args.name.now) placed_definition 0 (take c.args.place (definitions cards))) c.self.view_is

pub returns-in_default : goal.returns-in_default
returns-in_default c =
    let first = c.in-Some.first in
    sym (ap (λ b. cond b (Some first) None) (le-ltb first.place c.args.place c.if-first-place.false))
    ∙ found_before _ _ c.self.invariant.names c.args.name.now c.args.place (Some first) (sym c.in-Some.is ∙ c.first.ensures)
    ∙ ap (λ cards. first_at (is_of c.args.name.now) placed_definition 0 (take c.args.place (definitions cards))) c.self.view_is

pub returns-in_default-2 : goal.returns-in_default-2
returns-in_default-2 c =
    found_before _ _ c.self.invariant.names c.args.name.now c.args.place None (sym c.in_default.is ∙ c.first.ensures)
    ∙ ap (λ cards. first_at (is_of c.args.name.now) placed_definition 0 (take c.args.place (definitions cards))) c.self.view_is
