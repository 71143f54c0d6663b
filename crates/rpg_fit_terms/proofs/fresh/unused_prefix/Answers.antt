use Rattle.std.proofs.Common.{◌≡◌, ℕ, List, [], ◌∷◌, ◌++◌, take, true, subst, arith}
use Rattle.std.specs.Prelude.{All}
use Rattle.std.proofs.lemmas.List.{take_all}
use Rattle.std.proofs.lemmas.List.Elements.{All-more}
use Rattle.rpg_fit_deck.specs.Words.{cut}
use Rattle.rpg_fit_terms.specs.Names.{is_prefix_used}
use Rattle.rpg_fit_terms.proofs.fresh.unused_prefix.Goals as goal

pub loop-character-preserved : goal.loop-character-preserved
loop-character-preserved c =
    let P : ℕ → Type 0 = λ x. is_prefix_used c.args.view.now (cut (c.args.stem.now ++ x ∷ [])) ≡ true in
    All-more P c.args.characters.now c.loop-character.character-index 0 (omega arith) c.loop-character.invariant c.in-None.ensures.used

pub returns-clause-all_used : goal.returns-clause-all_used
returns-clause-all_used c =
    let P : ℕ → Type 0 = λ x. is_prefix_used c.args.view.now (cut (c.args.stem.now ++ x ∷ [])) ≡ true in
    let whole : take c.loop-character.character-index c.args.characters.now ≡ c.args.characters.now = take_all c.loop-character.character-index c.args.characters.now (omega arith) in
    subst (λ (xs : List ℕ). All P xs) whole c.loop-character.invariant
