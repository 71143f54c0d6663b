use Rattle.std.proofs.Common.{◌≡◌, [], ◌∷◌, ◌++◌, take, true}
use Rattle.std.specs.Prelude.{All}
use Rattle.rpg_fit_deck.specs.Words.{cut}
use Rattle.rpg_fit_terms.specs.Names.{is_prefix_used}
use Rattle.rpg_fit_terms.proofs.fresh.unused_prefix.Given as goal

abbrev pub invariant-loop-character : goal.invariant-loop-character
invariant-loop-character l = All (λ c. is_prefix_used l.view (cut (l.stem ++ c ∷ [])) ≡ true) (take l.character-index l.characters)
