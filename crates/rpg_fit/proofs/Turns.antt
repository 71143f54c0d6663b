-- Rules one after the other.
use Rattle.std.proofs.Common.{◌≡◌, ℕ, ◌+◌, ◌<◌, ◌≤◌, [], ◌∷◌, List, length, get_or, drop, sym, subst, ◌∙◌, ap, suc, refl, arith}
use Rattle.std.proofs.lemmas.List.{drop_all}
use Rattle.std.proofs.Math.Seq.{drop-cons}
use Rattle.rpg_fit_deck.specs.declared.editor.Editor.{Editor}
use Rattle.rpg_fit_deck.specs.declared.sentence.Rule.{Rule}
use Rattle.rpg_fit.specs.Applied.{Applied, AppliedInTurn}

-- one more of them
pub turn : (leaves : Rule → Editor → Editor → Type 0) (rules : List Rule) (k : ℕ) (d : Rule) (old next last : Editor) → k < length rules
    → AppliedInTurn leaves (get_or rules k d) old next → Applied leaves (drop (k + 1) rules) next last → Applied leaves (drop k rules) old last
turn leaves rules k d old next last inside by rest =
    let more : suc k ≡ k + 1 = omega arith in
    let cut : drop k rules ≡ get_or rules k d ∷ drop (k + 1) rules = drop-cons rules k d inside ∙ ap (λ (j : ℕ). get_or rules k d ∷ drop j rules) more in
    subst (λ (left : List Rule). Applied leaves left old last) (sym cut) (next, by, rest)

-- none is left
pub whole : (leaves : Rule → Editor → Editor → Type 0) (rules : List Rule) (k : ℕ) (last : Editor) → length rules ≤ k → Applied leaves (drop k rules) last last
whole leaves rules k last past =
    let none : drop k rules ≡ [] = drop_all k rules past in
    subst (λ (left : List Rule). Applied leaves left last last) (sym none) refl
