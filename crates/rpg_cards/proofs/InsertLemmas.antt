-- What is among items of which equal ones are kept once, and one more of them.
use Rattle.std.proofs.Common.{◌≡◌, Bool, true, false, cond, ◌||◌, List, [], ◌∷◌, ◌++◌, refl, sym, ap, ◌∙◌}
use Rattle.std.proofs.Math.Bool.{or_assoc, or-false}
use Rattle.std.proofs.lemmas.List.Folds.{list_any-append}
use Rattle.std.proofs.lemmas.List.Sums.{fold-append}
use Rattle.std.specs.Cmp.{IsEquivalence}
use Rattle.std.specs.List.{list_any}
use Rattle.rpg_cards.specs.Insertions.{insert_key, insert_all}

or_known : (a b : Bool) → (b ≡ true → a ≡ true) → a ≡ (a || b)
or_known true b h = refl
or_known false true h = h refl
or_known false false h = refl

module _ {X : Type 0} (eq : X → X → Bool) (laws : IsEquivalence eq) where
  pub alike : (known : List X) (x y : X) → eq x y ≡ true → list_any (eq x) known ≡ list_any (eq y) known
  alike [] x y e = refl
  alike (z ∷ zs) x y e =
      let here = laws.congr x y z e in
      let rest = alike zs x y e in
      cc

  one_more : (x : X) (known : List X) (y : X) → list_any (eq x) (insert_key eq known y) ≡ (list_any (eq x) known || eq x y)
  one_more x known y = by_cases (list_any (eq y) known) refl
    where
      by_cases : (b : Bool) → list_any (eq y) known ≡ b → list_any (eq x) (cond b known (known ++ y ∷ [])) ≡ (list_any (eq x) known || eq x y)
      by_cases true e = or_known (list_any (eq x) known) (eq x y) (λ same. alike known x y same ∙ e)
      by_cases false e = list_any-append (eq x) known (y ∷ []) ∙ ap (λ b. list_any (eq x) known || b) (or-false (eq x y))

  -- those that are kept are those that were given
  pub among : (x : X) (known items : List X) → list_any (eq x) (insert_all eq known items) ≡ (list_any (eq x) known || list_any (eq x) items)
  among x known [] = sym (or-false (list_any (eq x) known))
  among x known (y ∷ ys) =
      among x (insert_key eq known y) ys ∙ ap (λ b. b || list_any (eq x) ys) (one_more x known y)
      ∙ or_assoc (list_any (eq x) known) (eq x y) (list_any (eq x) ys)

  -- one more item goes after the others, unless it is among them
  pub with_one : (known items : List X) (x : X) → insert_all eq known (items ++ x ∷ []) ≡ cond (list_any (eq x) known || list_any (eq x) items) (insert_all eq known items) (insert_all eq known items ++ x ∷ [])
  with_one known items x =
      fold-append (insert_key eq) known items (x ∷ [])
      ∙ ap (λ b. cond b (insert_all eq known items) (insert_all eq known items ++ x ∷ [])) (among x known items)
