-- The untold cards are a part of NEW's.
use Rattle.std.proofs.lemmas.Bool.{eqb-true}
use Rattle.std.proofs.Common.{◌≡◌, ℕ, Bool, true, false, List, [], ◌∷◌, ◌++◌, refl, sym, subst, append_assoc, inl, inr}
use Rattle.std.specs.Prelude.{vec_len}
use Rattle.rpg_fit_deck.specs.declared.here.Here.{Here}
use Rattle.rpg_fit_deck.specs.declared.here.Here.TheVariants.{Kept, Changed, Gone}
use Rattle.rpg_fit_deck.specs.Kept.{is_kept}
use Rattle.rpg_fit_deck.specs.New.{made_lines, lines_here, new_cards, is_unreported, unreported, IsPart, KeepsUnreported}

-- more cards in front
following : (more xs ys : List (List ℕ)) → IsPart xs ys → IsPart xs (more ++ ys)
following [] xs ys part = part
following (m ∷ more) [] ys part = tt
following (m ∷ more) (x ∷ xs) ys part = inr (following more (x ∷ xs) ys part)

-- what stands at a card's place, where it is kept
here : (card : List ℕ) (h : Here) (xs ys : List (List ℕ)) → is_kept h ≡ true → IsPart xs ys → IsPart (card ∷ xs) (lines_here card h ++ ys)
here card Kept xs ys kept part = inl (refl, part)
here card (Changed _) xs ys kept part = absurd cc
here card Gone xs ys kept part = absurd cc

pub keeps : KeepsUnreported
keeps [] slots = tt
keeps (card ∷ cards) [] = inl (refl, keeps cards [])
keeps (card ∷ cards) (slot ∷ slots) =
    let made = made_lines slot.before.items in
    let stands = lines_here card slot.here in
    let P : List (List ℕ) → Type 0 = λ ys. IsPart (unreported (card ∷ cards) (slot ∷ slots)) ys in
    subst P (sym (append_assoc made stands (new_cards cards slots))) (following made (unreported (card ∷ cards) (slot ∷ slots)) (stands ++ new_cards cards slots) (by (is_unreported slot) refl (keeps cards slots)))
  where
    by : (b : Bool) → is_unreported slot ≡ b → IsPart (unreported cards slots) (new_cards cards slots) → IsPart (unreported (card ∷ cards) (slot ∷ slots)) (lines_here card slot.here ++ new_cards cards slots)
    by true none part = let z : vec_len slot.remarks ≡ 0 = eqb-true (vec_len slot.remarks) 0 none in rw none (here card slot.here (unreported cards slots) (new_cards cards slots) (slot.reported_if_changed z) part)
    by false some part = rw some (following (lines_here card slot.here) (unreported cards slots) (new_cards cards slots) part)
