-- Lists of which the items from a place on are left.
use Rattle.std.proofs.Common.{◌≡◌, ℕ, ◌+◌, ◌<◌, List, ◌∷◌, drop, length, get_or, refl, sym, ap, ◌∙◌, add-one, drop-cons}

-- the items from a place on
pub from_item : {X : Type 0} (xs : List X) (i : ℕ) (x : X) → i < length xs → drop i xs ≡ get_or xs i x ∷ drop (i + 1) xs
from_item xs i x h = rw (add-one, drop-cons xs i x) refl

-- the same by the item's name
pub from_named : {X : Type 0} (xs : List X) (i : ℕ) (x : X) → i < length xs → x ≡ get_or xs i x → drop i xs ≡ x ∷ drop (i + 1) xs
from_named xs i x h is = from_item xs i x h ∙ ap (λ z. z ∷ drop (i + 1) xs) (sym is)
