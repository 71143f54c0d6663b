-- Lists: two of them appended, and three ranges.
use Rattle.std.proofs.Common.{◌≡◌, List, [], ◌∷◌, ◌++◌, map, Option, None, Some, refl}
use Rattle.std.specs.List.{filter_map}
use Rattle.std.specs.Option.{option_to_list}

pub map_append : {X Y : Type 0} (f : X → Y) (xs ys : List X) → map f (xs ++ ys) ≡ map f xs ++ map f ys
map_append f [] ys = refl
map_append f (x ∷ xs) ys = λ i. f x ∷ map_append f xs ys i

pub filled_is_meant : {X : Type 0} (a b c : Option X) → filter_map (λ o. o) (a ∷ b ∷ c ∷ []) ≡ option_to_list a ++ option_to_list b ++ option_to_list c
filled_is_meant None None None = refl
filled_is_meant None None (Some z) = refl
filled_is_meant None (Some y) None = refl
filled_is_meant None (Some y) (Some z) = refl
filled_is_meant (Some x) None None = refl
filled_is_meant (Some x) None (Some z) = refl
filled_is_meant (Some x) (Some y) None = refl
filled_is_meant (Some x) (Some y) (Some z) = refl
