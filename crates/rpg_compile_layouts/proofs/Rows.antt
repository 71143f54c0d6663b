-- Rows made one after the other.
use Rattle.std.proofs.Common.{◌≡◌, suc, List, [], ◌∷◌, ◌++◌, map, sym, ap, ◌∙◌, subst, arith}
use Rattle.std.proofs.lemmas.List.{append_assoc, map-append}
use Rattle.std.proofs.lemmas.List.Elements.{All-push}
use Rattle.std.specs.Prelude.{All}

pub all_head : {X : Type 0} (P : X → Type 0) (x : X) (xs all : List X) → all ≡ x ∷ xs → All P all → P x
all_head P x xs all e h = let k = subst (λ ys. All P ys) e h in k 0 x (omega arith)

pub all_tail : {X : Type 0} (P : X → Type 0) (x : X) (xs all : List X) → all ≡ x ∷ xs → All P all → All P xs
all_tail P x xs all e h = let g = subst (λ ys. All P ys) e h in λ k d lt. g (suc k) d (omega arith)

pub one_more : {X : Type 0} (xs new : List X) (x y : X) (rest tail all : List X) → new ≡ xs ++ x ∷ [] → x ≡ y → rest ≡ y ∷ tail → xs ++ rest ≡ all → new ++ tail ≡ all
one_more xs new x y rest tail all pushed here first so_far =
    ap (λ zs. zs ++ tail) pushed ∙ append_assoc xs (x ∷ []) tail ∙ ap (λ z. xs ++ (z ∷ tail)) here ∙ ap (λ zs. xs ++ zs) (sym first) ∙ so_far

pub one_more_row : {X Y : Type 0} (row : X → Y) (xs new : List X) (x : X) (y : Y) (rest tail all : List Y) → new ≡ xs ++ x ∷ [] → row x ≡ y → rest ≡ y ∷ tail → map row xs ++ rest ≡ all → map row new ++ tail ≡ all
one_more_row row xs new x y rest tail all pushed here first so_far = one_more (map row xs) (map row new) (row x) y rest tail all (ap (map row) pushed ∙ map-append row xs (x ∷ [])) here first so_far

pub all_with_one_more : {X Y : Type 0} (row : X → Y) (P : Y → Type 0) (xs new : List X) (x : X) → new ≡ xs ++ x ∷ [] → All P (map row xs) → P (row x) → All P (map row new)
all_with_one_more row P xs new x pushed h here =
    subst (λ (zs : List _). All P zs) (sym (ap (map row) pushed ∙ map-append row xs (x ∷ []))) (All-push P (map row xs) (row x) h here)
