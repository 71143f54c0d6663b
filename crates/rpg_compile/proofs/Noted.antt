-- What a first pass over the calculations notes of labels and subroutines is what they stand for.
use Rattle.std.proofs.Common.{◌≡◌, ℕ, suc, ◌+◌, Bool, true, false, cond, List, [], ◌∷◌, length, Option, None, Some, unwrap_or, refl, sym, ap, ◌∙◌, arith}
use Rattle.std.specs.Cmp.Lexicographic.{pointwise}
use Rattle.std.specs.Map.{lookup}
use Rattle.std.specs.Prelude.{nat_eq}
use Rattle.rpg_cards.specs.Statements.{Calculation}
use Rattle.rpg_cards.specs.Keys.{Key, Name}
use Rattle.rpg_cards.specs.Sections.{Subroutine, callee, is_same_name, label_on}
use Rattle.rpg_compile_program.specs.Code.{label_place, size, sizes}
use Rattle.rpg_compile.specs.Numbers.{NumberedNames, labels_from, names_from, number_named, with_numbered_name}

-- a blank column names nothing
unnamed : (o : Option Name) → is_same_name None o ≡ false
unnamed None = refl
unnamed (Some n) = refl

-- the first one of that name, or one after it
module _ (n : Name) (number : ℕ) (rest : NumberedNames) where
  first_or_later : (o : Option Name) (otherwise : ℕ) → unwrap_or (lookup (pointwise nat_eq n) (with_numbered_name o number rest)) otherwise ≡ cond (is_same_name (Some n) o) number (unwrap_or (lookup (pointwise nat_eq n) rest) otherwise)
  first_or_later None otherwise = refl
  first_or_later (Some m) otherwise = by_name (pointwise nat_eq n m)
    where
      by_name : (b : Bool) → unwrap_or (cond b (Some number) (lookup (pointwise nat_eq n) rest)) otherwise ≡ cond b number (unwrap_or (lookup (pointwise nat_eq n) rest) otherwise)
      by_name true = refl
      by_name false = refl

-- ---- labels

no_label : (gs : List (Calculation Key)) (place : ℕ) → label_place None gs place ≡ place + sizes gs
no_label [] place = omega arith
no_label (g ∷ gs) place =
    let ends : place + size g + sizes gs ≡ place + (size g + sizes gs) = omega arith in
    ap (λ b. cond b place (label_place None gs (place + size g))) (unnamed (label_on g.statement)) ∙ no_label gs (place + size g) ∙ ends

label_found : (n : Name) (gs : List (Calculation Key)) (place : ℕ) → unwrap_or (lookup (pointwise nat_eq n) (labels_from place gs)) (place + sizes gs) ≡ label_place (Some n) gs place
label_found n [] place = omega arith
label_found n (g ∷ gs) place =
    let ends : place + (size g + sizes gs) ≡ place + size g + sizes gs = omega arith in
    first_or_later n place (labels_from (place + size g) gs) (label_on g.statement) (place + (size g + sizes gs))
    ∙ ap (λ p. cond (is_same_name (Some n) (label_on g.statement)) place p) (ap (unwrap_or (lookup (pointwise nat_eq n) (labels_from (place + size g) gs))) ends ∙ label_found n gs (place + size g))

pub labels_noted : (entries : NumberedNames) (gs : List (Calculation Key)) (place : ℕ) → ((n : Name) → lookup (pointwise nat_eq n) entries ≡ lookup (pointwise nat_eq n) (labels_from place gs))
    → (l : Option Name) → unwrap_or (number_named entries l) (place + sizes gs) ≡ label_place l gs place
labels_noted entries gs place noted None = sym (no_label gs place)
labels_noted entries gs place noted (Some n) = ap (λ o. unwrap_or o (place + sizes gs)) (noted n) ∙ label_found n gs place

-- ---- subroutines

no_callee : (ss : List (Subroutine Key)) → callee None ss ≡ length ss
no_callee [] = refl
no_callee (s ∷ ss) = ap (λ b. cond b 0 (suc (callee None ss))) (unnamed s.name) ∙ ap suc (no_callee ss)

callee_found : (n : Name) (ss : List (Subroutine Key)) (number : ℕ) → unwrap_or (lookup (pointwise nat_eq n) (names_from number ss)) (number + length ss) ≡ number + callee (Some n) ss
callee_found n [] number = refl
callee_found n (s ∷ ss) number =
    let ends : number + suc (length ss) ≡ suc number + length ss = omega arith in
    first_or_later n number (names_from (suc number) ss) s.name (number + suc (length ss))
    ∙ ap (λ k. cond (is_same_name (Some n) s.name) number k) (ap (unwrap_or (lookup (pointwise nat_eq n) (names_from (suc number) ss))) ends ∙ callee_found n ss (suc number))
    ∙ by_name (is_same_name (Some n) s.name)
  where
    by_name : (b : Bool) → cond b number (suc number + callee (Some n) ss) ≡ number + cond b 0 (suc (callee (Some n) ss))
    by_name true = omega arith
    by_name false = omega arith

pub subroutines_noted : (entries : NumberedNames) (ss : List (Subroutine Key)) → ((n : Name) → lookup (pointwise nat_eq n) entries ≡ lookup (pointwise nat_eq n) (names_from 0 ss))
    → (n : Option Name) → unwrap_or (number_named entries n) (length ss) ≡ callee n ss
subroutines_noted entries ss noted None = sym (no_callee ss)
subroutines_noted entries ss noted (Some n) =
    let from_zero : length ss ≡ 0 + length ss = omega arith in
    let to_zero : 0 + callee (Some n) ss ≡ callee (Some n) ss = omega arith in
    ap (λ o. unwrap_or o (length ss)) (noted n) ∙ ap (unwrap_or (lookup (pointwise nat_eq n) (names_from 0 ss))) from_zero ∙ callee_found n ss 0 ∙ to_zero
