-- Constants that one field can stand for, as keys of a map.
use Rattle.std.specs.Prelude.{◌≡◌, ℕ, ℤ, List, [], ◌∷◌, true, nat_eq}
use Rattle.std.proofs.Common.{sym, ap}
use Rattle.std.proofs.lemmas.Bool.{and_parts, eqb-true}
use Rattle.std.proofs.lemmas.Bool.Decides.{Decides-int_eq}
use Rattle.std.proofs.lemmas.Cmp.{nat_eq_equiv, int_eq_equiv, nat_list_eq_equiv}
use Rattle.std.specs.Cmp.{IsEquivalence, both_ways}
use Rattle.std.specs.Cmp.Lexicographic.{pointwise, bytes_decides}
use Rattle.std.specs.Hash as fed
use Rattle.rpg_cards.specs.Constants.{is_same}
use Rattle.rpg_cards.specs.declared.constants.Constant.{Constant}
use Rattle.rpg_cards.specs.declared.constants.Constant.TheVariants.{Number, Text}
use Rattle.rpg_sheet_specs.specs.Numeral.{Numeral}

texts_equal : (s t : List ℕ) → pointwise nat_eq s t ≡ true → s ≡ t
texts_equal s t e = (bytes_decides s t).0 e

-- a number of its parts
with_parts : ℤ → ℕ → ℕ → Numeral
with_parts v l d = record { value = v; length = l; decimals = d }

numbers_equal : (m n : Numeral) → is_same (Number m) (Number n) ≡ true → with_parts m.value m.length m.decimals ≡ with_parts n.value n.length n.decimals
numbers_equal m n e =
    let p2 = and_parts _ _ e in
    let p1 = and_parts _ _ p2.0 in
    let v : m.value ≡ n.value = (Decides-int_eq m.value n.value).0 p1.0 in
    let l : m.length ≡ n.length = eqb-true m.length n.length p1.1 in
    let d : m.decimals ≡ n.decimals = eqb-true m.decimals n.decimals p2.1 in
    cc

pub is_same-equal : (x y : Constant) → is_same x y ≡ true → x ≡ y
unfolding with_parts
is_same-equal (Number m) (Number n) e = ap Number (numbers_equal m n e)
is_same-equal (Text s) (Text t) e = ap Text (texts_equal s t e)
is_same-equal (Number m) (Text t) e = absurd cc
is_same-equal (Text s) (Number n) e = absurd cc

is_same-itself : (x : Constant) → is_same x x ≡ true
is_same-itself (Number n) = rw ((int_eq_equiv).refl n.value) (rw ((nat_eq_equiv).refl n.length) ((nat_eq_equiv).refl n.decimals))
is_same-itself (Text t) = (nat_list_eq_equiv).refl t

same_from_equal : (x y : Constant) → x ≡ y → is_same x y ≡ true
same_from_equal x y e = rw (← e) (is_same-itself x)

pub is_same_equiv : IsEquivalence is_same
is_same_equiv = record {
  refl = is_same-itself;
  symm = λ x y. both_ways (is_same x y) (is_same y x) (λ e. same_from_equal y x (sym (is_same-equal x y e))) (λ e. same_from_equal x y (sym (is_same-equal y x e)));
  congr = λ x y z e. ap (λ w. is_same w z) (is_same-equal x y e);
}

-- what is hashed of a constant: few constants differ only in length or decimals
abbrev pub hashed : Constant → fed.HashWrites
hashed (Number n) = fed.i64 n.value
hashed (Text text) = text ∷ []

pub hashed_alike : (x y : Constant) → is_same x y ≡ true → hashed x ≡ hashed y
hashed_alike x y e = ap hashed (is_same-equal x y e)
