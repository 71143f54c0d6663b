-- Operands one by one.
use Rattle.std.proofs.Common.{◌≡◌, ℕ, ◌+◌, ◌<◌, ◌++◌, Bool, false, ◌||◌, List, [], ◌∷◌, length, drop, get_or, Option, None, Some, refl, sym, ap, ◌∙◌}
use Rattle.std.proofs.lemmas.List.{drop_more}
use Rattle.std.specs.List.{list_any}
use Rattle.std.specs.Option.{option_and_then, option_or, option_to_list}
use Rattle.rpg_causes_operands.specs.Names.{first_some}
use Rattle.rpg_faults_operands.specs.Operands.{Operand, operands_listed}
use Rattle.rpg_sheet_specs.specs.declared.indicator.Three.{Three}

module _ {X Y : Type 0} (cause : X → Option Y) where
  or-none : (a : Option Y) → option_or a None ≡ a
  or-none None = refl
  or-none (Some y) = refl

  or-assoc : (a b c : Option Y) → option_or (option_or a b) c ≡ option_or a (option_or b c)
  or-assoc None b c = refl
  or-assoc (Some y) b c = refl

  pub first_some-append : (xs ys : List X) → first_some cause (xs ++ ys) ≡ option_or (first_some cause xs) (first_some cause ys)
  first_some-append [] ys = refl
  first_some-append (x ∷ xs) ys =
      ap (option_or (cause x)) (first_some-append xs ys) ∙ sym (or-assoc (cause x) (first_some cause xs) (first_some cause ys))

  one : (o : Option X) → first_some cause (option_to_list o) ≡ option_and_then cause o
  one None = refl
  one (Some x) = or-none (cause x)

  first : (a b c d : Option X) →
      first_some cause ((option_to_list a ++ option_to_list b ++ option_to_list c) ++ option_to_list d)
      ≡ option_or (option_or (option_or (option_and_then cause a) (option_and_then cause b)) (option_and_then cause c)) (option_and_then cause d)
  first a b c d =
      rw (first_some-append (option_to_list a ++ option_to_list b ++ option_to_list c) (option_to_list d))
      (rw (first_some-append (option_to_list a ++ option_to_list b) (option_to_list c))
      (rw (first_some-append (option_to_list a) (option_to_list b), one a, one b, one c, one d) refl))

-- the first cause among the operands of a card, in the order of their columns
pub first_listed : {Y : Type 0} (cause : Operand → Option Y) (t : Three (Option Operand)) (o : Option Operand) →
    first_some cause (operands_listed t ++ option_to_list o)
    ≡ option_or (option_or (option_or (option_and_then cause t.first) (option_and_then cause t.second)) (option_and_then cause t.third)) (option_and_then cause o)
first_listed cause t o = first cause t.first t.second t.third o

-- an item without a cause, and those after it
pub first_some_more : {X Y : Type 0} (cause : X → Option Y) (xs : List X) (i : ℕ) (x : X) → i < length xs → x ≡ get_or xs i x → cause x ≡ None
    → first_some cause (drop i xs) ≡ first_some cause (drop (i + 1) xs)
first_some_more cause xs i x lt is none =
    let left : drop i xs ≡ x ∷ drop (i + 1) xs = rw (drop_more xs i x lt, ← is) refl in
    ap (first_some cause) left ∙ ap (λ o. option_or o (first_some cause (drop (i + 1) xs))) none

-- an item that doesn't pass a test, and those after it
pub list_any_more : {X : Type 0} (test : X → Bool) (xs : List X) (i : ℕ) (x : X) → i < length xs → x ≡ get_or xs i x → test x ≡ false
    → list_any test (drop i xs) ≡ list_any test (drop (i + 1) xs)
list_any_more test xs i x lt is failed =
    let left : drop i xs ≡ x ∷ drop (i + 1) xs = rw (drop_more xs i x lt, ← is) refl in
    ap (list_any test) left ∙ ap (λ b. b || list_any test (drop (i + 1) xs)) failed
