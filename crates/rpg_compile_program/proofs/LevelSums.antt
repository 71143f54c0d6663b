-- Fields that have each level once, of which there are nine: there are at most nine, and what they come to is the sum over the levels.
use Rattle.std.proofs.Common.{◌≡◌, ℕ, zero, suc, ◌+◌, ◌-◌, ◌<◌, ◌≤◌, Bool, true, false, not, cond, List, [], ◌∷◌, length, map, refl, ap, ◌∙◌, subst, arith}
use Rattle.std.proofs.lemmas.Bool.{and_parts, eqb-false, eqb-true, ne_eqb, not-true, or_parts}
use Rattle.std.proofs.lemmas.List.Sums.{sum_by-cons}
use Rattle.std.specs.List.{list_any, range_with_len, sum}
use Rattle.std.specs.Prelude.{◌==◌}
use Rattle.rpg_cards.specs.Plain.{Each}
use Rattle.rpg_program.specs.declared.input.ControlField.{ControlField}
use Rattle.rpg_verify_rules.specs.TypeRules.{are_once, columns_at, is_of_level, joined_width, joined_widths}

-- ---- sums over numbers from one on

abbrev over : (ℕ → ℕ) → ℕ → ℕ → ℕ
over f from zero = 0
over f from (suc n) = f from + over f (from + 1) n

over_add : (f g : ℕ → ℕ) (from n : ℕ) → over (λ k. f k + g k) from n ≡ over f from n + over g from n
over_add f g from zero = refl
over_add f g from (suc n) = let rest = over_add f g (from + 1) n in omega arith

over_same : (f g : ℕ → ℕ) → ((k : ℕ) → f k ≡ g k) → (from n : ℕ) → over f from n ≡ over g from n
over_same f g e from zero = refl
over_same f g e from (suc n) = let here = e from in let rest = over_same f g e (from + 1) n in omega arith

over_few : (f : ℕ → ℕ) → ((k : ℕ) → f k ≤ 1) → (from n : ℕ) → over f from n ≤ n
over_few f e from zero = omega arith
over_few f e from (suc n) = let here = e from in let rest = over_few f e (from + 1) n in omega arith

over_none : (from n : ℕ) → over (λ k. 0) from n ≡ 0
over_none from zero = refl
over_none from (suc n) = let rest = over_none (from + 1) n in omega arith

pub sum_over : (f : ℕ → ℕ) (from n : ℕ) → sum (map f (range_with_len from n)) ≡ over f from n
sum_over f from zero = refl
sum_over f from (suc n) =
    let here = sum_by-cons (λ (x : ℕ). x) (f from) (map f (range_with_len (from + 1) n)) in
    let rest = sum_over f (from + 1) n in
    omega arith

-- what is found at one number
abbrev hit : ℕ → ℕ → ℕ → ℕ
hit w l k = cond (l == k) w 0

none_below : (w l from n : ℕ) → l < from → over (hit w l) from n ≡ 0
none_below w l from zero low = refl
none_below w l from (suc n) low =
    let here : hit w l from ≡ 0 = ap (λ b. cond b w 0) (ne_eqb l from (λ e. omega arith)) in
    let rest = none_below w l (from + 1) n (omega arith) in
    omega arith

found_once : (w l from n : ℕ) → from ≤ l → l < from + n → over (hit w l) from n ≡ w
found_once w l from zero low high = absurd (omega arith)
found_once w l from (suc n) low high = by (l == from) refl (λ above. found_once w l (from + 1) n above (omega arith))
  where
    by : (b : Bool) → (l == from) ≡ b → (from + 1 ≤ l → over (hit w l) (from + 1) n ≡ w) → cond b w 0 + over (hit w l) (from + 1) n ≡ w
    by true e rest = let same = eqb-true l from e in let none = none_below w l (from + 1) n (omega arith) in omega arith
    by false e rest = let other = eqb-false l from e in let here = rest (omega (arith, other)) in omega arith

-- ---- what control fields come to, level by level

abbrev pub IsOfNine : ControlField → Type 0
IsOfNine c = (1 ≤ c.level) × (c.level ≤ 9)

abbrev weigh : (ControlField → ℕ) → ℕ → List ControlField → ℕ
weigh w level [] = 0
weigh w level (c ∷ cs) = hit (w c) c.level level + weigh w level cs

abbrev pub total : (ControlField → ℕ) → List ControlField → ℕ
total w [] = 0
total w (c ∷ cs) = w c + total w cs

weighed : (w : ControlField → ℕ) (cs : List ControlField) → Each IsOfNine cs → over (λ k. weigh w k cs) 1 9 ≡ total w cs
weighed w [] h = over_none 1 9
weighed w (c ∷ cs) h =
    over_add (hit (w c) c.level) (λ k. weigh w k cs) 1 9 ∙ (λ i. found_once (w c) c.level 1 9 h.0.0 (let high = h.0.1 in omega arith) i + weighed w cs h.1 i)

-- ---- their columns

abbrev width : ControlField → ℕ
width c = c.to + 1 - c.from

same_width : (level : ℕ) (cs : List ControlField) → joined_width level cs ≡ weigh width level cs
same_width level [] = refl
same_width level (c ∷ cs) = ap (λ n. columns_at level c + n) (same_width level cs)

abbrev pub all_columns : List ControlField → ℕ
all_columns cs = total width cs

pub sum_of_widths : (cs : List ControlField) → Each IsOfNine cs → sum (joined_widths cs) ≡ all_columns cs
sum_of_widths cs h =
    let nine = sum_over (λ k. joined_width k cs) 1 9 in
    nine ∙ over_same (λ k. joined_width k cs) (λ k. weigh width k cs) (λ k. same_width k cs) 1 9 ∙ weighed width cs h

-- ---- how many

none_at : (k : ℕ) (cs : List ControlField) → list_any (is_of_level k) cs ≡ false → weigh (λ c. 1) k cs ≡ 0
none_at k [] e = refl
none_at k (c ∷ cs) e =
    let both = or_parts (c.level == k) (list_any (is_of_level k) cs) e in
    (λ i. cond (both.0 i) 1 0 + none_at k cs both.1 i)

one_at : (k : ℕ) (cs : List ControlField) → are_once cs ≡ true → weigh (λ c. 1) k cs ≤ 1
one_at k [] e = omega arith
one_at k (c ∷ cs) e = by (c.level == k) refl (one_at k cs both.1)
  where
    both : (not (list_any (is_of_level c.level) cs) ≡ true) × (are_once cs ≡ true)
    both = and_parts _ _ e

    by : (b : Bool) → (c.level == k) ≡ b → weigh (λ c. 1) k cs ≤ 1 → cond b 1 0 + weigh (λ c. 1) k cs ≤ 1
    by true same rest =
        let level = eqb-true c.level k same in
        let none : weigh (λ c. 1) k cs ≡ 0 = none_at k cs (subst (λ n. list_any (is_of_level n) cs ≡ false) level (not-true _ both.0)) in
        omega arith
    by false same rest = omega arith

count_is : (cs : List ControlField) → total (λ c. 1) cs ≡ length cs
count_is [] = refl
count_is (c ∷ cs) = let rest = count_is cs in omega arith

pub at_most_nine : (cs : List ControlField) → Each IsOfNine cs → are_once cs ≡ true → length cs ≤ 9
at_most_nine cs h e =
    let all = weighed (λ c. 1) cs h in
    let few = over_few (λ k. weigh (λ c. 1) k cs) (λ k. one_at k cs e) 1 9 in
    let count = count_is cs in
    omega arith
