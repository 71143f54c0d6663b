-- The cost of a place among the costs of all places.
use Rattle.std.proofs.Common.{◌≡◌, ℕ, zero, suc, ◌+◌, ◌-◌, ◌<◌, ◌≤◌, Bool, true, false, cond, List, [], ◌∷◌, ◌++◌, length, slice_get, refl, sym, ap, ◌∙◌, arith, length-append}
use Rattle.std.specs.Prelude.{nat_le, slice_index}
use Rattle.std.proofs.lemmas.Bool.{le-leb}
use Rattle.std.proofs.lemmas.List.{get_or_append_left, get_or-append_right}
use Rattle.rpg_program.specs.declared.operation.Instruction.{Instruction}
use Rattle.rpg_program.specs.ObjectInstructions.{weight}
use Rattle.rpg_program.specs.Object.{Object, SubroutineRow}
use Rattle.rpg_program.specs.Sections.{body_of, first_in, first_place, instructions_in, place_after, places_of, section_instructions}
use Rattle.rpg_program.specs.declared.section.Place.{Place}
use Rattle.rpg_program.specs.declared.section.Section.{Section}
use Rattle.rpg_program.specs.declared.section.Section.TheVariants.{Detail, Total, Subroutine}
use Rattle.rpg_verify.specs.Bound.{cost, costs, costs_at, costs_in, main_costs}
use Rattle.rpg_verify.specs.Paths.{costs_from}

-- a cost for each place
pub length_costs : (w : Instruction ℕ → ℕ) (first : ℕ) (code : List (Instruction ℕ)) → length (costs_from w first code) ≡ length code
length_costs w first [] = refl
length_costs w first (i ∷ is) = ap suc (length_costs w (first + 1) is)

pub in_front : (xs ys : List ℕ) (k : ℕ) → k < length xs → slice_index (xs ++ ys) k ≡ slice_index xs k
in_front xs ys k h = get_or_append_left xs ys 0 k h

pub in_back : (xs ys : List ℕ) (n k : ℕ) → length xs ≡ n → n ≤ k → slice_index (xs ++ ys) k ≡ slice_index ys (k - n)
in_back xs ys n k e h = get_or-append_right xs ys n k 0 e h

-- from the first place of the subroutines on, none begins before that
first_low : (b : ℕ) (ss : List SubroutineRow) (n : ℕ) → b ≤ first_in b ss n
first_low b [] n = omega arith
first_low b (s ∷ ss) zero = omega arith
first_low b (s ∷ ss) (suc n) = let l = first_low (b + length s.instructions) ss n in omega (arith, l)

in_subroutines : (p : Object) (b : ℕ) (ss : List SubroutineRow) (n x : ℕ) → first_in b ss n ≤ x → x < first_in b ss n + length (body_of (slice_get ss n)) →
    slice_index (costs_in p b ss) (x - b) ≡ slice_index (costs_at p (first_in b ss n) (body_of (slice_get ss n))) (x - first_in b ss n)
in_subroutines p b [] n x low high = absurd (omega (arith, low, high))
in_subroutines p b (s ∷ ss) zero x low high =
    let long = length_costs (weight p) b s.instructions in
    in_front (costs_at p b s.instructions) (costs_in p (b + length s.instructions) ss) (x - b) (omega (arith, low, high, long))
in_subroutines p b (s ∷ ss) (suc n) x low high =
    let long = length_costs (weight p) b s.instructions in
    let least = first_low (b + length s.instructions) ss n in
    in_back (costs_at p b s.instructions) (costs_in p (b + length s.instructions) ss) (length s.instructions) (x - b) long (omega (arith, low, least))
    ∙ ap (slice_index (costs_in p (b + length s.instructions) ss)) (omega arith)
    ∙ in_subroutines p (b + length s.instructions) ss n x low high

main_long : (p : Object) → length (main_costs p) ≡ length p.detail + length p.total
main_long p =
    let d = length_costs (weight p) 0 p.detail in
    let t = length_costs (weight p) (length p.detail) p.total in
    let both = length-append (costs_at p 0 p.detail) (costs_at p (length p.detail) p.total) in
    omega (arith, d, t, both)

-- by its section, where the section's first place is `first`
by_section : (p : Object) (s : Section) (x : ℕ) → first_place p s ≤ x → x < place_after p s → slice_index (costs p) x ≡ slice_index (costs_at p (first_place p s) (section_instructions p s)) (x - first_place p s)
unfolding first_place place_after
by_section p Detail x low high =
    let d = length_costs (weight p) 0 p.detail in
    let all = main_long p in
    in_front (main_costs p) (costs_in p (length p.detail + length p.total) p.subroutines) x (omega (arith, all, high))
    ∙ in_front (costs_at p 0 p.detail) (costs_at p (length p.detail) p.total) x (omega (arith, d, high))
    ∙ ap (slice_index (costs_at p 0 p.detail)) (omega arith)
by_section p Total x low high =
    let d = length_costs (weight p) 0 p.detail in
    let all = main_long p in
    in_front (main_costs p) (costs_in p (length p.detail + length p.total) p.subroutines) x (omega (arith, all, high))
    ∙ in_back (costs_at p 0 p.detail) (costs_at p (length p.detail) p.total) (length p.detail) x d low
by_section p (Subroutine n) x low high =
    let least = first_low (length p.detail + length p.total) p.subroutines n in
    in_back (main_costs p) (costs_in p (length p.detail + length p.total) p.subroutines) (length p.detail + length p.total) x (main_long p) (omega (arith, least, low))
    ∙ in_subroutines p (length p.detail + length p.total) p.subroutines n x low high

pub cost_there : (p : Object) (x : Place) → first_place p x.section ≤ x.number → cost p x ≡ slice_index (costs_at p (first_place p x.section) (section_instructions p x.section)) (x.number - first_place p x.section)
cost_there p x low = by_test (nat_le (first_place p x.section) x.number) (le-leb (first_place p x.section) x.number low)
  where
    by_test : (b : Bool) → b ≡ true → cond b (slice_index (costs_at p (first_place p x.section) (section_instructions p x.section)) (x.number - first_place p x.section)) 0 ≡ slice_index (costs_at p (first_place p x.section) (section_instructions p x.section)) (x.number - first_place p x.section)
    by_test true e = refl
    by_test false e = cc

-- the costs of all places have the cost of each
pub stored : (p : Object) (x : Place) → first_place p x.section ≤ x.number → x.number < place_after p x.section → slice_index (costs p) x.number ≡ cost p x
stored p x low high = by_section p x.section x.number low high ∙ sym (cost_there p x low)

-- ---- sections end within the program

end_in : (b : ℕ) (ss : List SubroutineRow) (n : ℕ) → first_in b ss n + length (body_of (slice_get ss n)) ≤ b + instructions_in ss
end_in b [] n = omega arith
end_in b (s ∷ ss) zero = omega arith
end_in b (s ∷ ss) (suc n) = let h = end_in (b + length s.instructions) ss n in omega (arith, h)

pub ends_within : (p : Object) (s : Section) → place_after p s ≤ places_of p
unfolding place_after first_place
ends_within p Detail = omega arith
ends_within p Total = omega arith
ends_within p (Subroutine n) = end_in (length p.detail + length p.total) p.subroutines n

-- ---- as they are stored

pub read_stored : (p : Object) (x : Place) (all : List ℕ) → all ≡ costs p → first_place p x.section ≤ x.number → x.number < place_after p x.section → slice_index all x.number ≡ cost p x
read_stored p x all e low high = ap (λ xs. slice_index xs x.number) e ∙ stored p x low high
