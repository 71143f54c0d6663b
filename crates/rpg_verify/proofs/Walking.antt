-- Instructions of sections, one section after the other.
use Rattle.std.proofs.Common.{◌≡◌, ℕ, zero, suc, ◌+◌, ◌-◌, ◌<◌, Bool, cond, List, [], ◌∷◌, ◌++◌, map, length, drop, get_or, Option, Some, None, slice_get, refl, sym, ap, ◌∙◌, add-one, arith, length-append}
use Rattle.std.proofs.lemmas.List.{length-map, map-append}
use Rattle.std.proofs.lemmas.Option.{slice_get-map, slice_get_within}
use Rattle.std.specs.Option.{option_map, option_or}
use Rattle.rpg_program.specs.declared.operation.Instruction.{Instruction}
use Rattle.rpg_program.specs.Object.{Object, SubroutineRow}
use Rattle.rpg_program.specs.Spans.{IsSpan}
use Rattle.rpg_program.specs.declared.rows.Subroutine.{Subroutine}
use Rattle.rpg_program.specs.Sections.{instructions_in, places_of}
use Rattle.rpg_program.specs.declared.section.Section.{Section}
use Rattle.rpg_program.specs.declared.section.Section.TheVariants as sections
use Rattle.rpg_program.specs.declared.spans.Span.{Span}
use Rattle.rpg_verify.specs.Placed.{all_placed, placed_after_detail, placed_in, placed_instruction, placed_in_subroutines, span_of}
use Rattle.rpg_verify.specs.declared.places.Placed.{Placed}
use Rattle.rpg_verify_rules.specs.Least.{first_true}
use Rattle.rpg_verify_rules.specs.PlaceRules.{judged_after_detail, place_breaks, places_judged, subroutines_judged}
use Rattle.rpg_verify_rules.specs.declared.rule.PlaceRule.{PlaceRule}
use Rattle.rpg_verify_rules.proofs.Sectioning.{left, one_left}

-- what a span is
span_is : (p : Object) (s : Span) → IsSpan p s → s ≡ span_of p s.section
span_is p s h = λ i. record { section = s.section; level = h.level i; first = h.first i; end = h.end i }

-- an instruction of a section, if there is one
abbrev pub placed_with : Span → Instruction ℕ → Placed
placed_with s i = record { span = s; instruction = i }

abbrev pub placed_if_any : Span → Option (Instruction ℕ) → Option Placed
placed_if_any s o = option_map (placed_with s) o

pub section_at : (p : Object) (s : Span) → IsSpan p s → (xs : List (Instruction ℕ)) (k : ℕ) → placed_if_any s (slice_get xs k) ≡ slice_get (map (placed_in p s.section) xs) k
section_at p s h xs k =
    ap (λ x. placed_if_any x (slice_get xs k)) (span_is p s h)
    ∙ sym (slice_get-map (placed_in p s.section) xs k)

-- in the first list, or in what comes after it
pub either : {X Y : Type 0} (f : X → Y) (xs : List X) (ys : List Y) (k : ℕ) → slice_get (map f xs ++ ys) k ≡ option_or (slice_get (map f xs) k) (slice_get ys (k - length xs))
either f [] ys k = ap (slice_get ys) (omega arith)
either f (x ∷ xs) ys zero = refl
either f (x ∷ xs) ys (suc k) = either f xs ys k ∙ ap (λ n. option_or (slice_get (map f xs) k) (slice_get ys n)) (omega arith)

-- in the first subroutine that is left, or in those after it
pub either_left : (p : Object) (number : ℕ) (subs : List Subroutine) (i : ℕ) (s : Subroutine) (k : ℕ) → i < length subs → s ≡ get_or subs i s →
    slice_get (placed_in_subroutines p number (left subs i)) k
    ≡ option_or (slice_get (map (placed_in p (sections.Subroutine number)) s.instructions.items) k)
    (slice_get (placed_in_subroutines p (number + 1) (left subs (i + 1))) (k - length s.instructions.items))
either_left p number subs i s k h e =
    ap (λ xs. slice_get (placed_in_subroutines p number xs) k) (one_left subs i s h e)
    ∙ either (placed_in p (sections.Subroutine number)) s.instructions.items (placed_in_subroutines p (number + 1) (left subs (i + 1))) k

-- ---- what the rules make of them

abbrev pub judged : PlaceRule → Object → Placed → Bool
judged r p x = place_breaks r p x.span.section x.instruction

section_is : (r : PlaceRule) (p : Object) (s : Section) (xs : List (Instruction ℕ)) → map (place_breaks r p s) xs ≡ map (judged r p) (map (placed_in p s) xs)
section_is r p s [] = refl
section_is r p s (i ∷ is) = ap (λ bs. place_breaks r p s i ∷ bs) (section_is r p s is)

subroutines_are : (r : PlaceRule) (p : Object) (n : ℕ) (ss : List SubroutineRow) → subroutines_judged r p n ss ≡ map (judged r p) (placed_in_subroutines p n ss)
subroutines_are r p n [] = refl
subroutines_are r p n (s ∷ ss) =
    ap (λ bs. bs ++ subroutines_judged r p (n + 1) ss) (section_is r p (sections.Subroutine n) s.instructions)
    ∙ ap (λ bs. map (judged r p) (map (placed_in p (sections.Subroutine n)) s.instructions) ++ bs) (subroutines_are r p (n + 1) ss)
    ∙ sym (map-append (judged r p) (map (placed_in p (sections.Subroutine n)) s.instructions) (placed_in_subroutines p (n + 1) ss))

after_detail_are : (r : PlaceRule) (p : Object) → judged_after_detail r p ≡ map (judged r p) (placed_after_detail p)
after_detail_are r p =
    ap (λ bs. bs ++ subroutines_judged r p 0 p.subroutines) (section_is r p sections.Total p.total)
    ∙ ap (λ bs. map (judged r p) (map (placed_in p sections.Total) p.total) ++ bs) (subroutines_are r p 0 p.subroutines)
    ∙ sym (map-append (judged r p) (map (placed_in p sections.Total) p.total) (placed_in_subroutines p 0 p.subroutines))

-- the rules judge the instructions place by place
pub places_are : (r : PlaceRule) (p : Object) → places_judged r p ≡ map (judged r p) (all_placed p)
places_are r p =
    ap (λ bs. bs ++ judged_after_detail r p) (section_is r p sections.Detail p.detail)
    ∙ ap (λ bs. map (judged r p) (map (placed_in p sections.Detail) p.detail) ++ bs) (after_detail_are r p)
    ∙ sym (map-append (judged r p) (map (placed_in p sections.Detail) p.detail) (placed_after_detail p))

-- ---- how many they are

module _ (p : Object) where
  subroutines_long : (n : ℕ) (ss : List SubroutineRow) → length (placed_in_subroutines p n ss) ≡ instructions_in ss
  subroutines_long n [] = refl
  subroutines_long n (s ∷ ss) =
      let here = length-map s.instructions (placed_in p (sections.Subroutine n)) in
      let both = length-append (map (placed_in p (sections.Subroutine n)) s.instructions) (placed_in_subroutines p (n + 1) ss) in
      let later = subroutines_long (n + 1) ss in
      omega (arith, here, both, later)

  all_long : length (all_placed p) ≡ places_of p
  all_long =
      let detail = length-map p.detail (placed_in p sections.Detail) in
      let total = length-map p.total (placed_in p sections.Total) in
      let later = subroutines_long 0 p.subroutines in
      let after = length-append (map (placed_in p sections.Total) p.total) (placed_in_subroutines p 0 p.subroutines) in
      let both = length-append (map (placed_in p sections.Detail) p.detail) (placed_after_detail p) in
      omega (arith, detail, total, later, after, both)

  pub place_within : (place : ℕ) (x : Placed) → Some x ≡ placed_instruction p place → place < places_of p
  unfolding placed_instruction
  place_within place x h = let inside = slice_get_within (all_placed p) place x (sym h) in omega (arith, inside, all_long)

-- ---- the first that breaks a rule, among those from a place on

abbrev pub breaks_from : PlaceRule → Object → ℕ → Option ℕ
breaks_from r p place = first_true place (map (judged r p) (drop place (all_placed p)))

-- the one at the place, or one of these after it
abbrev pub or_later : PlaceRule → Object → ℕ → List Placed → Option Placed → Option ℕ
or_later r p place xs None = None
or_later r p place xs (Some x) = cond (judged r p x) (Some place) (first_true (place + 1) (map (judged r p) xs))

abbrev pub breaks_or_later : PlaceRule → Object → ℕ → Option Placed → Option ℕ
breaks_or_later r p place o = or_later r p place (drop (place + 1) (all_placed p)) o

first_left : (r : PlaceRule) (p : Object) (n : ℕ) (xs : List Placed) (k : ℕ) → first_true n (map (judged r p) (drop k xs)) ≡ or_later r p n (drop (suc k) xs) (slice_get xs k)
first_left r p n [] zero = refl
first_left r p n [] (suc k) = refl
first_left r p n (x ∷ xs) zero = refl
first_left r p n (x ∷ xs) (suc k) = first_left r p n xs k

pub breaks_at : (r : PlaceRule) (p : Object) (place : ℕ) → breaks_from r p place ≡ breaks_or_later r p place (placed_instruction p place)
unfolding placed_instruction
breaks_at r p place =
    first_left r p place (all_placed p) place
    ∙ ap (λ k. or_later r p place (drop k (all_placed p)) (slice_get (all_placed p) place)) (sym (add-one place))
