-- First places, ends and levels of the sections, as they are found one after the other.
use Rattle.std.proofs.Common.{◌≡◌, ℕ, zero, suc, ◌+◌, ◌<◌, List, [], ◌∷◌, map, length, get_or, Some, slice_get, refl, sym, ap, ◌∙◌, arith, add-one}
use Rattle.std.proofs.lemmas.Option.{slice_get-get_or, slice_get-map}
use Rattle.std.specs.Option.{option_map}
use Rattle.rpg_program.specs.Object.{Object, SubroutineRow, subroutine_row}
use Rattle.rpg_program.specs.Sections.{body_of, first_in, first_place, level_in, place_after}
use Rattle.rpg_program.specs.declared.rows.Subroutine.{Subroutine}
use Rattle.rpg_program.specs.declared.section.Section.TheVariants as sections
use Rattle.rpg_program.specs.Spans.{IsSpan}

pub detail_span : (p : Object) (n : ℕ) → n ≡ length p.detail → IsSpan p (record { section = sections.Detail; level = 0; first = 0; end = n })
unfolding first_place place_after
detail_span p n e = record { level = refl; first = refl; end = omega (arith, e) }

pub total_span : (p : Object) (m n : ℕ) → m ≡ length p.detail → n ≡ length p.total → IsSpan p (record { section = sections.Total; level = 0; first = m; end = m + n })
unfolding first_place place_after
total_span p m n e f = record { level = refl; first = e; end = omega (arith, e, f) }

-- the subroutine at a number
pub subroutine_at : (subs : List Subroutine) (i : ℕ) (s : Subroutine) → i < length subs → s ≡ get_or subs i s → slice_get (map subroutine_row subs) i ≡ Some (subroutine_row s)
subroutine_at subs i s h e = slice_get-map subroutine_row subs i ∙ ap (option_map subroutine_row) (slice_get-get_or subs i s h ∙ ap Some (sym e))

pub subroutine_span : (p : Object) (n first : ℕ) (s : SubroutineRow) → slice_get p.subroutines n ≡ Some s → first ≡ first_in (length p.detail + length p.total) p.subroutines n →
    IsSpan p (record { section = sections.Subroutine n; level = s.level; first = first; end = first + length s.instructions })
unfolding first_place place_after
subroutine_span p n first s at e =
    let body : length s.instructions ≡ length (body_of (slice_get p.subroutines n)) = ap (λ o. length (body_of o)) (sym at) in
    record { level = ap level_in (sym at); first = e; end = omega (arith, e, body) }

-- ---- the first place of the next subroutine

pub at_zero : (b : ℕ) (ss : List SubroutineRow) → first_in b ss 0 ≡ b
at_zero b [] = refl
at_zero b (s ∷ ss) = refl

next_first : (b : ℕ) (ss : List SubroutineRow) (n : ℕ) (s : SubroutineRow) → slice_get ss n ≡ Some s → first_in b ss (suc n) ≡ first_in b ss n + length s.instructions
next_first b [] n s h = absurd (cc)
next_first b (x ∷ ss) zero s h = at_zero (b + length x.instructions) ss ∙ ap (λ y. b + length y.instructions) (same h)
  where
    same : Some x ≡ Some s → x ≡ s
    same e = cc
next_first b (x ∷ ss) (suc n) s h = next_first (b + length x.instructions) ss n s h

pub first_after : (b : ℕ) (ss : List SubroutineRow) (n : ℕ) (s : SubroutineRow) → slice_get ss n ≡ Some s → first_in b ss (n + 1) ≡ first_in b ss n + length s.instructions
first_after b ss n s h = ap (first_in b ss) (add-one n) ∙ next_first b ss n s h
