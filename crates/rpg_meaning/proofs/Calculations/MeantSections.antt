-- The compiler divides calculations into the sections that the cards mean.
use Rattle.std.proofs.Common.{◌≡◌, ◌++◌, Bool, cond, List, [], ◌∷◌, filter, refl, ap, ◌∙◌}
use Rattle.rpg_cards.specs.Statements.{Acts, Begins, Calculation, Statement, Ends, Executes, GoesTo, Marks, Nothing, WritesExceptions}
use Rattle.rpg_cards.specs.Keys.{Key}
use Rattle.rpg_cards.specs.Sections.{Subroutine, begun_by, is_detail, is_subroutine, is_total, of_control, sections_of, subroutines_of, unless_begun, up_to_begin, with_begun}
use Rattle.rpg_sheet_specs.specs.declared.calculation.ControlLevel.{ControlLevel}
use Rattle.rpg_sheet_specs.specs.declared.calculation.ControlLevel.TheVariants as control
use Rattle.rpg_meaning.specs.Sheets.Sections.{begun_before, is_at_detail_time, is_at_total_time, is_begin, has_sr, meant_body, meant_sections, meant_subroutines}

-- ---- times

detail_same : (c : ControlLevel) → is_detail c ≡ is_at_detail_time c
detail_same control.Detail = refl
detail_same (control.Total n) = refl
detail_same control.Subroutine = refl
detail_same control.And = refl
detail_same control.Or = refl

total_same : (c : ControlLevel) → is_total c ≡ is_at_total_time c
total_same control.Detail = refl
total_same (control.Total n) = refl
total_same control.Subroutine = refl
total_same control.And = refl
total_same control.Or = refl

subroutine_same : (c : ControlLevel) → is_subroutine c ≡ has_sr c
subroutine_same control.Detail = refl
subroutine_same (control.Total n) = refl
subroutine_same control.Subroutine = refl
subroutine_same control.And = refl
subroutine_same control.Or = refl

those_same : (test own : ControlLevel → Bool) → ((c : ControlLevel) → test c ≡ own c) → (gs : List (Calculation Key)) → of_control test gs ≡ filter (λ (g : Calculation Key). own g.control) gs
those_same test own same [] = refl
those_same test own same (g ∷ gs) = λ i. cond (same g.control i) (g ∷ those_same test own same gs i) (those_same test own same gs i)

-- ---- subroutines

body_same : (gs : List (Calculation Key)) → up_to_begin gs ≡ meant_body gs
body_same [] = refl
body_same (g ∷ gs) = by (body_same gs) g.statement
  where
    by : up_to_begin gs ≡ meant_body gs → (d : Statement Key) → unless_begun (begun_by d) (g ∷ up_to_begin gs) ≡ cond (is_begin d) [] (g ∷ meant_body gs)
    by rest (Begins name) = refl
    by rest (Acts a) = λ i. g ∷ rest i
    by rest WritesExceptions = λ i. g ∷ rest i
    by rest (GoesTo label) = λ i. g ∷ rest i
    by rest (Executes name) = λ i. g ∷ rest i
    by rest (Marks label) = λ i. g ∷ rest i
    by rest (Ends label) = λ i. g ∷ rest i
    by rest Nothing = λ i. g ∷ rest i

subroutines_same : (gs : List (Calculation Key)) → subroutines_of gs ≡ meant_subroutines gs
subroutines_same [] = refl
subroutines_same (g ∷ gs) = by (subroutines_same gs) g.statement
  where
    by : subroutines_of gs ≡ meant_subroutines gs → (d : Statement Key) → with_begun (begun_by d) (up_to_begin gs) (subroutines_of gs) ≡ begun_before gs d ++ meant_subroutines gs
    by rest (Begins name) = λ i. record { name = name; body = body_same gs i } ∷ rest i
    by rest (Acts a) = rest
    by rest WritesExceptions = rest
    by rest (GoesTo label) = rest
    by rest (Executes name) = rest
    by rest (Marks label) = rest
    by rest (Ends label) = rest
    by rest Nothing = rest

-- ---- all sections

pub sections_are_meant : (gs : List (Calculation Key)) → sections_of gs ≡ meant_sections gs
sections_are_meant gs = λ i. record {
  detail = those_same is_detail is_at_detail_time detail_same gs i;
  total = those_same is_total is_at_total_time total_same gs i;
  subroutines = (ap subroutines_of (those_same is_subroutine has_sr subroutine_same gs) ∙ subroutines_same (filter (λ (g : Calculation Key). has_sr g.control) gs)) i;
}
