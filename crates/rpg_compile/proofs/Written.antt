-- Subroutines written one after the other.
use Rattle.std.proofs.Common.{◌≡◌, ℕ, suc, ◌+◌, ◌<◌, List, [], ◌∷◌, ◌++◌, length, map, Option, refl, sym, ap, ◌∙◌, arith, append_assoc, append-nil, add-one}
use Rattle.std.proofs.lemmas.List.{map-append}
use Rattle.rpg_cards.specs.Keys.{Key, Name}
use Rattle.rpg_cards.specs.Sections.{Subroutine}
use Rattle.rpg_compile_program.specs.Code.{calculations_code, sizes, subroutines_code}
use Rattle.rpg_program.specs.Object.{SubroutineRow, subroutine_row}
use Rattle.rpg_program.specs.declared.rows.Subroutine as row

module _ (number : Key → ℕ) (called : Option Name → ℕ) (level : ℕ → ℕ) where
  abbrev pub row_of : ℕ → ℕ → Subroutine Key → SubroutineRow
  row_of own first s = record { level = level own; instructions = calculations_code number called own first s.body }

  pub one_row_more : (now new : List row.Subroutine) (made : row.Subroutine) (all : List SubroutineRow) (own place following : ℕ) (s : Subroutine Key) (rest later : List (Subroutine Key)) → rest ≡ s ∷ later → new ≡ now ++ made ∷ []
      → subroutine_row made ≡ row_of own place s → following ≡ place + sizes s.body
      → map subroutine_row now ++ subroutines_code number called level own place rest ≡ all → map subroutine_row new ++ subroutines_code number called level (own + 1) following later ≡ all
  unfolding subroutines_code
  one_row_more now new made all own place following s rest later split pushed is ends so_far =
      ap (λ rows. map subroutine_row rows ++ subroutines_code number called level (own + 1) following later) pushed
      ∙ ap (λ rows. rows ++ subroutines_code number called level (own + 1) following later) (map-append subroutine_row now (made ∷ []))
      ∙ append_assoc (map subroutine_row now) (subroutine_row made ∷ []) (subroutines_code number called level (own + 1) following later)
      ∙ ap (λ r. map subroutine_row now ++ (r ∷ subroutines_code number called level (own + 1) following later)) is
      ∙ ap (λ n. map subroutine_row now ++ (row_of own place s ∷ subroutines_code number called level n following later)) (add-one own)
      ∙ ap (λ n. map subroutine_row now ++ (row_of own place s ∷ subroutines_code number called level (suc own) n later)) ends
      ∙ ap (λ ss. map subroutine_row now ++ subroutines_code number called level own place ss) (sym split) ∙ so_far

  pub no_row_left : (now : List row.Subroutine) (all : List SubroutineRow) (own place : ℕ) (rest : List (Subroutine Key)) → rest ≡ [] → map subroutine_row now ++ subroutines_code number called level own place rest ≡ all → map subroutine_row now ≡ all
  unfolding subroutines_code
  no_row_left now all own place rest none so_far = sym (append-nil (map subroutine_row now)) ∙ ap (λ ss. map subroutine_row now ++ subroutines_code number called level own place ss) (sym none) ∙ so_far

-- subroutines of equal levels
pub same_levels : (number : Key → ℕ) (called : Option Name → ℕ) (f g : ℕ → ℕ) (own first : ℕ) (ss : List (Subroutine Key)) → ((s : ℕ) → s < own + length ss → f s ≡ g s)
    → subroutines_code number called f own first ss ≡ subroutines_code number called g own first ss
unfolding subroutines_code
same_levels number called f g own first [] same = refl
same_levels number called f g own first (s ∷ ss) same =
    ap (λ n. record { level = n; instructions = calculations_code number called own first s.body } ∷ subroutines_code number called f (suc own) (first + sizes s.body) ss) (same own (omega arith))
    ∙ ap (λ rows. record { level = g own; instructions = calculations_code number called own first s.body } ∷ rows) (same_levels number called f g (suc own) (first + sizes s.body) ss (λ n low. same n (omega arith)))

pub no_rows : (number : Key → ℕ) (called : Option Name → ℕ) (level : ℕ → ℕ) (own first : ℕ) (ss : List (Subroutine Key)) → length ss ≡ 0 → subroutines_code number called level own first ss ≡ []
unfolding subroutines_code
no_rows number called level own first [] none = refl
no_rows number called level own first (s ∷ ss) none = absurd cc
