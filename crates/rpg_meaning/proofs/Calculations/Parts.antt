-- The program has the code of each part at its section.
use Rattle.std.proofs.Common.{◌≡◌, ℕ, suc, ◌+◌, Bool, true, false, cond, List, [], ◌∷◌, length, Option, refl, sym, ap, ◌∙◌, arith, slice_get}
use Rattle.rpg_cards.specs.Statements.{Calculation}
use Rattle.rpg_cards.specs.Keys.{Key, Name}
use Rattle.rpg_cards.specs.Sections.{Sections, Subroutine, callee, is_same_name}
use Rattle.rpg_compile_program.proofs.Counts.{code_length}
use Rattle.rpg_compile_program.specs.Code.{code_from, label_place, calculations_code, sizes, subroutines_code}
use Rattle.rpg_compile_program.specs.Whole.{IsCodeOf, called_number}
use Rattle.rpg_meaning.specs.Calculations.Agreement.{part_section}
use Rattle.rpg_meaning.specs.Calculations.Parts.{InDetail, InSubroutine, InTotal, Part, body_named, calculations_in}
use Rattle.rpg_program.specs.Object.{Object, SubroutineRow}
use Rattle.rpg_program.specs.Sections.{body_of, first_in, first_place, section_instructions}

-- the number of the part's own subroutine
abbrev pub own_number : Sections Key → Part → ℕ
own_number c InDetail = 0
own_number c InTotal = 0
own_number c (InSubroutine name) = callee name c.subroutines

module _ (number : Key → ℕ) (level : ℕ → ℕ) (c : Sections Key) (p : Object) where
  pub section_length : (own first : ℕ) (gs : List (Calculation Key)) → length (calculations_code number (called_number c) own first gs) ≡ sizes gs
  unfolding calculations_code
  section_length own first gs = code_length number (λ l. label_place l gs first) (called_number c) own first gs

  none_there : (own first : ℕ) → [] ≡ calculations_code number (called_number c) own first []
  unfolding calculations_code code_from
  none_there own first = refl

  abbrev rows_from : ℕ → ℕ → List (Subroutine Key) → List SubroutineRow
  rows_from own first ss = subroutines_code number (called_number c) level own first ss

  -- the rows of the subroutines have, at the number of a name, the code of the subroutine of that name
  abbrev HasBody : Option Name → ℕ → ℕ → List SubroutineRow → ℕ → List (Calculation Key) → Type 0
  HasBody name own first rows n body = body_of (slice_get rows n) ≡ calculations_code number (called_number c) (own + n) (first_in first rows n) body

  body_there : (name : Option Name) (own first : ℕ) (ss : List (Subroutine Key)) → HasBody name own first (rows_from own first ss) (callee name ss) (body_named name ss)
  unfolding subroutines_code
  body_there name own first [] = none_there (own + 0) first
  body_there name own first (s ∷ ss) = by_name (is_same_name name s.name) (body_there name (suc own) (first + sizes s.body) ss)
    where
      by_name : (b : Bool) → HasBody name (suc own) (first + sizes s.body) (rows_from (suc own) (first + sizes s.body) ss) (callee name ss) (body_named name ss)
          → HasBody name own first (rows_from own first (s ∷ ss)) (cond b 0 (suc (callee name ss))) (cond b s.body (body_named name ss))
      by_name true later = let o : own ≡ own + 0 = omega arith in ap (λ n. calculations_code number (called_number c) n first s.body) o
      by_name false later =
          let o : suc own + callee name ss ≡ own + suc (callee name ss) = omega arith in
          later
          ∙ (λ i. calculations_code number (called_number c) (o i) (first_in (first + sym (section_length own first s.body) i) (rows_from (suc own) (first + sizes s.body) ss) (callee name ss)) (body_named name ss))

  pub code_of_part : IsCodeOf number level c p → (part : Part) → section_instructions p (part_section c part) ≡ calculations_code number (called_number c) (own_number c part) (first_place p (part_section c part)) (calculations_in c part)
  unfolding first_place
  code_of_part is InDetail = is.detail
  code_of_part is InTotal = is.total ∙ ap (λ n. calculations_code number (called_number c) 0 n c.total) (sym (ap length is.detail ∙ section_length 0 0 c.detail))
  code_of_part is (InSubroutine name) =
      let detail = ap length is.detail ∙ section_length 0 0 c.detail in
      let total = ap length is.total ∙ section_length 0 (sizes c.detail) c.total in
      let own : 0 + callee name c.subroutines ≡ callee name c.subroutines = omega arith in
      ap (λ rows. body_of (slice_get rows (callee name c.subroutines))) is.subroutines
      ∙ body_there name 0 (sizes c.detail + sizes c.total) c.subroutines
      ∙ (λ i. calculations_code number (called_number c) (own i) (first_in (sym detail i + sym total i) (sym is.subroutines i) (callee name c.subroutines)) (body_named name c.subroutines))
