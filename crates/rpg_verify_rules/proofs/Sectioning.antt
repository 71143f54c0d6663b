-- Subroutines, of which some are left.
use Rattle.std.proofs.Common.{◌≡◌, ℕ, suc, ◌+◌, ◌<◌, List, ◌∷◌, map, length, drop, get_or, sym, ap, ◌∙◌, add-one, drop-cons}
use Rattle.rpg_program.specs.declared.rows.Subroutine.{Subroutine}
use Rattle.rpg_program.specs.Object.{SubroutineRow, subroutine_row}
use Rattle.rpg_program.specs.Sections.{instructions_in}

abbrev pub left : List Subroutine → ℕ → List SubroutineRow
left subs i = map subroutine_row (drop i subs)

pub one_left : (subs : List Subroutine) (i : ℕ) (s : Subroutine) → i < length subs → s ≡ get_or subs i s → left subs i ≡ subroutine_row s ∷ left subs (i + 1)
one_left subs i s h e = ap (map subroutine_row) (drop-cons subs i s h ∙ ap (λ x. x ∷ drop (suc i) subs) (sym e) ∙ ap (λ k. s ∷ drop k subs) (sym (add-one i)))

pub fewer_left : (subs : List Subroutine) (i : ℕ) (s : Subroutine) → i < length subs → s ≡ get_or subs i s → instructions_in (left subs i) ≡ length s.instructions.items + instructions_in (left subs (i + 1))
fewer_left subs i s h e = ap instructions_in (one_left subs i s h e)
