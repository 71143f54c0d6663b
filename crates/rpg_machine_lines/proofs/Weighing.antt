-- Weights of lines of which some are left, and how much lines weigh at most.
use Rattle.std.proofs.Common.{◌≡◌, ℕ, suc, ◌+◌, ◌*◌, ◌<◌, ◌≤◌, All, Bool, true, false, cond, List, [], ◌∷◌, map, drop, length, get_or, ap, arith}
use Rattle.rpg_program.specs.Weights.{lines_weight}
use Rattle.rpg_program.specs.declared.line.Time.{Time}
use Rattle.rpg_machine_lines.proofs.Left.{from_named}
use Rattle.rpg_program.specs.Kept.{IsLineRow, IsProgram}
use Rattle.rpg_program.specs.Object.{LineRow, Object, line_row, lines_of, program_line}
use Rattle.rpg_program.specs.declared.rows.Line.{Line}

-- the weights of the lines that are left
abbrev pub weight_left : Object → (Time → Bool) → List Line → ℕ → ℕ
weight_left p meant lines i = lines_weight meant (map (program_line p) (map line_row (drop i lines)))

pub line_left : (p : Object) (meant : Time → Bool) (lines : List Line) (i : ℕ) (l : Line) → i < length lines → l ≡ get_or lines i l →
    weight_left p meant lines i ≡ cond (meant l.time) (1 + length l.fields.items) 0 + weight_left p meant lines (i + 1)
line_left p meant lines i l h e = ap (λ xs. lines_weight meant (map (program_line p) xs)) (ap (map line_row) (from_named lines i l h e))

lines_few : (p : Object) (meant : Time → Bool) (ls : List LineRow) → All IsLineRow ls → lines_weight meant (map (program_line p) ls) ≤ 201 * length ls
lines_few p meant [] h = omega arith
lines_few p meant (l ∷ ls) h = by_time (meant l.time) (lines_few p meant ls (λ k d low. h (suc k) d (omega (arith, low)))) (h 0 l (omega arith)).few_fields
  where
    by_time : (b : Bool) → lines_weight meant (map (program_line p) ls) ≤ 201 * length ls → length l.fields ≤ 200 →
        cond b (1 + length l.fields) 0 + lines_weight meant (map (program_line p) ls) ≤ 201 * length (l ∷ ls)
    by_time true r w = omega (arith, r, w)
    by_time false r w = omega (arith, r)

-- all lines of a program weigh no more than this
pub weight_few : (p : Object) (meant : Time → Bool) → IsProgram p → lines_weight meant (lines_of p) ≤ 201000
weight_few p meant h = let e = lines_few p meant p.lines h.lines in let n = h.few_lines in omega (arith, e, n)
