-- Rows of which some are left.
use Rattle.std.proofs.Common.{◌≡◌, ℕ, suc, ◌+◌, ◌<◌, Bool, not, cond, List, ◌∷◌, map, drop, length, get_or, refl, sym, ap, ◌∙◌, add-one, drop-cons}
use Rattle.rpg_program.specs.Weights.{is_exception, is_in_cycle, lines_weight, type_weight, types_weight}
use Rattle.rpg_program.specs.declared.line.Time.{Time}
use Rattle.rpg_program.specs.declared.line.Time.TheVariants as times
use Rattle.rpg_program.specs.Object.{Object, line_row, program_line, type_row}
use Rattle.rpg_program.specs.declared.rows.Line.{Line}
use Rattle.rpg_program.specs.declared.rows.RecordType.{RecordType}

left_of : {X Y : Type 0} (f : X → Y) (xs : List X) (i : ℕ) (x : X) → i < length xs → x ≡ get_or xs i x → map f (drop i xs) ≡ f x ∷ map f (drop (i + 1) xs)
left_of f xs i x h e = ap (map f) (drop-cons xs i x h ∙ ap (λ y. y ∷ drop (suc i) xs) (sym e) ∙ ap (λ k. x ∷ drop k xs) (sym (add-one i)))

-- the weights of the lines that are left
abbrev pub weight_left : Object → (Time → Bool) → List Line → ℕ → ℕ
weight_left p meant lines i = lines_weight meant (map (program_line p) (map line_row (drop i lines)))

pub line_left : (p : Object) (meant : Time → Bool) (lines : List Line) (i : ℕ) (l : Line) → i < length lines → l ≡ get_or lines i l →
    weight_left p meant lines i ≡ cond (meant l.time) (1 + length l.fields.items) 0 + weight_left p meant lines (i + 1)
line_left p meant lines i l h e = ap (λ xs. lines_weight meant (map (program_line p) xs)) (left_of line_row lines i l h e)

pub in_cycle : (t : Time) → is_in_cycle t ≡ not (is_exception t)
in_cycle times.Heading = refl
in_cycle times.Detail = refl
in_cycle times.Total = refl
in_cycle times.Exception = refl

pub type_left : (types : List RecordType) (i : ℕ) (t : RecordType) → i < length types → t ≡ get_or types i t →
    types_weight (map type_row (drop i types)) ≡ type_weight (type_row t) + types_weight (map type_row (drop (i + 1) types))
type_left types i t h e = ap types_weight (left_of type_row types i t h e)
