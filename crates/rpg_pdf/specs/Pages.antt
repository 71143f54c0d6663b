-- The pages of a print, their lines, and the strikes of a line.
use Rattle.std.specs.Prelude.{ℕ, ◌-◌, ◌==◌, List, [], length, take, Option}
use Rattle.std.specs.List.{slice_split, suffix_len}
use Rattle.std.specs.Option.{option_map_or}
use denote.Ref.{Bor}

-- a form feed ends a page
abbrev pub pages : List ℕ → List (List ℕ)
pages print = slice_split (λ b. b == 12) print

-- a page without the line feeds at its end: empty lines there don't count
abbrev pub printed : List ℕ → List ℕ
printed page = take (length page - suffix_len (λ b. b == 10) page) page

-- a line feed ends a line
abbrev pub lines_in : List ℕ → List (List ℕ)
lines_in text = slice_split (λ b. b == 10) text

-- the lines of a page
abbrev pub lines : List ℕ → List (List ℕ)
lines page = lines_in (printed page)

-- a carriage return ends a strike: what follows is printed over the line
abbrev pub strikes : List ℕ → List (List ℕ)
strikes line = slice_split (λ b. b == 13) line

-- the parts of a text, if there is one
abbrev pub parts_in : (end : ℕ) → Option (Bor (List ℕ)) → List (List ℕ)
parts_in end text = option_map_or (λ rest. slice_split (λ b. b == end) rest.now) text []
