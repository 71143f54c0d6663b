-- The lines of a text are std's `lines`. For a text that is made of lines, that means:
use Rattle.std.specs.Prelude.{◌≡◌, ◌==◌, ℕ, Bool, true, not, List, [], ◌∷◌, ◌++◌, map}
use Rattle.std.specs.List.{flat_map, list_all}
use Rattle.std.specs.Str.Lines.{lines, strip_carriage_return}

-- a line feed
abbrev pub is_line_feed : ℕ → Bool
is_line_feed b = b == 10

-- any other byte
abbrev pub is_no_line_feed : ℕ → Bool
is_no_line_feed b = not (is_line_feed b)

-- bytes with no line feed among them
abbrev pub is_line : List ℕ → Bool
is_line = list_all is_no_line_feed

-- a text with a line feed at its end
abbrev pub with_line_feed : List ℕ → List ℕ
with_line_feed text = text ++ 10 ∷ []

-- one text, or none if it is empty
abbrev pub unless_empty : List ℕ → List (List ℕ)
unless_empty [] = []
unless_empty (b ∷ bytes) = (b ∷ bytes) ∷ []

-- Parts, each with its line feed, and then one without: the lines are the parts, each without the one carriage return at its
-- end, and the last one as it is, if it isn't empty. Every text is such parts.
abbrev pub LinesEndAtLineFeeds : Type 0
LinesEndAtLineFeeds = (parts : List (List ℕ)) (rest : List ℕ) → list_all is_line parts ≡ true → is_line rest ≡ true
    → lines (flat_map with_line_feed parts ++ rest) ≡ map strip_carriage_return parts ++ unless_empty rest
