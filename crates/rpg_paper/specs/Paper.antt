-- The printed form: its pages, positions, movements and the bytes of a list of placed lines.
use Rattle.std.specs.Prelude.{ℕ, ◌+◌, ◌-◌, ◌*◌, ◌≤◌, not, ◌&&◌, ◌||◌, List, [], ◌∷◌, ◌++◌, replicate, Option, Some, None, if◌then◌else◌, nat_lt, nat_le, ◌==◌, Bool}
use Rattle.rpg_paper.specs.declared.form.Page.{Page}
use Rattle.rpg_text.specs.Texts.{trimmed}

-- 3 to 112 lines, with the overflow line on the page
pub record IsPage (page : Page) : Type 0 where
  pub shortest : 3 ≤ page.lines
  pub longest : page.lines ≤ 112
  pub first : 1 ≤ page.overflow_line
  pub within : page.overflow_line ≤ page.lines

-- the page of a program that names none
abbrev pub standard_page : Page
standard_page = record { lines = 66; overflow_line = 60 }

-- a line of a page, both counted from 1
pub record Position : Type 0 where
  pub page : ℕ
  pub line : ℕ

-- a line of text at its position
pub record Placed : Type 0 where
  pub at : Position
  pub text : List ℕ

-- a line of text at a position
abbrev pub placed_at : Position → List ℕ → Placed
placed_at here text = record { at = here; text = text }

-- the first line of the first page
abbrev pub top_of_paper : Position
top_of_paper = record { page = 1; line = 1 }

-- the lines of the paper up to a position, counted from one page before the first
abbrev pub lines_to : Page → Position → ℕ
lines_to page p = p.page * page.lines + p.line

-- n lines on; none leaves the form where it is
abbrev pub spaced : Page → ℕ → Position → Position
spaced page n p =
    if n == 0 || nat_le (p.line + n) page.lines then record { page = p.page; line = p.line + n } else record { page = p.page + 1; line = p.line + n - page.lines }

-- to the next such line that isn't before the present one
abbrev pub skipped : ℕ → Position → Position
skipped line p = if nat_le p.line line then record { page = p.page; line = line } else record { page = p.page + 1; line = line }

-- a movement that really moves, stays on its page, and ends at the overflow line or below
abbrev pub reaches_overflow : Page → Position → Position → Bool
reaches_overflow page from to = (to.page == from.page) && nat_lt from.line to.line && nat_le page.overflow_line to.line

-- a movement from above the overflow line to the next page
abbrev pub passes_overflow : Page → Position → Position → Bool
passes_overflow page from to = not (to.page == from.page) && nat_lt from.line page.overflow_line

-- a space of n lines turns the overflow indicator on
abbrev pub space_turns_on : Page → ℕ → Position → Bool
space_turns_on page n p = reaches_overflow page p (spaced page n p) || passes_overflow page p (spaced page n p)

-- a skip to a line turns it on only on its page
abbrev pub skip_turns_on : Page → ℕ → Position → Bool
skip_turns_on page line p = reaches_overflow page p (skipped line p)

-- form feeds to the page, then line feeds from its first line; on the page, line feeds
abbrev pub travel : Position → Position → List ℕ
travel from to = if to.page == from.page then replicate (to.line - from.line) 10 else replicate (to.page - from.page) 12 ++ replicate (to.line - 1) 10

-- the way from the line placed last, if there is one; on that line again, a carriage return
abbrev pub way : Option Position → Position → List ℕ
way None to = travel top_of_paper to
way (Some from) to = if (to.page == from.page) && (to.line == from.line) then 13 ∷ [] else travel from to

-- what lines add to a paper whose line placed last is known
abbrev pub bytes_from : Option Position → List Placed → List ℕ
bytes_from last [] = []
bytes_from last (x ∷ xs) = way last x.at ++ trimmed x.text ++ bytes_from (Some x.at) xs

-- the position of the line placed last, where lines follow one that was placed before
abbrev pub last_position_from : Option Position → List Placed → Option Position
last_position_from last [] = last
last_position_from last (x ∷ xs) = last_position_from (Some x.at) xs

-- the bytes of all lines, from the top of the paper
abbrev pub paper : List Placed → List ℕ
paper lines = bytes_from None lines

-- the position of the line placed last
abbrev pub last_position : List Placed → Option Position
last_position lines = last_position_from None lines
