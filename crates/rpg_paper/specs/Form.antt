-- The position of a form. A form counts pages from the page of the line placed last, so no page number grows without bound.
use Rattle.std.specs.Prelude.{◌≡◌, ℕ, ◌+◌, ◌-◌, ◌≤◌, List, [], ◌∷◌, ◌++◌, length, replicate, take, Option, Some, None, option_map, unwrap_or, Result, OnOk, OnErr, if◌then◌else◌, ◌==◌}
pub use Rattle.rpg_text.specs.Texts.{trimmed}
use Rattle.rpg_paper.specs.declared.form.Page.{Page}
use Rattle.rpg_paper.specs.Paper.{Position, Placed, placed_at, spaced, skipped, bytes_from, paper, last_position}

-- the line placed last on its page, the pages begun since, and the present line
pub record Standing : Type 0 where
  pub last : Option ℕ
  pub begun : ℕ
  pub line : ℕ

-- at the first line of the first page, nothing being placed
abbrev pub at_first_line : Standing
at_first_line = record { last = None; begun = 0; line = 1 }

-- on a line that a page can have, and not before a line that was placed on the same page
pub record IsOnPaper (last : Option ℕ) (begun line : ℕ) : Type 0 where
  pub first : 1 ≤ line
  pub within : line ≤ 112
  pub few_pages : begun ≤ 1000
  pub forward : begun ≡ 0 → unwrap_or last 1 ≤ line

-- the page of the last line, or the first page
abbrev pub page_or_1 : Option Position → ℕ
page_or_1 None = 1
page_or_1 (Some p) = p.page

-- the line of a position, if there is one
abbrev pub line_of : Option Position → Option ℕ
line_of previous = option_map (λ p. p.line) previous

-- the form is at `here`, where `previous` is the position of the line placed last
pub record StandsAt (form : Standing) (previous : Option Position) (here : Position) : Type 0 where
  pub last_line : form.last ≡ line_of previous
  pub page : here.page ≡ page_or_1 previous + form.begun
  pub present_line : here.line ≡ form.line

-- the lines placed so far have printed these bytes, and the form is at `here`
pub record HasPrinted (form : Standing) (lines : List Placed) (here : Position) (bytes : List ℕ) : Type 0 where
  pub stands : StandsAt form (last_position lines) here
  pub printed : bytes ≡ paper lines

-- on success a line of text is printed where the form is: whatever was printed before, the bytes are those of the paper
abbrev pub PrintsLine : {X E : Type 0} → Result X E → Standing → List ℕ → List ℕ → Standing → List ℕ → Type 0
PrintsLine result old before text new now = (sent : List ℕ) (lines : List Placed) (here : Position) →
    HasPrinted old lines here (sent ++ before) → OnOk result (HasPrinted new (lines ++ placed_at here text ∷ []) here (sent ++ now))

-- on success the bytes of a line of text are added: the way to it from the line placed last, then the text
abbrev pub AddsLine : {X E : Type 0} → Result X E → Standing → List ℕ → List ℕ → List ℕ → Type 0
AddsLine result form before text now = (last : Option Position) (here : Position) →
    StandsAt form last here → OnOk result (now ≡ before ++ bytes_from last (placed_at here text ∷ []))

-- where the form is, its page counted from 0 at the line placed last
abbrev pub here_of : Standing → Position
here_of form = record { page = form.begun; line = form.line }

-- the form at a place
abbrev pub moved_to : Position → Standing → Standing
moved_to to form = record { last = form.last; begun = to.page; line = to.line }

-- after a space of n lines
abbrev pub form_after_space : Page → ℕ → Standing → Standing
form_after_space page n form = moved_to (spaced page n (here_of form)) form

-- after a skip to a line
abbrev pub form_after_skip : ℕ → Standing → Standing
form_after_skip line form = moved_to (skipped line (here_of form)) form

-- after a line is placed
abbrev pub after_line : Standing → Standing
after_line form = record { last = Some form.line; begun = 0; line = form.line }

-- on the page of the line placed last
abbrev pub way_on_page : Option ℕ → ℕ → List ℕ
way_on_page None line = replicate (line - 1) 10
way_on_page (Some last) line = if line == last then 13 ∷ [] else replicate (line - last) 10

-- what brings the paper from the line placed last to the present one
abbrev pub way_of : Standing → List ℕ
way_of form = if form.begun == 0 then way_on_page form.last form.line else replicate form.begun 12 ++ replicate (form.line - 1) 10

-- bytes were appended, or memory for them ran out and the earlier ones are still first
pub record Adds {X E : Type 0} (result : Result X E) (old new bytes : List ℕ) : Type 0 where
  pub ok : OnOk result (new ≡ old ++ bytes)
  pub err : OnErr result (take (length old) new ≡ old)

-- a line as a form places it: the pages begun since the line before, the line, and its text
pub record FormLine : Type 0 where
  pub begun : ℕ
  pub line : ℕ
  pub text : List ℕ

-- the position of such a line after a previous one
abbrev pub position_after : Option Position → FormLine → Position
position_after previous x = record { page = page_or_1 previous + x.begun; line = x.line }

-- the lines with their places, after the last one before them
abbrev pub placed_after : Option Position → List FormLine → List Placed
placed_after previous [] = []
placed_after previous (x ∷ xs) = placed_at (position_after previous x) x.text ∷ placed_after (Some (position_after previous x)) xs

-- the bytes of such lines after a line placed last
abbrev pub form_bytes : Option ℕ → List FormLine → List ℕ
form_bytes last [] = []
form_bytes last (x ∷ xs) = way_of (record { last = last; begun = x.begun; line = x.line }) ++ trimmed x.text ++ form_bytes (Some x.line) xs
