-- Where the form is when a line may be output, how far the line moves it, and where the line is blank.
use Rattle.std.specs.Prelude.{◌≡◌, ℕ, ◌-◌, ◌≤◌, List, length, drop, replicate}
use Rattle.rpg_paper.specs.Paper.{Position}
use Rattle.rpg_program.specs.declared.line.Spacing.{Spacing}

-- at most two pages were begun since the line placed last, as by a skip and a space after it; pages are counted from there
abbrev pub IsNear : Position → Type 0
IsNear here = here.page ≤ 2

-- spaces of at most 3 lines, skips to a line that a page can have
pub record IsShort (s : Spacing) : Type 0 where
  pub space_before : s.space_before ≤ 3
  pub space_after : s.space_after ≤ 3
  pub skip_before : s.skip_before ≤ 112
  pub skip_after : s.skip_after ≤ 112

-- only blanks follow that place of the line
pub record IsBlankAfter (reach : ℕ) (text : List ℕ) : Type 0 where
  pub within : reach ≤ length text
  pub blank : drop reach text ≡ replicate (length text - reach) 32
