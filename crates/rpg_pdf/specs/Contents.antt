-- What a sheet shows: the operators of its contents, or why a page doesn't fit it.
use Rattle.std.specs.Prelude.{◌≡◌, ℕ, zero, suc, ◌+◌, ◌-◌, ◌*◌, ◌/◌, ◌==◌, ◌||◌, min, nat_lt, if◌then◌else◌, not, List, [], ◌∷◌, ◌++◌, length, slice_index, position, codes, Option, None, Some, Result, Ok, Err, ⊤}
use Rattle.std.specs.List.{flat_map}
use Rattle.rpg_text.specs.Texts.{all_blank, is_character}
use Rattle.rpg_pdf.specs.Pages.{lines, strikes}
use Rattle.rpg_pdf.specs.Sheets.{baseline, line_top, strike_left, width_of}
use Rattle.rpg_pdf.specs.Texts.{filled}
use Rattle.rpg_pdf.specs.declared.state.PageFault.{PageFault}
use Rattle.rpg_pdf.specs.declared.state.PageFault.TheVariants as faults
use Rattle.rpg_pdf.specs.declared.state.Sheet.{Sheet}

-- ---- a strike

-- a parenthesis or a backslash has a backslash before it
abbrev pub escaped_byte : ℕ → List ℕ
escaped_byte b = if (b == 40 || b == 41) || b == 92 then 92 ∷ b ∷ [] else b ∷ []

-- a text between parentheses
abbrev pub escaped : List ℕ → List ℕ
escaped text = flat_map escaped_byte text

-- a text at a place
abbrev pub shown_at : (x y : ℕ) → List ℕ → List ℕ
shown_at x y text = filled (codes "1 0 0 1 $ $ Tm (") (x ∷ y ∷ []) ++ escaped text ++ codes ") Tj\n"

-- strike k of a line, unless it is blank
abbrev pub strike_text : Sheet → (line k : ℕ) → List ℕ → List ℕ
strike_text s line k strike = if all_blank strike then [] else shown_at (strike_left s k) (baseline s line) strike

-- a byte that isn't a character, by its place in the strike
abbrev pub character_fault : (line : ℕ) → List ℕ → Option ℕ → Option PageFault
character_fault line strike None = None
character_fault line strike (Some place) = Some (faults.Character (line + 1) (place + 1) (slice_index strike place))

-- a strike with too many columns
abbrev pub columns_fault : Sheet → (line : ℕ) → List ℕ → Option PageFault
columns_fault s line strike = if nat_lt s.settings.columns (length strike) then Some (faults.Columns (line + 1) (length strike)) else None

-- the first of two
abbrev pub first_of : Option PageFault → Option PageFault → Option PageFault
first_of None later = later
first_of (Some fault) later = Some fault

-- why a strike doesn't fit, if it doesn't
abbrev pub strike_fault : Sheet → (line : ℕ) → List ℕ → Option PageFault
strike_fault s line strike = first_of (character_fault line strike (position (λ b. not (is_character b)) strike)) (columns_fault s line strike)

-- ---- the strikes of a line, and the lines of a page

-- from strike k on
abbrev pub strikes_text : Sheet → (line k : ℕ) → List (List ℕ) → List ℕ
strikes_text s line k [] = []
strikes_text s line k (x ∷ xs) = strike_text s line k x ++ strikes_text s line (min (k + 1) 3) xs

abbrev pub strikes_fault : Sheet → (line : ℕ) → List (List ℕ) → Option PageFault
strikes_fault s line [] = None
strikes_fault s line (x ∷ xs) = first_of (strike_fault s line x) (strikes_fault s line xs)

-- from a line on
abbrev pub lines_text : Sheet → (line : ℕ) → List (List ℕ) → List ℕ
lines_text s line [] = []
lines_text s line (x ∷ xs) = strikes_text s line 0 (strikes x) ++ lines_text s (line + 1) xs

abbrev pub lines_fault : Sheet → (line : ℕ) → List (List ℕ) → Option PageFault
lines_fault s line [] = None
lines_fault s line (x ∷ xs) = first_of (strikes_fault s line (strikes x)) (lines_fault s (line + 1) xs)

-- the most bytes of a page
abbrev pub most_page_bytes : ℕ
most_page_bytes = 1048576

-- why a page has too many lines, or one of them doesn't fit
abbrev pub all_lines_fault : Sheet → List (List ℕ) → Option PageFault
all_lines_fault s all = if nat_lt s.settings.length (length all) then Some (faults.Lines (length all)) else lines_fault s 0 all

-- why a page doesn't fit the sheet, if it doesn't
unfoldable pub page_fault : Sheet → List ℕ → Option PageFault
page_fault s page = if nat_lt most_page_bytes (length page) then Some faults.Bytes else all_lines_fault s (lines page)

-- ---- the contents of a sheet

-- how many lines a bar covers that begins at this line: three, or those that are left
abbrev pub covered_lines : Sheet → ℕ → ℕ
covered_lines s line = min (s.settings.length - line) 3

-- a bar: its left and lower edge, its width and height
abbrev pub bar_text : Sheet → (line : ℕ) → List ℕ
bar_text s line =
    filled (codes "$ $ $ $ re f\n") (s.left ∷ line_top s (line + covered_lines s line) ∷ width_of s.settings.columns s.font ∷ covered_lines s line * s.lead ∷ [])

-- this many bars, each six lines below the one before
abbrev pub bars_text : Sheet → ℕ → List ℕ
bars_text s zero = []
bars_text s (suc n) = bars_text s n ++ bar_text s (6 * n)

-- the bars in light green, if they are asked for, and black again
abbrev pub background : Sheet → List ℕ
background s = if s.settings.has_bars then codes "0.88 0.96 0.88 rg\n" ++ bars_text s ((s.settings.length + 5) / 6) ++ codes "0 g\n" else []

-- the contents of a sheet for a page
unfoldable pub contents : Sheet → List ℕ → List ℕ
contents s page = background s ++ filled (codes "BT /F $ Tf\n") (s.font ∷ []) ++ lines_text s 0 (lines page) ++ codes "ET\n"

-- on success either a page's fault is returned, or there is none and a text was appended
abbrev pub Shows : {E : Type 0} → Option PageFault → List ℕ → (old new : List ℕ) → Result (Option PageFault) E → Type 0
Shows fault text old new (Ok found) = (found ≡ fault) × (fault ≡ None → new ≡ old ++ text)
Shows fault text old new (Err e) = ⊤
