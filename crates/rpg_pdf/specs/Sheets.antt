-- The sheets that pages are printed on. Lengths are in hundredths of a point.
use Rattle.std.specs.Prelude.{◌≡◌, ℕ, ◌+◌, ◌-◌, ◌*◌, ◌/◌, ◌&&◌, min, nat_le, nat_lt, Bool, if◌then◌else◌}
use Rattle.rpg_pdf.specs.declared.state.PaperForm.{PaperForm}
use Rattle.rpg_pdf.specs.declared.state.PaperForm.TheVariants as forms
use Rattle.rpg_pdf.specs.declared.state.Settings.{Settings}
use Rattle.rpg_pdf.specs.declared.state.Sheet.{Sheet}

-- a page has 1 to 112 lines and 20 to 198 columns
abbrev pub can_print : (length columns : ℕ) → Bool
can_print length columns = (nat_le 1 length && nat_le length 112) && (nat_le 20 columns && nat_le columns 198)

-- these are the settings
pub record HasSettings (form : PaperForm) (length columns : ℕ) (has_bars : Bool) (s : Settings) : Type 0 where
  pub form_is : s.form ≡ form
  pub length_is : s.length ≡ length
  pub columns_is : s.columns ≡ columns
  pub bars_are : s.has_bars ≡ has_bars

-- from a line to the next, if the lines of a page share what the margins leave
abbrev pub lead_of : Settings → (high margins : ℕ) → ℕ
lead_of settings high margins = (high - margins) / settings.length

-- The largest size at which all columns, each 0.6 of the size wide, fit between the margins, and lines don't overlap: at most 12 points.
abbrev pub font_of : Settings → (wide margins lead : ℕ) → ℕ
font_of settings wide margins lead = min ((wide - margins) * 10 / (6 * settings.columns)) (min lead 1200)

-- how wide that many characters are
abbrev pub width_of : (columns font : ℕ) → ℕ
width_of columns font = 6 * columns * font / 10

-- a sheet of this size, with the lines in its middle
abbrev pub sheet_sized : Settings → (wide high lead font : ℕ) → Sheet
sheet_sized settings wide high lead font = record {
  settings = settings;
  width = wide;
  height = high;
  font = font;
  lead = lead;
  left = (wide - width_of settings.columns font) / 2;
  top = (high - settings.length * lead) / 2;
}

-- a sheet of this size with these margins, of two sides together
abbrev pub sheet_with : Settings → (wide high margins : ℕ) → Sheet
sheet_with settings wide high margins = sheet_sized settings wide high (lead_of settings high margins) (font_of settings wide margins (lead_of settings high margins))

-- the one with the larger characters
abbrev pub larger : (upright across : Sheet) → Sheet
larger upright across = if nat_lt upright.font across.font then across else upright

-- upright or across, with a margin of 18 points
abbrev pub turned : Settings → (short long : ℕ) → Sheet
turned settings short long = larger (sheet_with settings short long 3600) (sheet_with settings long short 3600)

-- Fanfold is 14 by 11 inches, lies across and has no margin: ten columns and six lines to the inch.
abbrev pub sheet_by : PaperForm → Settings → Sheet
sheet_by forms.A4 settings = turned settings 59500 84200
sheet_by forms.Letter settings = turned settings 61200 79200
sheet_by forms.Fanfold settings = sheet_with settings 100800 79200 0

-- the sheet of these settings
abbrev pub sheet_of : Settings → Sheet
sheet_of s = sheet_by s.form s

-- ---- places on a sheet, from its lower left corner

-- where strike k of a line begins: up to the fourth, each is a little to the right of the one before
abbrev pub strike_left : Sheet → ℕ → ℕ
strike_left s k = s.left + k * s.font / 40

-- the upper edge of a line, from 0
abbrev pub line_top : Sheet → ℕ → ℕ
line_top s line = s.height - s.top - line * s.lead

-- the baseline of a line
abbrev pub baseline : Sheet → ℕ → ℕ
baseline s line = line_top s line - (s.lead + s.font) / 2 + s.font / 5
