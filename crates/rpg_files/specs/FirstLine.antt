-- The first line of some bytes, before more of the input is read.
use Rattle.std.specs.Prelude.{◌≡◌, ℕ, ◌≤◌, ◌⊎◌, true, List, [], ◌∷◌, ◌++◌, length, take, drop}
use Rattle.std.specs.List.{list_all}
use Rattle.rpg_text.specs.Texts.{is_character}
use Rattle.rpg_files.specs.Records.{records, is_valid, BeginsBad}
use Rattle.rpg_files.specs.declared.line.FirstLine.{FirstLine}
use Rattle.rpg_files.specs.declared.line.FirstLine.TheVariants as line

-- Whatever follows these bytes, this is their first record, and this many bytes of them are its line.
pub record IsFirstRecord (limit : ℕ) (bytes : List ℕ) (len line_len : ℕ) : Type 0 where
  pub ordered : len ≤ line_len
  pub within : line_len ≤ length bytes
  pub valid : is_valid limit (take len bytes) ≡ true
  pub first : (more : List ℕ) → records (bytes ++ more) ≡ take len bytes ∷ records (drop line_len bytes ++ more)

-- The line has no end yet: these bytes are characters, no more than the limit, possibly followed by a carriage
-- return.
pub record IsIncomplete (limit : ℕ) (bytes : List ℕ) (scanned : ℕ) : Type 0 where
  pub short : scanned ≤ limit
  pub within : scanned ≤ length bytes
  pub characters : list_all is_character (take scanned bytes) ≡ true
  pub following : (drop scanned bytes ≡ []) ⊎ (drop scanned bytes ≡ 13 ∷ [])

-- what the bytes begin with: a record, a bad line, or an incomplete one
abbrev pub IsFirstLine : ℕ → List ℕ → FirstLine → Type 0
IsFirstLine limit bytes (line.Record len line_len) = IsFirstRecord limit bytes len line_len
IsFirstLine limit bytes line.Bad = (more : List ℕ) → BeginsBad limit (bytes ++ more)
IsFirstLine limit bytes (line.Incomplete scanned) = IsIncomplete limit bytes scanned
